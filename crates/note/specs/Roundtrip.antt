-- That a written note reads back, and that bytes are read only as what is written for them. Assumes nothing.
use Rattle.std.specs.Prelude.{◌≡◌, ℕ, ◌≤◌, true, List, ◌++◌, length, drop, Ok, Err, Result}
use Rattle.note.specs.declared.refusals.NoteRefusal.{NoteRefusal}
use Rattle.note.specs.declared.refusals.NoteRefusal.TheVariants.{RegisterShort}
use Rattle.note.specs.declared.trades.Heading.{Heading}
use Rattle.note.specs.declared.trades.Trade.{Trade}
use Rattle.note.specs.Notes.{Note, is_legal, note_bytes}
use Rattle.note.specs.Reading.{read_answer, read_register}
use Rattle.note.specs.Writing.{write_answer, write_buffer}

-- the bytes read back as this price and these trades, in any register that has a place for each
pub record ReadsBack (price count : ℕ) (trades : List Trade) (bytes : List ℕ) : Type 0 where
  pub answer : (places : ℕ) → count ≤ places → read_answer bytes places ≡ Ok (record { price = price; count = count })
  pub register : (places : List Trade) → count ≤ length places → read_register bytes places ≡ trades ++ drop count places

-- the bytes are what is written, into any buffer that holds them, for this heading and the trades of this register
pub record WritesBack (bytes : List ℕ) (heading : Heading) (register : List Trade) : Type 0 where
  pub answer : (room : ℕ) → length bytes ≤ room → write_answer heading.price heading.count register room ≡ Ok (length bytes)
  pub after : (buffer : List ℕ) → length bytes ≤ length buffer → write_buffer heading.price heading.count register buffer ≡ bytes ++ drop (length bytes) buffer

-- bytes are accepted only as what is written for the answer, and a legal note's are refused only for want of places
abbrev pub Exact : List ℕ → List Trade → Result Heading NoteRefusal → Type 0
Exact bytes register (Ok heading) = WritesBack bytes heading register
Exact bytes register (Err why) = (n : Note) → is_legal n ≡ true → bytes ≡ note_bytes n → why ≡ RegisterShort
