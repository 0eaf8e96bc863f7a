-- What the private steps of the writer and the reader promise. Assumes nothing.
use Rattle.std.specs.Prelude.{◌≡◌, ℕ, Bool, ◌&&◌, ◌||◌, List, [], length, Ok, Err, Result, ◌==◌, nat_lt}
use Rattle.note.specs.declared.refusals.NoteRefusal.{NoteRefusal}
use Rattle.note.specs.declared.trades.Heading.{Heading}
use Rattle.note.specs.declared.trades.Trade.{Trade}
use Rattle.note.specs.Reading.{read_trades, read_note}

-- no number of 32 bits has this byte as its group at this place: 0 after the first, or a fifth above four bits
abbrev pub misplaced : ℕ → ℕ → Bool
misplaced place byte = (nat_lt 0 place && byte == 0) || (place == 4 && nat_lt 15 byte)

-- what was read, together with the bytes after it
abbrev pub with_rest : {X : Type 0} → Result X NoteRefusal → List ℕ → Result (X × List ℕ) NoteRefusal
with_rest (Ok x) rest = Ok (x, rest)
with_rest (Err why) rest = Err why

-- the same outcome, with a value that stands elsewhere
abbrev pub carrying : {X : Type 0} → Result (Unit {0}) NoteRefusal → X → Result X NoteRefusal
carrying (Ok _) x = Ok x
carrying (Err why) x = Err why

-- so many trades are read, and none of them is kept
abbrev pub passed : Result (List Trade × List ℕ) NoteRefusal → Result (Unit {0} × List ℕ) NoteRefusal
passed (Ok (trades, rest)) = Ok (tt, rest)
passed (Err why) = Err why

abbrev pub pass_trades : ℕ → List ℕ → Result (Unit {0} × List ℕ) NoteRefusal
pass_trades count bytes = passed (read_trades count bytes)

-- a reader went from some bytes to those that are left, and took what `read` reads there
abbrev pub Took : {X : Type 0} → (List ℕ → Result (X × List ℕ) NoteRefusal) → List ℕ → List ℕ → Result X NoteRefusal → Type 0
Took read bytes left r = with_rest r left ≡ read bytes

-- the note that the bytes are, all of them: its heading, and where its trades begin
pub record Stands (bytes : List ℕ) (heading : Heading) (first : List ℕ) : Type 0 where
  pub trades : List Trade
  pub note : read_note bytes ≡ Ok (record { price = heading.price; trades = trades })
  pub counted : length trades ≡ heading.count
  pub begins : read_trades heading.count first ≡ Ok (trades, [])

abbrev pub Judged : List ℕ → Result (Heading × List ℕ) NoteRefusal → Type 0
Judged bytes (Ok (heading, first)) = Stands bytes heading first
Judged bytes (Err why) = read_note bytes ≡ Err why
