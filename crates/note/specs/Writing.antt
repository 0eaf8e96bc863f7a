-- What writing a note answers, and what the buffer holds afterwards. Assumes nothing.
use Rattle.std.specs.Prelude.{ℕ, Bool, cond, ◌&&◌, List, ◌++◌, length, take, drop, Ok, Err, Result, nat_le}
use Rattle.note.specs.declared.refusals.NoteRefusal.{NoteRefusal}
use Rattle.note.specs.declared.refusals.NoteRefusal.TheVariants.{BufferShort, OutOfRange}
use Rattle.note.specs.declared.trades.Trade.{Trade}
use Rattle.note.specs.Notes.{Note, is_legal, note_bytes}

-- the note of a price and the first trades of a register
abbrev pub note_of : ℕ → ℕ → List Trade → Note
note_of price count register = record { price = price; trades = take count register }

-- the count is that of trades in the register, and the note is legal
abbrev pub is_writable : ℕ → ℕ → List Trade → Bool
is_writable price count register = nat_le count (length register) && is_legal (note_of price count register)

-- the length of the note's bytes, if it can be written and the buffer holds them
abbrev pub write_answer : ℕ → ℕ → List Trade → ℕ → Result ℕ NoteRefusal
write_answer price count register room =
    let len = length (note_bytes (note_of price count register)) in
    cond (is_writable price count register) (cond (nat_le len room) (Ok len) (Err BufferShort)) (Err OutOfRange)

-- the buffer begins with the note's bytes and later bytes stay; a refusal leaves every byte
abbrev pub written : Result ℕ NoteRefusal → List ℕ → List ℕ → List ℕ
written (Ok len) bytes buffer = bytes ++ drop len buffer
written (Err why) bytes buffer = buffer

abbrev pub write_buffer : ℕ → ℕ → List Trade → List ℕ → List ℕ
write_buffer price count register buffer =
    written (write_answer price count register (length buffer)) (note_bytes (note_of price count register)) buffer
