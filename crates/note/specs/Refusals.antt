-- The number of each refusal of a note, and its reason in words. Assumes nothing.
use Rattle.std.specs.Prelude.{ℕ, List, codes}
use Rattle.note.specs.declared.refusals.NoteRefusal.{NoteRefusal}
use Rattle.note.specs.declared.refusals.NoteRefusal.TheVariants.{RegisterShort, BufferShort, OutOfRange, BadNumber, BytesLeft}

abbrev pub numbered : NoteRefusal → ℕ
numbered RegisterShort = 12
numbered BufferShort = 13
numbered OutOfRange = 14
numbered BadNumber = 15
numbered BytesLeft = 16

abbrev pub reason_text : NoteRefusal → List ℕ
reason_text RegisterShort = codes "more trades than the register has places"
reason_text BufferShort = codes "note longer than the buffer"
reason_text OutOfRange = codes "number out of range, or a trade of one order with itself"
reason_text BadNumber = codes "number cut off, over-long or above 4294967295"
reason_text BytesLeft = codes "bytes left over after the note"
