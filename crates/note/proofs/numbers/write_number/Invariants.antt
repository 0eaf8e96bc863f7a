use Rattle.note.proofs.Putting.{Begun}
use Rattle.note.proofs.numbers.write_number.Given as goal

abbrev pub invariant-loop-byte : goal.invariant-loop-byte
invariant-loop-byte l = Begun l.n l.byte-items l.byte-index l.rest
