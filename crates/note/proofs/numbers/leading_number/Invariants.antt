use Rattle.note.proofs.Groups.{Sofar}
use Rattle.note.proofs.numbers.leading_number.Given as goal

abbrev pub invariant-loop-place : goal.invariant-loop-place
invariant-loop-place l = Sofar l.bytes l.place l.value
