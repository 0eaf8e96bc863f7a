use Rattle.std.proofs.Common.{arith}
use Rattle.note.proofs.Putting.{more, small, last, group_byte}
use Rattle.note.proofs.numbers.write_number.Goals as goal

pub loop-byte-preserved : goal.loop-byte-preserved
loop-byte-preserved c = more c.loop-byte.invariant (omega arith) _ (group_byte c.loop-byte.rest)

pub overflow_cast-last : goal.overflow_cast-last
overflow_cast-last c = let few = small c.loop-byte.invariant (omega arith) (omega arith) in omega arith

pub returns-after-loop-byte : goal.returns-after-loop-byte
returns-after-loop-byte c = last c.loop-byte.invariant (omega arith) (omega arith)
