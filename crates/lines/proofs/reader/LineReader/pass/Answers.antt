use Rattle.std.proofs.Common.{arith}
use Rattle.lines.proofs.Halting.{no_byte}
use Rattle.lines.proofs.reader.LineReader.pass.Goals as goal

pub returns-in_err-next : goal.returns-in_err-next
returns-in_err-next c = rw c.from_residual.ensures (no_byte _ _ (λ next. omega (arith, c.in_err-next.ensures, next.0)))

pub returns-then-next-byte : goal.returns-then-next-byte
returns-then-next-byte c = no_byte _ _ (λ next. omega (arith, c.in_ok-next.ensures.1, next.1))
