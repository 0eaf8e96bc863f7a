use Rattle.std.proofs.Common.{arith}
use Rattle.lines.proofs.Halting.{no_side}
use Rattle.lines.proofs.Taking.{side_none}
use Rattle.lines.proofs.reader.LineReader.side.Goals as goal

pub returns-in_err-letter : goal.returns-in_err-letter
returns-in_err-letter c =
    rw c.from_residual-in_err-letter.ensures (side_none c.in_ok-pass.ensures (no_side _ (λ next. omega (arith, c.in_err-letter.ensures, next.0)) (λ next. omega (arith, c.in_err-letter.ensures, next.0))))

pub returns-in_default : goal.returns-in_default
returns-in_default c =
    let is = c.in_ok-letter.ensures.1 in
    side_none c.in_ok-pass.ensures (no_side _ (λ next. omega (arith, is, next.1)) (λ next. omega (arith, is, next.1)))
