use Rattle.std.proofs.Common.{sym, ◌∙◌, arith}
use Rattle.lines.proofs.Halting.{no_kind, no_letter}
use Rattle.lines.proofs.reader.LineReader.line.Goals as goal

pub returns-in_err-letter : goal.returns-in_err-letter
returns-in_err-letter c = rw c.from_residual.ensures (no_kind _ (λ k next. omega (arith, c.in_err-letter.ensures, next.0)))

pub returns-in_default : goal.returns-in_default
returns-in_default c =
    let is = c.in_ok-letter.ensures.1 in
    no_kind _ (λ k next. no_letter (λ e. omega arith) (λ e. omega arith) (λ e. omega arith) (λ e. omega arith) (λ e. omega arith) k (sym is ∙ next.1))
