use Rattle.lines.specs.Kinds.{Withdrawal}
use Rattle.lines.proofs.Lining.{no_form, withdrawal_of}
use Rattle.lines.proofs.reader.LineReader.withdrawal.Goals as goal

pub returns-in_err-number : goal.returns-in_err-number
returns-in_err-number c = rw c.from_residual-in_err-number.ensures (no_form Withdrawal c.in_ok-pass.ensures c.in_err-number.ensures)

pub returns : goal.returns
returns c = withdrawal_of c.in_ok-number.number c.in_ok-pass.ensures c.in_ok-number.ensures
