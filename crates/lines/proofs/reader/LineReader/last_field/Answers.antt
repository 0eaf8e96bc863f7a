use Rattle.lines.proofs.Taking.{field_unended}
use Rattle.lines.proofs.reader.LineReader.last_field.Goals as goal

pub returns-in_err-pass : goal.returns-in_err-pass
returns-in_err-pass c = rw c.from_residual-in_err-pass.ensures (field_unended c.in_ok-field.field c.in_ok-field.ensures c.in_err-pass.ensures)
