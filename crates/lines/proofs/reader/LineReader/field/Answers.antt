use Rattle.lines.proofs.Taking.{field_of}
use Rattle.lines.proofs.reader.LineReader.field.Goals as goal

pub returns : goal.returns
returns c = field_of c.in_ok-pass.ensures _ _ c.number.ensures
