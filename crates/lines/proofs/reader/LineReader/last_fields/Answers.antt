use Rattle.lines.proofs.Taking.{no_second, both_fields}
use Rattle.lines.proofs.reader.LineReader.last_fields.Goals as goal

pub returns-in_err-second : goal.returns-in_err-second
returns-in_err-second c = rw c.from_residual-in_err-second.ensures (no_second c.in_ok-first.first c.in_ok-first.ensures c.in_err-second.ensures)

pub returns : goal.returns
returns c = both_fields c.in_ok-first.first c.in_ok-first.ensures c.in_ok-second.second c.in_ok-second.ensures
