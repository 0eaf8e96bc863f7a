use Rattle.lines.specs.Kinds.{Opening}
use Rattle.lines.proofs.Lining.{no_form, opening_of}
use Rattle.lines.proofs.reader.LineReader.opening.Goals as goal

pub returns-in_err-tick : goal.returns-in_err-tick
returns-in_err-tick c = rw c.from_residual-in_err-tick.ensures (no_form Opening c.in_ok-pass.ensures c.in_err-tick.ensures)

pub returns : goal.returns
returns c = opening_of c.in_ok-tick.tick c.in_ok-tick.scarcity c.in_ok-pass.ensures c.in_ok-tick.ensures
