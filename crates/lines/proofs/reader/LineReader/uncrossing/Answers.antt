use Rattle.std.proofs.Common.{[]}
use Rattle.lines.specs.Kinds.{Uncrossing}
use Rattle.lines.proofs.Lining.{no_form}
use Rattle.lines.proofs.reader.LineReader.uncrossing.Goals as goal

pub returns-in_err-pass-2 : goal.returns-in_err-pass-2
returns-in_err-pass-2 c = rw c.from_residual-in_err-pass-2.ensures (no_form Uncrossing c.in_ok-pass.ensures (c.in_err-pass-2.ensures []))
