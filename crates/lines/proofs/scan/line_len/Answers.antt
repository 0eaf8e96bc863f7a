use Rattle.std.proofs.Common.{rules, tests}
use Rattle.lines.proofs.Lengths.{line_by_end}
use Rattle.lines.proofs.scan.line_len.Goals as goal

pub returns : goal.returns
returns c = line_by_end _ _ _ c.line_end.ensures (search (rules, tests))
