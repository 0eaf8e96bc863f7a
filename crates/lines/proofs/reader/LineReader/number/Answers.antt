use Rattle.std.proofs.Common.{refl, arith}
use Rattle.lines.proofs.Taking.{number_none, number_some}
use Rattle.lines.proofs.reader.LineReader.number.Goals as goal

pub returns-then-len-eq0 : goal.returns-then-len-eq0
returns-then-len-eq0 c = number_none _ _ c.number_len-len.ensures c.if-len-eq0.true

pub returns : goal.returns
returns c = number_some _ _ c.number_len-len.ensures _ _ refl refl refl refl (omega arith)
