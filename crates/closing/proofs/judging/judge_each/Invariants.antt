use Rattle.std.proofs.Common.{◌≡◌, drop}
use Rattle.closing.specs.Judging.{judged_each}
use Rattle.closing.proofs.judging.judge_each.Given as goal

-- what is left to judge decides
abbrev pub invariant-loop-item : goal.invariant-loop-item
invariant-loop-item g l = judged_each (g.T.Judged.judged l.session.tick) (drop l.item-index l.items) ≡ judged_each (g.T.Judged.judged l.session.tick) l.items
