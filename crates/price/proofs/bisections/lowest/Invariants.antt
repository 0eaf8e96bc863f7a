use Rattle.std.proofs.Common.{◌-◌, ◌<◌, ◌≤◌, true, false}
use Rattle.price.proofs.bisections.lowest.Given as goal

abbrev pub invariant-loop-from : goal.invariant-loop-from
invariant-loop-from g l =
    (l.low ≤ l.from) × (l.from ≤ l.to) × (l.to ≤ l.high)
    × (l.to < l.high → goal.F-post g l.holds l.to true)
    × (l.low < l.from → goal.F-post g l.holds (l.from - 1) false)

abbrev pub decreases-loop-from : goal.decreases-loop-from
decreases-loop-from g l = l.to - l.from
