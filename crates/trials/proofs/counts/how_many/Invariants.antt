use Rattle.std.proofs.Common.{◌≡◌, ◌≤◌, Bool, count_by, take}
use Rattle.std.specs.Fn.{FnReturnsAt}
use Rattle.trials.specs.Counts.{Computes}
use Rattle.trials.proofs.counts.how_many.Given as goal

abbrev pub invariant-loop-item : goal.invariant-loop-item
invariant-loop-item g l = (l.count ≤ l.item-index) × ((test : _ → Bool) → Computes (FnReturnsAt g.F.Fn l.counts) test l.items → l.count ≡ count_by test (take l.item-index l.items))
