use Rattle.std.proofs.Common.{◌≡◌, ◌+◌, take, count_by, cond, true, false, refl, arith, sym, ◌∙◌}
use Rattle.std.proofs.lemmas.Fn.{says_at}
use Rattle.std.specs.Fn.{FnReturnsAt}
use Rattle.trials.proofs.Counting.{count_by-next, computed_at}
use Rattle.trials.proofs.counts.how_many.Goals.{then-counts, else-counts}
use Rattle.trials.proofs.counts.how_many.Goals as goal

pub loop-item-preserved : goal.loop-item-preserved
loop-item-preserved g c =
    let xs = c.args.items.now in
    let i = c.loop-item.item-index in
    let y = c.item-item.result in
    let at : FnReturnsAt g.F.Fn c.args.counts y c.counts.result = says_at g.F.Fn c.counts.ensures refl in
    elim c.if-counts.branch [
      | then-counts w ↦ (
        omega arith,
        λ test computes.
            let kept = c.loop-item.invariant.1 test computes in
            let grown : count_by test (take (i + 1) xs) ≡ count_by test (take i xs) + cond true 1 0 = count_by-next test xs i y true c.loop-item-test.true c.item-item.is (sym w.if-counts.true ∙ computed_at (FnReturnsAt g.F.Fn c.args.counts) test xs i y c.counts.result c.loop-item-test.true c.item-item.is computes at) in
            omega arith,
      )
      | else-counts w ↦ (
        omega arith,
        λ test computes.
            let kept = c.loop-item.invariant.1 test computes in
            let grown : count_by test (take (i + 1) xs) ≡ count_by test (take i xs) + cond false 1 0 = count_by-next test xs i y false c.loop-item-test.true c.item-item.is (sym w.if-counts.false ∙ computed_at (FnReturnsAt g.F.Fn c.args.counts) test xs i y c.counts.result c.loop-item-test.true c.item-item.is computes at) in
            omega arith,
      )
    ]
