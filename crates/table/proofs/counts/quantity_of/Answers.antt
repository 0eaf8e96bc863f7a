use Rattle.std.proofs.Common.{◌+◌, sym, subst, arith}
use Rattle.table.proofs.Chains.{Summing, summing_one, summing_none, summing_all}
use Rattle.table.proofs.counts.quantity_of.Goals.{then-trades_on, else-trades_on}
use Rattle.table.proofs.counts.quantity_of.Goals as goal

pub loop-row-init : goal.loop-row-init
loop-row-init c = record { bound = omega arith; rest = omega arith }

pub overflow_add-sum : goal.overflow_add-sum
overflow_add-sum c = omega (arith, c.loop-row.invariant.bound, c.row-item.result.live.body.sized.1, c.requires)

pub loop-row-preserved : goal.loop-row-preserved
loop-row-preserved c =
    let s = c.args.side in
    let m = c.args.m in
    let rows = c.args.rows.now in
    let i = c.loop-row.row-index in
    let row = c.row-item.result in
    elim c.if-trades_on.branch [
      | then-trades_on w ↦ subst (Summing s m rows (i + 1)) (sym w.sum-is) (summing_one s m rows i c.loop-row.sum row (omega arith) c.row-item.is c.loop-row.invariant (sym w.if-trades_on.ensures))
      | else-trades_on w ↦ subst (Summing s m rows (i + 1)) (sym w.sum-is) (summing_none s m rows i c.loop-row.sum row (omega arith) c.row-item.is c.loop-row.invariant (sym w.if-trades_on.ensures))
    ]

pub returns : goal.returns
returns c = summing_all c.args.side c.args.m c.args.rows.now c.loop-row.row-index c.loop-row.sum (omega arith) c.loop-row.invariant
