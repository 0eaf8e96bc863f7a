use Rattle.calculator.proofs.Filling.{filled_more, filled_all}
use Rattle.calculator.proofs.plain.fill.Goals as goal

pub loop-order-preserved : goal.loop-order-preserved
loop-order-preserved g c = filled_more _ _ _ _ c.loop-order.order-index _ c.loop-order-test.true c.enter_plain.ensures c.loop-order.invariant

pub returns : goal.returns
returns g c = filled_all _ _ _ c.loop-order.order-index c.loop-order-test.false c.loop-order.invariant
