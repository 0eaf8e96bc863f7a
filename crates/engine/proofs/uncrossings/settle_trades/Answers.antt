use Rattle.std.proofs.Common.{refl, arith}
use Rattle.engine.proofs.Settlement.{settling_next, settling_ends}
use Rattle.engine.proofs.uncrossings.settle_trades.Goals as goal

pub loop-trade-preserved : goal.loop-trade-preserved
loop-trade-preserved g c =
    settling_next _ _ _ _ _ _ (record { buy = 0; sell = 0; quantity = 0 }) _ _ c.loop-trade-test.true refl refl c.cut.ensures.after c.cut-in-loop-trade.ensures.after c.loop-trade.invariant

pub returns : goal.returns
returns g c = settling_ends _ _ _ _ (omega arith) c.loop-trade.invariant
