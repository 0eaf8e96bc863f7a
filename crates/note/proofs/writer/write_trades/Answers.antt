use Rattle.std.proofs.Common.{length, ap, arith, rules}
use Rattle.note.proofs.Putting.{room, next, done}
use Rattle.note.proofs.writer.write_trades.Goals as goal

pub slice_bounds-write_trade-end : goal.slice_bounds-write_trade-end
slice_bounds-write_trade-end c =
    let fits = room c.loop-trade.invariant (record { buy = 0; sell = 0; quantity = 0 }) (omega arith) in
    search (rules, fits)

pub loop-trade-preserved : goal.loop-trade-preserved
loop-trade-preserved c =
    let fits = room c.loop-trade.invariant (record { buy = 0; sell = 0; quantity = 0 }) (omega arith) in
    next c.loop-trade.invariant _ (omega arith) (omega arith) _ c.write_trade.ensures _ _ (omega (arith, c.trade_len-end.ensures.value, ap length c.write_trade.ensures))

pub returns : goal.returns
returns c = done c.loop-trade.invariant (record { buy = 0; sell = 0; quantity = 0 }) (omega arith) (omega arith)
