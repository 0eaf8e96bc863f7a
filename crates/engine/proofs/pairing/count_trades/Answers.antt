use Rattle.std.proofs.Common.{arith}
use Rattle.engine.proofs.Looping.{counting_small}
use Rattle.engine.proofs.pairing.count_trades.Goals as goal

pub overflow_add-count : goal.overflow_add-count
overflow_add-count g c = omega (arith, counting_small _ _ _ _ (g.B.OrderBook.sound c.args.book.now) c.loop-trade.invariant)
