use Rattle.engine.proofs.Settlement.{Settling}
use Rattle.engine.proofs.uncrossings.settle_trades.Given as goal

abbrev pub invariant-loop-trade : goal.invariant-loop-trade
invariant-loop-trade g l = Settling (g.B.OrderBook.meaning l.initial.book) l.trades (g.B.OrderBook.meaning l.book) l.trade-index
