use Rattle.std.proofs.Common.{length}
use Rattle.engine.specs.Pairings.{trades_left}
use Rattle.engine.proofs.Looping.{Counting}
use Rattle.engine.proofs.pairing.count_trades.Given as goal

abbrev pub invariant-loop-trade : goal.invariant-loop-trade
invariant-loop-trade g l = Counting (g.B.OrderBook.meaning l.book).orders l.volume l.fronts l.count

abbrev pub decreases-loop-trade : goal.decreases-loop-trade
decreases-loop-trade g l = length (trades_left (g.B.OrderBook.meaning l.book).orders l.fronts)
