use Rattle.engine.proofs.Looping.{Writing}
use Rattle.engine.proofs.pairing.write_trades.Given as goal

abbrev pub invariant-loop-place : goal.invariant-loop-place
invariant-loop-place g l = Writing (g.B.OrderBook.meaning l.book).orders l.volume l.initial.register l.register l.fronts l.place-index
