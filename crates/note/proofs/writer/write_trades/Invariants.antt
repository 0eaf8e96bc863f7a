use Rattle.note.proofs.Putting.{Filled}
use Rattle.note.proofs.writer.write_trades.Given as goal

abbrev pub invariant-loop-trade : goal.invariant-loop-trade
invariant-loop-trade l = Filled l.trades l.place l.trade-index l.end
