use Rattle.table.proofs.Chains.{Passed}
use Rattle.table.proofs.counts.order_behind.Given as goal

abbrev pub invariant-loop-row : goal.invariant-loop-row
invariant-loop-row l = Passed l.side l.ahead l.rows l.row-index
