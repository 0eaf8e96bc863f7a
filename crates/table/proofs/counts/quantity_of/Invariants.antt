use Rattle.table.proofs.Chains.{Summing}
use Rattle.table.proofs.counts.quantity_of.Given as goal

abbrev pub invariant-loop-row : goal.invariant-loop-row
invariant-loop-row l = Summing l.side l.m l.rows l.row-index l.sum
