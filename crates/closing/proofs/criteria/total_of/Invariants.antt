use Rattle.std.proofs.Common.{◌≡◌, take}
use Rattle.closing.specs.Criteria.{worth_of, contracts_of}
use Rattle.closing.proofs.criteria.total_of.Given as goal

-- what is summed is what the trades so far come to
abbrev pub invariant-loop-trade : goal.invariant-loop-trade
invariant-loop-trade l = record { worth : l.worth ≡ worth_of (take l.trade-index l.trades); contracts : l.contracts ≡ contracts_of (take l.trade-index l.trades) }
