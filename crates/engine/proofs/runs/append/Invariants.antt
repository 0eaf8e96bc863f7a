use Rattle.std.proofs.Common.{◌≡◌, ◌+◌, ◌≤◌, ◌++◌, length, take, vec_items, vec_len, vec_capacity}
use Rattle.engine.proofs.runs.append.Given as goal

abbrev pub invariant-loop-trade : goal.invariant-loop-trade
invariant-loop-trade l =
    (vec_items l.log ≡ vec_items l.initial.log ++ take l.trade-index l.trades)
    × (vec_len l.log ≡ vec_len l.initial.log + l.trade-index)
    × (vec_capacity l.log ≡ vec_capacity l.initial.log)
    × (vec_len l.initial.log + length l.trades ≤ vec_capacity l.initial.log)
