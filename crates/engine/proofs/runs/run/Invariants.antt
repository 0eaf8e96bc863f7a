use Rattle.std.proofs.Common.{◌≡◌, ◌+◌, ◌≤◌, length, vec_items, vec_len, vec_capacity}
use Rattle.engine.proofs.Running.{Going}
use Rattle.engine.proofs.runs.run.Given as goal

abbrev pub invariant-loop-call : goal.invariant-loop-call
invariant-loop-call g l =
    let meaning = g.B.OrderBook.meaning in
    (length l.calls ≤ vec_capacity l.answers) × (vec_len l.answers ≡ l.call-index) × (length l.calls + 256 ≤ vec_capacity l.trades)
    × Going l.session.tick l.session.scarcity (length l.initial.register) (meaning l.initial.book) l.initial.register l.calls (vec_items l.answers) (vec_items l.trades) (meaning l.book) l.register l.call-index
