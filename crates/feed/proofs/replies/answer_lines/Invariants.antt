use Rattle.std.proofs.Common.{◌≡◌, ◌≤◌, length, vec_items, vec_len, vec_capacity}
use Rattle.std.specs.Slice.Iter.{iter_rest}
use Rattle.feed.proofs.Telling.{Telling}
use Rattle.feed.proofs.replies.answer_lines.Given as goal

abbrev pub invariant-loop-step : goal.invariant-loop-step
invariant-loop-step l = Telling l.steps l.answers (vec_items l.replies) l.step-index (iter_rest l.left) × (vec_len l.replies ≡ l.step-index) × (length l.steps ≤ vec_capacity l.replies)
