use Rattle.std.proofs.Common.{arith}
use Rattle.feed.proofs.Telling.{tell_more, answer_left, told_whole}
use Rattle.feed.proofs.replies.answer_lines.Goals as goal

pub answer_line-reply-requires : goal.answer_line-reply-requires
answer_line-reply-requires c = answer_left _ _ _ _ _ _ c.loop-step-test.true c.loop-step.invariant.0

pub loop-step-preserved : goal.loop-step-preserved
loop-step-preserved c = (
  tell_more _ _ _ _ _ _ _ _ _ c.loop-step-test.true c.answer_line-reply.ensures c.push_reserved.ensures.items c.loop-step.invariant.0,
  omega (arith, c.push_reserved.ensures.len, c.loop-step.invariant.1),
  omega (arith, c.push_reserved.ensures.capacity, c.loop-step.invariant.2),
)

pub returns-clause-placed : goal.returns-clause-placed
returns-clause-placed c = λ n all. (c.loop-step.invariant.0.placed n all).0

pub returns-clause-told : goal.returns-clause-told
returns-clause-told c = told_whole _ _ _ _ _ (omega arith) c.loop-step.invariant.0
