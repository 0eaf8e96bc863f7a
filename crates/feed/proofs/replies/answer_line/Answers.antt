use Rattle.std.proofs.lemmas.Result.{err_from_is_err_and}
use Rattle.std.proofs.Common.{Ok, ap, ◌∙◌}
use Rattle.feed.proofs.Telling.{one_opening, one_fault, one_call}
use Rattle.feed.proofs.replies.answer_line.Goals as goal

pub returns-in-Opening : goal.returns-in-Opening
returns-in-Opening c = one_opening _ _ (c.in_ok-step.was ∙ ap Ok c.in-Opening.is)

pub returns-in-Some : goal.returns-in-Some
returns-in-Some c = one_call _ c.in-Asking.call c.in-Asking.places _ _ _ _ (c.in_ok-step.was ∙ ap Ok c.in-Asking.is) c.in-Some.ensures.steps c.answered.ensures.told c.answered.ensures.placed

pub returns-in_err-step : goal.returns-in_err-step
returns-in_err-step c =
    let p = err_from_is_err_and c.from_residual.result c.from_residual.ensures.1 in
    rw (p.1, p.2) (one_fault _ _ _ c.in_err-step.was)
