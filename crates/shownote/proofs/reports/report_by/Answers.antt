use Rattle.std.proofs.Common.{◌-◌, ◌++◌, codes, decimal, ap, ◌∙◌, arith}
use Rattle.std.proofs.lemmas.Result.{IfOk-weaker}
use Rattle.note.specs.Refusals.{reason_text}
use Rattle.shownote.proofs.Shown.{note_shown, refusal_shown}
use Rattle.shownote.proofs.reports.report_by.Goals as goal

pub returns-in-Ok : goal.returns-in-Ok
returns-in-Ok c =
    let told = c.in-Ok.ensures in
    IfOk-weaker c.format.result _ _ (λ text is. is ∙ note_shown _ _ c.new.ensures c.args.register.now _ c.in-Ok.heading told.value told.after (c.in-Ok.heading.count - 0) (omega arith)) c.format.ensures.ok

pub returns-in-Err : goal.returns-in-Err
returns-in-Err c =
    let number = ap (λ n. codes "refused " ++ (decimal n ++ (codes " " ++ (reason_text c.in-Err.why ++ codes "\n")))) c.from-code.ensures in
    IfOk-weaker c.format-in-Err.result _ _ (λ text is. is ∙ number ∙ refusal_shown _ _ c.new.ensures _ c.requires c.in-Err.why c.in-Err.ensures.value) c.format-in-Err.ensures.ok
