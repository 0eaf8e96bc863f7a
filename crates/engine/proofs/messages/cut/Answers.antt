use Rattle.std.proofs.Common.{sym, ap, ◌∙◌}
use Rattle.std.proofs.lemmas.Result.{err_from_is_err_and}
use Rattle.trading.specs.Replies.{was_cut}
use Rattle.engine.specs.Messages.{cut_reply}
use Rattle.engine.proofs.Asking.{cut_as, cut_told, err_at}
use Rattle.engine.proofs.messages.cut.Goals as goal

pub returns-in_err-cut : goal.returns-in_err-cut
returns-in_err-cut g c =
    let p = err_from_is_err_and c.from_residual.result c.from_residual.ensures.1 in
    let told = cut_told 0 0 0 _ _ c.args.number c.args.quantity c.cut.result c.cut.ensures.answer c.cut.ensures.after in
    record { answer = ap cut_reply (err_at _ _ _ p.1 p.2) ∙ sym (ap (cut_as was_cut) c.in_err-cut.was) ∙ told.answer; after = told.after }

pub returns : goal.returns
returns g c =
    let told = cut_told 0 0 0 _ _ c.args.number c.args.quantity c.cut.result c.cut.ensures.answer c.cut.ensures.after in
    record { answer = sym (ap (cut_as was_cut) c.in_ok-cut.was) ∙ told.answer; after = told.after }
