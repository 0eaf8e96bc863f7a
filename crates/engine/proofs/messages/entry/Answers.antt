use Rattle.std.proofs.Common.{sym, ap, ◌∙◌}
use Rattle.std.proofs.lemmas.Result.{err_from_is_err_and}
use Rattle.std.proofs.lemmas.Bool.{both_ways}
use Rattle.engine.specs.Messages.{entry_reply}
use Rattle.engine.proofs.Asking.{entry_as, entry_told, entry_refused, entry_in_range, err_at}
use Rattle.engine.proofs.messages.entry.Goals as goal

pub returns-in_err-limit : goal.returns-in_err-limit
returns-in_err-limit g c =
    let p = err_from_is_err_and c.from_residual.result c.from_residual.ensures.1 in
    let told = entry_refused c.args.session.tick c.args.session.scarcity 0 _ c.args.side c.args.quantity c.args.price _ c.in_err-limit.ensures in
    record { answer = ap entry_reply (err_at _ _ _ p.1 p.2) ∙ told.answer; after = told.after }

pub unreachable-requires : goal.unreachable-requires
unreachable-requires g c =
    both_ways _ c.in_default.ensures (entry_in_range c.args.session.tick c.args.quantity c.args.price c.in_ok-limit.limit c.args.session.ticked.0 c.in_ok-limit.ensures)

pub returns-in_err-enter : goal.returns-in_err-enter
returns-in_err-enter g c =
    let p = err_from_is_err_and c.from_residual-in_err-enter.result c.from_residual-in_err-enter.ensures.1 in
    let body = c.in-Some.ensures in
    let told = entry_told c.args.session.tick c.args.session.scarcity 0 _ _ c.in-Some.body c.args.side c.in_ok-limit.limit c.args.quantity c.args.price c.enter.result c.in_ok-limit.ensures body.1 body.2 body.3 c.enter.ensures.answer c.enter.ensures.after in
    record { answer = ap entry_reply (err_at _ _ _ p.1 p.2) ∙ sym (ap entry_as c.in_err-enter.was) ∙ told.answer; after = told.after }

pub returns : goal.returns
returns g c =
    let body = c.in-Some.ensures in
    let told = entry_told c.args.session.tick c.args.session.scarcity 0 _ _ c.in-Some.body c.args.side c.in_ok-limit.limit c.args.quantity c.args.price c.enter.result c.in_ok-limit.ensures body.1 body.2 body.3 c.enter.ensures.answer c.enter.ensures.after in
    record { answer = sym (ap entry_as c.in_ok-enter.was) ∙ told.answer; after = told.after }
