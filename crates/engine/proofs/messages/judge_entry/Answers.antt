use Rattle.std.proofs.Common.{rules, ◌≡◌, true, false, ◌&&◌, nat_le, sym, ap, ◌∙◌}
use Rattle.std.proofs.lemmas.Result.{err_from_is_err_and}
use Rattle.trading.specs.Replies.{price_limit}
use Rattle.engine.proofs.Asking.{quantity_out, quantity_in, err_at}
use Rattle.engine.proofs.messages.judge_entry.Goals as goal

pub returns-then-not-contains : goal.returns-then-not-contains
returns-then-not-contains c =
    let out : (nat_le 1 c.args.quantity && nat_le c.args.quantity 6858) ≡ false = search rules in
    sym (quantity_out c.args.session.tick c.args.quantity c.args.price out)

pub returns-in_err-judge : goal.returns-in_err-judge
returns-in_err-judge c =
    let p = err_from_is_err_and c.from_residual.result c.from_residual.ensures.1 in
    let inside : (nat_le 1 c.args.quantity && nat_le c.args.quantity 6858) ≡ true = search rules in
    err_at _ _ _ p.1 p.2 ∙ ap price_limit c.in_err-judge.ensures.answer ∙ sym (quantity_in c.args.session.tick c.args.quantity c.args.price inside)

pub returns : goal.returns
returns c =
    let inside : (nat_le 1 c.args.quantity && nat_le c.args.quantity 6858) ≡ true = search rules in
    ap price_limit c.in_ok-judge.ensures.answer ∙ sym (quantity_in c.args.session.tick c.args.quantity c.args.price inside)
