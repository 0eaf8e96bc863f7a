use Rattle.std.proofs.Common.{◌≡◌, Err, Result, sym, ap, ◌∙◌, arith}
use Rattle.std.specs.Option.{ok_or}
use Rattle.book.specs.declared.refusals.BookRefusal.{BookRefusal}
use Rattle.book.specs.declared.refusals.BookRefusal.TheVariants.{UnknownOrder}
use Rattle.trading.specs.declared.refusals.Refusal.TheVariants.{Book as OfBook}
use Rattle.std.proofs.lemmas.Result.{err_from_is_err_and}
use Rattle.book.specs.Meaning.{order_of, seen}
use Rattle.trading.specs.Replies.{withdrawn}
use Rattle.engine.specs.Messages.{withdrawal_reply}
use Rattle.engine.proofs.Asking.{cut_as, withdrawal_none, withdrawal_told, err_at}
use Rattle.engine.proofs.messages.withdrawal.Goals as goal

refused_as : {T : Type 0} {x y : BookRefusal} → ◌≡◌ {A = Result T BookRefusal} (Err x) (Err y) → x ≡ y
refused_as e = grind arith

pub returns-in_err-live : goal.returns-in_err-live
returns-in_err-live g c =
    let none = c.in_err-live.ensures.ok_part in
    let p = err_from_is_err_and c.from_residual.result c.from_residual.ensures.1 in
    let told = withdrawal_none 0 0 0 _ c.args.number (sym (ap seen none) ∙ c.find.ensures) in
    let why : c.in_err-live.field-0.0 ≡ UnknownOrder = refused_as (c.in_err-live.ensures.value ∙ ap (λ o. ok_or o UnknownOrder) none) in
    record { answer = ap withdrawal_reply (err_at _ _ _ p.1 (p.2 ∙ ap OfBook why)) ∙ told.answer; after = told.after }

pub returns-in_err-cut : goal.returns-in_err-cut
returns-in_err-cut g c =
    let p = err_from_is_err_and c.from_residual-in_err-cut.result c.from_residual-in_err-cut.ensures.1 in
    let told = withdrawal_told 0 0 0 _ _ c.args.number (order_of c.in_ok-live.live) c.cut.result (sym (ap seen c.in_ok-live.ensures.ok_part) ∙ c.find.ensures) c.in_ok-live.live.body.sized.0 c.cut.ensures.answer c.cut.ensures.after in
    record { answer = ap withdrawal_reply (err_at _ _ _ p.1 p.2) ∙ sym (ap (cut_as withdrawn) c.in_err-cut.was) ∙ told.answer; after = told.after }

pub returns : goal.returns
returns g c =
    let told = withdrawal_told 0 0 0 _ _ c.args.number (order_of c.in_ok-live.live) c.cut.result (sym (ap seen c.in_ok-live.ensures.ok_part) ∙ c.find.ensures) c.in_ok-live.live.body.sized.0 c.cut.ensures.answer c.cut.ensures.after in
    record { answer = sym (ap (cut_as withdrawn) c.in_ok-cut.was) ∙ told.answer; after = told.after }
