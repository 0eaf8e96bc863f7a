-- What the book and the session answer, as the outcome of a call. Assumes nothing.
use Rattle.std.proofs.Common.{◌≡◌, ℕ, ◌*◌, ◌≤◌, Bool, true, false, cond, ◌&&◌, ◌||◌, eqb, ltb, leb, Some, None, Ok, Err, Result, sym, refl, ap, ◌∙◌, ⊎_elim, mul-le-mul_left, zero-mul, arith}
use Rattle.std.proofs.lemmas.Bool.{cases_lt, le-leb, ne_eqb, le-ltb, or_from, and_from, cond-true, cond-false}
use Rattle.session.specs.declared.refusals.SessionRefusal.{SessionRefusal}
use Rattle.session.specs.declared.refusals.SessionRefusal.TheVariants.{QuantityRange}
use Rattle.session.specs.declared.judgements.PriceRefusal.{PriceRefusal}
use Rattle.session.specs.declared.judgements.PriceRefusal.TheVariants.{PriceRange, OffTick}
use Rattle.session.specs.Judgements.{price_judged, Judged}
use Rattle.session.proofs.Judging.{judging}
use Rattle.book.specs.Ranges.{in_range}
use Rattle.book.specs.declared.orders.Body.{Body}
use Rattle.book.specs.declared.orders.Side.{Side}
use Rattle.book.specs.declared.refusals.BookRefusal.{BookRefusal}
use Rattle.book.specs.declared.refusals.BookRefusal.TheVariants.{UnknownOrder}
use Rattle.book.specs.Meaning.{Book, Order, unless_refused, enter_answer, enter_after, entered as with_body, found, cut, cut_answer, cut_after, cut_judged, with_order}
use Rattle.trading.specs.declared.calls.Call.TheVariants.{Entry, Cut, Withdrawal}
use Rattle.trading.specs.declared.refusals.Refusal.TheVariants.{Book as OfBook, Session as OfSession}
use Rattle.trading.specs.Replies.{Reply, entered, was_cut, withdrawn, refused, Outcome, price_limit, entry_limit, entry_by_book, entry_by_session, cut_by_book, withdrawal_of, outcome}

-- a call was answered, and left the book, as an outcome says
pub record Told (o : Outcome) (reply : Reply) (m' : Book) : Type 0 where
  pub answer : reply ≡ o.reply
  pub after : m' ≡ o.after

-- what the exit of a `?` returns
pub err_at : {T E : Type 0} (r : Result T E) (x y : E) → r ≡ Err x → x ≡ y → r ≡ Err y
err_at r x y e f = e ∙ ap (λ z. Err z) f

-- Entry.

pub quantity_out : (tick quantity price : ℕ) → (leb 1 quantity && leb quantity 6858) ≡ false → entry_limit tick quantity price ≡ Err QuantityRange
unfolding entry_limit
quantity_out tick quantity price f = cond-false (leb 1 quantity && leb quantity 6858) _ _ f

pub quantity_in : (tick quantity price : ℕ) → (leb 1 quantity && leb quantity 6858) ≡ true → entry_limit tick quantity price ≡ price_limit (price_judged tick price)
unfolding entry_limit
quantity_in tick quantity price t = cond-true (leb 1 quantity && leb quantity 6858) _ _ t

-- an entry that passed makes a body
judged_range : (tick price limit : ℕ) (r : Result ℕ PriceRefusal) → 1 ≤ tick → Judged tick price r → Ok limit ≡ price_limit r → (1 ≤ limit) × (limit ≤ 10000000)
judged_range tick price limit (Ok ticks) some h e =
    let same : limit ≡ ticks = cc in
    let up : ticks * 1 ≤ ticks * tick = mul-le-mul_left ticks some in
    let exact = h.1 in
    let low = h.0.0 in
    let high = h.0.1 in
    (⊎_elim (λ none. let z : ticks * tick ≡ 0 = ap (λ n. n * tick) (let y : ticks ≡ 0 = omega arith in y) ∙ zero-mul tick in absurd (omega arith)) (λ one. one) (cases_lt limit 1), omega arith)
judged_range tick price limit (Err PriceRange) some h e = let z : ◌≡◌ {A = ℕ} 0 1 = cc in absurd (omega arith)
judged_range tick price limit (Err OffTick) some h e = let z : ◌≡◌ {A = ℕ} 0 1 = cc in absurd (omega arith)

pub entry_in_range : (tick quantity price limit : ℕ) → 1 ≤ tick → Ok limit ≡ entry_limit tick quantity price → in_range limit quantity ≡ true
unfolding entry_limit
entry_in_range tick quantity price limit some = by (leb 1 quantity && leb quantity 6858) refl where
  by : (b : Bool) → (leb 1 quantity && leb quantity 6858) ≡ b → Ok limit ≡ cond b (price_limit (price_judged tick price)) (Err QuantityRange) → in_range limit quantity ≡ true
  by true t e =
      let limits = judged_range tick price limit (price_judged tick price) some (judging tick price) e in
      and_from (leb 1 limit && leb limit 10000000) (leb 1 quantity && leb quantity 6858) (and_from (leb 1 limit) (leb limit 10000000) (le-leb 1 limit limits.0) (le-leb limit 10000000 limits.1)) t
  by false t e = let z : ◌≡◌ {A = ℕ} 0 1 = cc in absurd (omega arith)

abbrev pub entry_as : Result ℕ BookRefusal → Reply
entry_as (Ok number) = entered number
entry_as (Err why) = refused (OfBook why)

body_order : (m : Book) (body : Body) (side : Side) (limit quantity : ℕ) → body.side ≡ side → body.limit ≡ limit → body.quantity ≡ quantity → with_body m body ≡ with_order m side limit quantity
body_order m body side limit quantity s l q =
    ap (λ x. with_order m x body.limit body.quantity) s ∙ ap (λ x. with_order m side x body.quantity) l ∙ ap (λ x. with_order m side limit x) q

book_told : (m new : Book) (side : Side) (limit quantity : ℕ) (r : Result ℕ BookRefusal) → new ≡ with_order m side limit quantity → Told (entry_by_book m side limit quantity r) (entry_as r) (unless_refused r new m)
book_told m new side limit quantity (Ok n) e = record { answer = refl; after = e }
book_told m new side limit quantity (Err why) e = record { answer = refl; after = refl }

pub entry_told : (tick scarcity places : ℕ) (m m' : Book) (body : Body) (side : Side) (limit quantity price : ℕ) (r : Result ℕ BookRefusal) → Ok limit ≡ entry_limit tick quantity price → body.side ≡ side → body.limit ≡ limit → body.quantity ≡ quantity → r ≡ enter_answer m → m' ≡ enter_after m body → Told (outcome tick scarcity places m (Entry side quantity price)) (entry_as r) m'
unfolding outcome enter_after
entry_told tick scarcity places m m' body side limit quantity price r le s l q e after =
    let told = book_told m (with_body m body) side limit quantity (enter_answer m) (body_order m body side limit quantity s l q) in
    let lim = ap (entry_by_session m side quantity) le in
    record { answer = ap entry_as e ∙ told.answer ∙ ap (λ (o : Outcome). o.reply) lim; after = after ∙ told.after ∙ ap (λ (o : Outcome). o.after) lim }

pub entry_refused : (tick scarcity places : ℕ) (m : Book) (side : Side) (quantity price : ℕ) (why : SessionRefusal) → Err why ≡ entry_limit tick quantity price → Told (outcome tick scarcity places m (Entry side quantity price)) (refused (OfSession why)) m
unfolding outcome
entry_refused tick scarcity places m side quantity price why e =
    let lim = ap (entry_by_session m side quantity) e in
    record { answer = ap (λ (o : Outcome). o.reply) lim; after = ap (λ (o : Outcome). o.after) lim }

-- Cut and withdrawal.

abbrev pub cut_as : Reply → Result (Unit {0}) BookRefusal → Reply
cut_as accepted (Ok x) = accepted
cut_as accepted (Err why) = refused (OfBook why)

judged_told : (m : Book) (n q : ℕ) (r : Result (Unit {0}) BookRefusal) → Told (cut_by_book m n q r) (cut_as was_cut r) (unless_refused r (cut m n q) m)
judged_told m n q (Ok x) = record { answer = refl; after = refl }
judged_told m n q (Err why) = record { answer = refl; after = refl }

pub cut_told : (tick scarcity places : ℕ) (m m' : Book) (n q : ℕ) (r : Result (Unit {0}) BookRefusal) → r ≡ cut_answer m n q → m' ≡ cut_after m n q → Told (outcome tick scarcity places m (Cut n q)) (cut_as was_cut r) m'
unfolding outcome cut_after
cut_told tick scarcity places m m' n q r e after =
    let told = judged_told m n q (cut_answer m n q) in
    record { answer = ap (cut_as was_cut) e ∙ told.answer; after = after ∙ told.after }

pub withdrawal_none : (tick scarcity places : ℕ) (m : Book) (n : ℕ) → None ≡ found m n → Told (outcome tick scarcity places m (Withdrawal n)) (refused (OfBook UnknownOrder)) m
unfolding outcome
withdrawal_none tick scarcity places m n e =
    let none = ap (withdrawal_of m n) e in
    record { answer = ap (λ (o : Outcome). o.reply) none; after = ap (λ (o : Outcome). o.after) none }

-- a cut of all that the order holds is accepted
all_accepted : (m : Book) (n : ℕ) (o : Order) → Some o ≡ found m n → 1 ≤ o.quantity → cut_answer m n o.quantity ≡ Ok tt
unfolding cut_answer
all_accepted m n o e some =
    ap (λ f. cut_judged f o.quantity) (sym e)
    ∙ cond-false (eqb o.quantity 0 || ltb o.quantity o.quantity) _ _ (or_from (eqb o.quantity 0) (ltb o.quantity o.quantity) (ne_eqb o.quantity 0 (λ z. omega arith)) (le-ltb o.quantity o.quantity (omega arith)))

pub withdrawal_told : (tick scarcity places : ℕ) (m m' : Book) (n : ℕ) (o : Order) (r : Result (Unit {0}) BookRefusal) → Some o ≡ found m n → 1 ≤ o.quantity → r ≡ cut_answer m n o.quantity → m' ≡ cut_after m n o.quantity → Told (outcome tick scarcity places m (Withdrawal n)) (cut_as withdrawn r) m'
unfolding outcome cut_after
withdrawal_told tick scarcity places m m' n o r e some answer after =
    let all = all_accepted m n o e some in
    let taken = ap (withdrawal_of m n) e in
    record {
      answer = ap (cut_as withdrawn) (answer ∙ all) ∙ ap (λ (x : Outcome). x.reply) taken;
      after = after ∙ ap (λ x. unless_refused x (cut m n o.quantity) m) all ∙ ap (λ (x : Outcome). x.after) taken;
    }
