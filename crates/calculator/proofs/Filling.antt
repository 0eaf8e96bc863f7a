-- A book filled order by order. Assumes nothing.
use Rattle.std.proofs.Common.{◌≡◌, ℕ, ◌+◌, ◌<◌, ◌≤◌, true, List, [], ◌∷◌, ◌++◌, length, get_or, drop, sym, ap, ◌∙◌}
use Rattle.std.proofs.lemmas.Bool.{cond-true}
use Rattle.std.proofs.lemmas.List.{drop_more, drop_all}
use Rattle.book.specs.Meaning.{Book, enter_answer, enter_after, unless_refused, entered}
use Rattle.book.specs.Ranges.{in_range}
use Rattle.book.specs.declared.orders.Body.{Body}
use Rattle.calculator.specs.declared.plain.PlainOrder.{PlainOrder}
use Rattle.calculator.specs.Fills.{with_plain, filled}

-- an order in range is entered as its body
pub body_entered : (m m' : Book) (body : Body) (o : PlainOrder) → in_range o.limit o.quantity ≡ true → body.side ≡ o.side → body.limit ≡ o.limit → body.quantity ≡ o.quantity → m' ≡ enter_after m body → m' ≡ with_plain m o
unfolding enter_after
body_entered m m' body o t s l q e =
    let same : entered m body ≡ record { places = m.places; last = m.last + 1; orders = m.orders ++ record { number = m.last + 1; side = o.side; limit = o.limit; quantity = o.quantity } ∷ [] } = cc in
    e ∙ ap (λ new. unless_refused (enter_answer m) new m) same ∙ sym (cond-true (in_range o.limit o.quantity) _ _ t)

-- the orders that are left fill the book that stands as all fill the one at the start
pub filled_more : (m m₀ m' : Book) (os : List PlainOrder) (i : ℕ) (d : PlainOrder) → i < length os → m' ≡ with_plain m (get_or os i d) → filled m (drop i os) ≡ filled m₀ os → filled m' (drop (i + 1) os) ≡ filled m₀ os
unfolding filled
filled_more m m₀ m' os i d inside e h = ap (λ b. filled b (drop (i + 1) os)) e ∙ sym (ap (filled m) (drop_more os i d inside)) ∙ h

pub filled_all : (m m₀ : Book) (os : List PlainOrder) (i : ℕ) → length os ≤ i → filled m (drop i os) ≡ filled m₀ os → m ≡ filled m₀ os
unfolding filled
filled_all m m₀ os i past h = sym (ap (filled m) (drop_all i os past)) ∙ h
