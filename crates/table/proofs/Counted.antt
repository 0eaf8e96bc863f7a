-- What the counts of a table say of its ranks. Assumes nothing.
use Rattle.std.proofs.Common.{◌≡◌, ℕ, true, ◌&&◌, eqb, List, [], ◌∷◌, map, Some, None, Option, sym, refl, ap, ◌∙◌, subst, inl, inr, ⊎_elim, arith}
use Rattle.std.specs.List.{slice_get}
use Rattle.std.proofs.lemmas.Bool.{cases_Bool, cond-true, cond-false, eqb-true, eq-eqb, and_parts, and_from}
use Rattle.ranking.proofs.Sorting.{back, Apart}
use Rattle.book.specs.declared.orders.Side.{Side}
use Rattle.book.specs.Meaning.{Order, is_side}
use Rattle.book.specs.Ranks.{ranked}
use Rattle.book.proofs.Turns.{number_of}
use Rattle.book.specs.Ranks.{counted}
use Rattle.table.specs.Aheads.{aheads_of, first_at}
use Rattle.table.proofs.Chains.{first_nil, first_cons}
use Rattle.book.proofs.Places.{Has, has_shuffle, has_nth, nth_has, has_side, side_has, turned, counted_ranked}

-- A search by count.
first_found : (s : Side) (a : ℕ) (base xs : List Order) (o : Order) → first_at s a xs (map (counted base) xs) ≡ Some o → Has o xs × ((is_side s o.side ≡ true) × (counted base o ≡ a))
first_found s a base [] o e = let none = first_nil s a [] in absurd (grind arith)
first_found s a base (x ∷ xs) o e =
    let here = sym (first_cons s a x xs (counted base x) (map (counted base) xs)) ∙ e in
    ⊎_elim
    (λ t.
    let same : x ≡ o = let found = sym (cond-true (is_side s x.side && eqb (counted base x) a) _ _ t) ∙ here in grind arith in
    let both = and_parts (is_side s x.side) (eqb (counted base x) a) t in
    (inl same, subst (λ (y : Order). (is_side s y.side ≡ true) × (counted base y ≡ a)) same (both.0, eqb-true (counted base x) a both.1)))
    (λ f. let later = first_found s a base xs o (sym (cond-false (is_side s x.side && eqb (counted base x) a) _ _ f) ∙ here) in (inr later.0, later.1))
    (cases_Bool (is_side s x.side && eqb (counted base x) a))

first_missed : (s : Side) (a : ℕ) (base xs : List Order) (o : Order) → first_at s a xs (map (counted base) xs) ≡ None → Has o xs → is_side s o.side ≡ true → counted base o ≡ a → ⊥
first_missed s a base [] o e m t k = m
first_missed s a base (x ∷ xs) o e m t k =
    let here = sym (first_cons s a x xs (counted base x) (map (counted base) xs)) ∙ e in
    ⊎_elim
    (λ y. let found = sym (cond-true (is_side s x.side && eqb (counted base x) a) _ _ y) ∙ here in absurd (grind arith))
    (λ f.
    ⊎_elim
    (λ same. let test : (is_side s x.side && eqb (counted base x) a) ≡ true = and_from (is_side s x.side) (eqb (counted base x) a) (ap (λ (z : Order). is_side s z.side) same ∙ t) (eq-eqb (counted base x) a (ap (counted base) same ∙ k)) in absurd (grind arith))
    (λ r. first_missed s a base xs o (sym (cond-false (is_side s x.side && eqb (counted base x) a) _ _ f) ∙ here) r t k)
    m)
    (cases_Bool (is_side s x.side && eqb (counted base x) a))

-- The order with a count is the one at that place of its side.
module _ (s : Side) (os : List Order) (apart : Apart number_of os) where
  pub rank_first : (j : ℕ) → first_at s j os (aheads_of os) ≡ slice_get (ranked s os) j
  rank_first j = by (first_at s j os (aheads_of os)) refl (slice_get (ranked s os) j) refl where
    by : (f : Option Order) → first_at s j os (aheads_of os) ≡ f → (r : Option Order) → slice_get (ranked s os) j ≡ r → f ≡ r
    by None e None k = refl
    by None e (Some y) k =
        let found = side_has s y os (has_shuffle y (turned s os apart) (nth_has y (ranked s os) j k)) in
        absurd (first_missed s j os os y e found.0 found.1 (counted_ranked s os apart y j k))
    by (Some o) e r k =
        let found = first_found s j os os o e in
        let place = has_nth o (ranked s os) (has_shuffle o (back (turned s os apart)) (has_side s o os found.1.0 found.0)) in
        let same : place.0 ≡ j = sym (counted_ranked s os apart o place.0 place.1) ∙ found.1.1 in
        sym place.1 ∙ ap (slice_get (ranked s os)) same ∙ k
