-- The orders of a side in rank, and the first of them. Assumes nothing.
use Rattle.std.proofs.Common.{◌≡◌, ℕ, ◌≤◌, true, false, not, ◌&&◌, List, [], ◌∷◌, Some, None, sym, refl, ap, ◌∙◌, ⊎_elim, arith}
use Rattle.std.proofs.lemmas.Bool.{cases_Bool, cond-true, cond-false, and_parts, and_from, and_left, and_right, not-true}
use Rattle.std.proofs.lemmas.Bool.Decides.{nat_tests}
use Rattle.ranking.specs.Runs.{none_before, in_rank}
use Rattle.ranking.proofs.Placing.{ranked_cons, none_cons}
use Rattle.ranking.proofs.Sorting.{Shuffle, none, keep, swap, then, back, shuffle_sorted, sorted_ranked}
use Rattle.book.specs.declared.orders.Side.{Side}
use Rattle.book.specs.declared.orders.Side.TheVariants.{Buy, Sell}
use Rattle.book.specs.Meaning.{Order, is_side, meets, part_of, quantity_at}
use Rattle.book.specs.Ranks.{before, of_side, ranked, at_place}
use Rattle.book.specs.Runs.{all_of}
use Rattle.book.proofs.Listing.{all_parts, quantity_nil, quantity_cons}
use Rattle.book.proofs.Turns.{number_of, irreflexive, transitive, level, quantity_shuffle}

-- an order that does not go before one that does not trade does not trade
pub worse : (s : Side) (m : ℕ) (o y : Order) → meets s m o.limit ≡ false → before s y o ≡ false → meets s m y.limit ≡ false
worse Buy m o y f b = grind (arith, nat_tests)
worse Sell m o y f b = grind (arith, nat_tests)

pub worse_none : (s : Side) (m : ℕ) (o : Order) (os : List Order) → meets s m o.limit ≡ false → none_before (before s) o os ≡ true → quantity_at s m os ≡ 0
worse_none s m o [] f n = quantity_nil s m
worse_none s m o (y ∷ os) f n =
    let both = and_parts (not (before s y o)) (none_before (before s) o os) (sym (none_cons (before s) o y os) ∙ n) in
    let part : part_of s m y ≡ 0 = cond-false (is_side s y.side && meets s m y.limit) _ _ (and_right (is_side s y.side) (meets s m y.limit) (worse s m o y f (not-true (before s y o) both.0))) in
    omega (arith, quantity_cons s m y os, worse_none s m o os f both.1)

pub side_all : (s : Side) (os : List Order) → all_of s (of_side s os) ≡ true
unfolding of_side all_of
side_all s [] = refl
side_all s (o ∷ os) =
    ⊎_elim (λ t. ap (all_of s) (cond-true (is_side s o.side) _ _ t) ∙ and_from (is_side s o.side) (all_of s (of_side s os)) t (side_all s os))
    (λ f. ap (all_of s) (cond-false (is_side s o.side) _ _ f) ∙ side_all s os)
    (cases_Bool (is_side s o.side))

pub all_shuffle : (s : Side) {xs ys : List Order} → Shuffle xs ys → all_of s xs ≡ true → all_of s ys ≡ true
unfolding all_of
all_shuffle s none h = h
all_shuffle s (keep {x} {xs} {ys} sh) h = let both = all_parts s x xs h in and_from (is_side s x.side) (all_of s ys) both.0 (all_shuffle s sh both.1)
all_shuffle s (swap {x} {y} {xs}) h = let one = all_parts s x (y ∷ xs) h in let two = all_parts s y xs one.1 in and_from (is_side s y.side) (is_side s x.side && all_of s xs) two.0 (and_from (is_side s x.side) (all_of s xs) one.0 two.1)
all_shuffle s (then p q) h = all_shuffle s q (all_shuffle s p h)

-- What a side trades is what its orders in rank trade.

quantity_side : (s : Side) (m : ℕ) (os : List Order) → quantity_at s m (of_side s os) ≡ quantity_at s m os
unfolding of_side
quantity_side s m [] = refl
quantity_side s m (o ∷ os) =
    ⊎_elim
    (λ t. ap (quantity_at s m) (cond-true (is_side s o.side) _ _ t) ∙ omega (arith, quantity_cons s m o (of_side s os), quantity_cons s m o os, quantity_side s m os))
    (λ f.
    let part : part_of s m o ≡ 0 = cond-false (is_side s o.side && meets s m o.limit) _ _ (and_left (is_side s o.side) (meets s m o.limit) f) in
    ap (quantity_at s m) (cond-false (is_side s o.side) _ _ f) ∙ omega (arith, quantity_cons s m o os, quantity_side s m os))
    (cases_Bool (is_side s o.side))

pub quantity_ranked : (s : Side) (m : ℕ) (os : List Order) → quantity_at s m (ranked s os) ≡ quantity_at s m os
quantity_ranked s m os = quantity_shuffle s m (shuffle_sorted (before s) (of_side s os)) ∙ quantity_side s m os

pub ranked_ranked : (s : Side) (os : List Order) → in_rank (before s) (ranked s os) ≡ true
ranked_ranked s os = sorted_ranked (before s) number_of (irreflexive s) (transitive s) (level s) (of_side s os)

pub ranked_sided : (s : Side) (os : List Order) → all_of s (ranked s os) ≡ true
ranked_sided s os = all_shuffle s (back (shuffle_sorted (before s) (of_side s os))) (side_all s os)

-- What the first order of a side says of all of them.

none_trades : (s : Side) (m : ℕ) (xs : List Order) → at_place xs 1 ≡ None → quantity_at s m xs ≡ 0
none_trades s m [] e = quantity_nil s m
none_trades s m (x ∷ xs) e = let z : ◌≡◌ {A = ℕ} 0 1 = cc in absurd (omega arith)

first_stops : (s : Side) (m : ℕ) (xs : List Order) (o : Order) → in_rank (before s) xs ≡ true → at_place xs 1 ≡ Some o → meets s m o.limit ≡ false → quantity_at s m xs ≡ 0
first_stops s m [] o r e f = quantity_nil s m
first_stops s m (x ∷ xs) o r e f =
    let same : x ≡ o = cc in
    let both = and_parts (none_before (before s) x xs) (in_rank (before s) xs) (sym (ranked_cons (before s) x xs) ∙ r) in
    let stops : meets s m x.limit ≡ false = ap (λ (y : Order). meets s m y.limit) same ∙ f in
    let part : part_of s m x ≡ 0 = cond-false (is_side s x.side && meets s m x.limit) _ _ (and_right (is_side s x.side) (meets s m x.limit) stops) in
    omega (arith, quantity_cons s m x xs, worse_none s m x xs stops both.0)

first_trades : (s : Side) (m : ℕ) (xs : List Order) (o : Order) → all_of s xs ≡ true → at_place xs 1 ≡ Some o → meets s m o.limit ≡ true → o.quantity ≤ quantity_at s m xs
first_trades s m [] o a e t = let z : ◌≡◌ {A = ℕ} 0 1 = cc in absurd (omega arith)
first_trades s m (x ∷ xs) o a e t =
    let same : x ≡ o = cc in
    let side = (all_parts s x xs a).0 in
    let trades : meets s m x.limit ≡ true = ap (λ (y : Order). meets s m y.limit) same ∙ t in
    let part : part_of s m x ≡ x.quantity = cond-true (is_side s x.side && meets s m x.limit) _ _ (and_from (is_side s x.side) (meets s m x.limit) side trades) in
    omega (arith, quantity_cons s m x xs, ap (λ (y : Order). y.quantity) same)

pub no_best : (s : Side) (os : List Order) → at_place (ranked s os) 1 ≡ None → (m : ℕ) → quantity_at s m os ≡ 0
no_best s os e m = sym (quantity_ranked s m os) ∙ none_trades s m (ranked s os) e

pub best_stops : (s : Side) (os : List Order) (o : Order) → at_place (ranked s os) 1 ≡ Some o → (m : ℕ) → meets s m o.limit ≡ false → quantity_at s m os ≡ 0
best_stops s os o e m f = sym (quantity_ranked s m os) ∙ first_stops s m (ranked s os) o (ranked_ranked s os) e f

pub best_trades : (s : Side) (os : List Order) (o : Order) → at_place (ranked s os) 1 ≡ Some o → (m : ℕ) → meets s m o.limit ≡ true → o.quantity ≤ quantity_at s m os
best_trades s os o e m t = omega (arith, quantity_ranked s m os, first_trades s m (ranked s os) o (ranked_sided s os) e t)
