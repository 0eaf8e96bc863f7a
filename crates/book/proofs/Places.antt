-- What stands at a place of a side: how many orders go before it. Assumes nothing.
use Rattle.std.proofs.Common.{◌≡◌, ℕ, zero, suc, ◌+◌, ◌≤◌, true, false, cond, not, ◌&&◌, ◌⊎◌, List, [], ◌∷◌, length, Some, None, Option, sym, refl, ap, ◌∙◌, subst, inl, inr, ⊎_elim, arith}
use Rattle.std.specs.List.{slice_get}
use Rattle.std.proofs.lemmas.Bool.{cases_Bool, cond-true, cond-false, and_parts, not-true}
use Rattle.ranking.specs.Runs.{none_before, in_rank}
use Rattle.ranking.proofs.Placing.{ranked_cons, none_cons}
use Rattle.ranking.proofs.Sorting.{Shuffle, none, keep, swap, then, back, same_length, Other, Apart, apart_shuffle, shuffle_sorted, sorted_ranked}
use Rattle.book.specs.declared.orders.Side.{Side}
use Rattle.book.specs.declared.orders.Side.TheVariants.{Buy, Sell}
use Rattle.book.specs.Meaning.{Order, Book, rising, is_side, find_in}
use Rattle.book.specs.Ranks.{before, of_side, ranked, rank_of, ahead, counted, StandsAt}
use Rattle.book.specs.Runs.{all_of}
use Rattle.book.proofs.Bests.{side_all, all_shuffle}
use Rattle.book.proofs.Listing.{rising_apart, side_apart, all_parts}
use Rattle.book.proofs.Standing.{find_here, find_later}
use Rattle.book.proofs.Turns.{number_of, irreflexive, transitive, level}

pub counted_nil : (y : Order) → counted [] y ≡ 0
unfolding counted
counted_nil y = refl

pub counted_cons : (x : Order) (xs : List Order) (y : Order) → counted (x ∷ xs) y ≡ cond (ahead x y) 1 0 + counted xs y
unfolding counted
counted_cons x xs y = refl

-- the order is one of the list
abbrev pub Has : Order → List Order → Type 0
Has o [] = ⊥
Has o (x ∷ xs) = (x ≡ o) ⊎ Has o xs

pub has_shuffle : (o : Order) {xs ys : List Order} → Shuffle xs ys → Has o xs → Has o ys
has_shuffle o none h = h
has_shuffle o (keep s) h = ⊎_elim (λ e. inl e) (λ r. inr (has_shuffle o s r)) h
has_shuffle o swap h = ⊎_elim (λ e. inr (inl e)) (λ r. ⊎_elim (λ e. inl e) (λ q. inr (inr q)) r) h
has_shuffle o (then s t) h = has_shuffle o t (has_shuffle o s h)

pub has_nth : (o : Order) (xs : List Order) → Has o xs → (j : ℕ) × (slice_get xs j ≡ Some o)
has_nth o [] h = absurd h
has_nth o (x ∷ xs) (inl e) = (0, ap Some e)
has_nth o (x ∷ xs) (inr r) = let later = has_nth o xs r in (suc later.0, later.1)

pub nth_has : (o : Order) (xs : List Order) (j : ℕ) → slice_get xs j ≡ Some o → Has o xs
nth_has o [] j e = absurd (grind arith)
nth_has o (x ∷ xs) zero e = inl (grind arith)
nth_has o (x ∷ xs) (suc j) e = inr (nth_has o xs j e)

-- the orders of a side
same_side : (s t : Side) → is_side s t ≡ true → t ≡ s
same_side Buy Buy e = refl
same_side Buy Sell e = absurd (grind arith)
same_side Sell Buy e = absurd (grind arith)
same_side Sell Sell e = refl

pub has_side : (s : Side) (o : Order) (os : List Order) → is_side s o.side ≡ true → Has o os → Has o (of_side s os)
unfolding of_side
has_side s o [] t h = absurd h
has_side s o (x ∷ xs) t (inl e) = subst (Has o) (sym (cond-true (is_side s x.side) _ _ (ap (λ (y : Order). is_side s y.side) e ∙ t))) (inl e)
has_side s o (x ∷ xs) t (inr r) = ⊎_elim (λ y. subst (Has o) (sym (cond-true (is_side s x.side) _ _ y)) (inr (has_side s o xs t r))) (λ n. subst (Has o) (sym (cond-false (is_side s x.side) _ _ n)) (has_side s o xs t r)) (cases_Bool (is_side s x.side))

pub side_has : (s : Side) (o : Order) (os : List Order) → Has o (of_side s os) → Has o os × (is_side s o.side ≡ true)
unfolding of_side
side_has s o [] h = absurd h
side_has s o (x ∷ xs) h =
    ⊎_elim
    (λ t. ⊎_elim (λ e. (inl e, sym (ap (λ (y : Order). is_side s y.side) e) ∙ t)) (λ r. let later = side_has s o xs r in (inr later.0, later.1)) (subst (Has o) (cond-true (is_side s x.side) _ _ t) h))
    (λ f. let later = side_has s o xs (subst (Has o) (cond-false (is_side s x.side) _ _ f) h) in (inr later.0, later.1))
    (cases_Bool (is_side s x.side))

ahead_same : (s : Side) (x y : Order) → is_side s x.side ≡ true → is_side s y.side ≡ true → ahead x y ≡ before s x y
ahead_same s x y p q = ap (λ t. is_side t x.side && before t x y) (same_side s y.side q) ∙ ap (λ b. b && before s x y) p

ahead_other : (s : Side) (x y : Order) → is_side s x.side ≡ false → is_side s y.side ≡ true → ahead x y ≡ false
ahead_other s x y p q = ap (λ t. is_side t x.side && before t x y) (same_side s y.side q) ∙ ap (λ b. b && before s x y) p

-- counts of lists that hold the same orders
counted_shuffle : (y : Order) {xs ys : List Order} → Shuffle xs ys → counted xs y ≡ counted ys y
unfolding counted
counted_shuffle y none = refl
counted_shuffle y (keep {x} s) = ap (λ n. cond (ahead x y) 1 0 + n) (counted_shuffle y s)
counted_shuffle y swap = omega arith
counted_shuffle y (then s t) = counted_shuffle y s ∙ counted_shuffle y t

counted_side : (s : Side) (y : Order) (os : List Order) → is_side s y.side ≡ true → counted (of_side s os) y ≡ counted os y
unfolding of_side
counted_side s y [] t = refl
counted_side s y (x ∷ xs) t =
    ⊎_elim
    (λ p. ap (λ l. counted l y) (cond-true (is_side s x.side) _ _ p) ∙ counted_cons x (of_side s xs) y ∙ ap (λ n. cond (ahead x y) 1 0 + n) (counted_side s y xs t) ∙ sym (counted_cons x xs y))
    (λ f. let zero : ◌≡◌ {A = ℕ} (cond (ahead x y) 1 0) 0 = cond-false (ahead x y) _ _ (ahead_other s x y f t) in ap (λ l. counted l y) (cond-false (is_side s x.side) _ _ f) ∙ counted_side s y xs t ∙ omega (arith, zero, counted_cons x xs y))
    (cases_Bool (is_side s x.side))

-- In a run of a side in rank, so many go before an order as stand before it.
none_ahead : (s : Side) (y : Order) (xs : List Order) → is_side s y.side ≡ true → all_of s xs ≡ true → none_before (before s) y xs ≡ true → counted xs y ≡ 0
none_ahead s y [] t a h = counted_nil y
none_ahead s y (x ∷ xs) t a h =
    let sides = all_parts s x xs a in
    let both = and_parts (not (before s x y)) (none_before (before s) y xs) (sym (none_cons (before s) y x xs) ∙ h) in
    let zero : ◌≡◌ {A = ℕ} (cond (ahead x y) 1 0) 0 = cond-false (ahead x y) _ _ (ahead_same s x y sides.0 t ∙ not-true (before s x y) both.0) in
    omega (arith, zero, counted_cons x xs y, none_ahead s y xs t sides.1 both.1)

none_has : (s : Side) (x y : Order) (xs : List Order) → Has y xs → none_before (before s) x xs ≡ true → before s y x ≡ false
none_has s x y [] m h = absurd m
none_has s x y (z ∷ zs) (inl e) h = ap (λ (w : Order). before s w x) (sym e) ∙ not-true (before s z x) (and_parts (not (before s z x)) (none_before (before s) x zs) (sym (none_cons (before s) x z zs) ∙ h)).0
none_has s x y (z ∷ zs) (inr r) h = none_has s x y zs r (and_parts (not (before s z x)) (none_before (before s) x zs) (sym (none_cons (before s) x z zs) ∙ h)).1

other_has : (n : ℕ) (y : Order) (xs : List Order) → Has y xs → Other number_of n xs → y.number ≡ n → ⊥
other_has n y [] m h = absurd m
other_has n y (x ∷ xs) (inl e) h = λ k. h.0 (ap number_of e ∙ k)
other_has n y (x ∷ xs) (inr r) h = other_has n y xs r h.1

all_has : (s : Side) (y : Order) (xs : List Order) → Has y xs → all_of s xs ≡ true → is_side s y.side ≡ true
all_has s y [] m h = absurd m
all_has s y (x ∷ xs) (inl e) h = sym (ap (λ (o : Order). is_side s o.side) e) ∙ (all_parts s x xs h).0
all_has s y (x ∷ xs) (inr r) h = all_has s y xs r (all_parts s x xs h).1

counted_at : (s : Side) (y : Order) (xs : List Order) (j : ℕ) → in_rank (before s) xs ≡ true → Apart number_of xs → all_of s xs ≡ true → slice_get xs j ≡ Some y → counted xs y ≡ j
counted_at s y [] j r a h e = absurd (grind arith)
counted_at s y (x ∷ xs) zero r a h e =
    let same : x ≡ y = grind arith in
    let ranks = and_parts (none_before (before s) x xs) (in_rank (before s) xs) (sym (ranked_cons (before s) x xs) ∙ r) in
    let sides = all_parts s x xs h in
    let own : ◌≡◌ {A = ℕ} (cond (ahead x x) 1 0) 0 = cond-false (ahead x x) _ _ (ahead_same s x x sides.0 sides.0 ∙ irreflexive s x) in
    let first : counted (x ∷ xs) x ≡ 0 = omega (arith, own, counted_cons x xs x, none_ahead s x xs sides.0 sides.1 ranks.0) in
    subst (λ (o : Order). counted (x ∷ xs) o ≡ 0) same first
counted_at s y (x ∷ xs) (suc j) r a h e =
    let ranks = and_parts (none_before (before s) x xs) (in_rank (before s) xs) (sym (ranked_cons (before s) x xs) ∙ r) in
    let sides = all_parts s x xs h in
    let later = nth_has y xs j e in
    let goes : before s x y ≡ true = ⊎_elim (λ t. t) (λ f. absurd (other_has x.number y xs later a.0 (sym (level s x y f (none_has s x y xs later ranks.0))))) (cases_Bool (before s x y)) in
    let one : ◌≡◌ {A = ℕ} (cond (ahead x y) 1 0) 1 = cond-true (ahead x y) _ _ (ahead_same s x y sides.0 (all_has s y xs later sides.1) ∙ goes) in
    omega (arith, one, counted_cons x xs y, counted_at s y xs j ranks.1 a.1 sides.1 e)

-- The order with a count is the one at that place of its side.
module _ (s : Side) (os : List Order) (apart : Apart number_of os) where
  pub turned : Shuffle (ranked s os) (of_side s os)
  turned = shuffle_sorted (before s) (of_side s os)

  pub counted_ranked : (y : Order) (j : ℕ) → slice_get (ranked s os) j ≡ Some y → counted os y ≡ j
  counted_ranked y j e =
      let sides = all_shuffle s (back turned) (side_all s os) in
      let own = all_has s y (ranked s os) (nth_has y (ranked s os) j e) sides in
      sym (counted_side s y os own) ∙ sym (counted_shuffle y turned) ∙ counted_at s y (ranked s os) j (sorted_ranked (before s) number_of (irreflexive s) (transitive s) (level s) (of_side s os)) (apart_shuffle number_of (back turned) (side_apart s os apart)) sides e

-- Each order is found by its number.
found_has : (y : Order) (os : List Order) → Apart number_of os → Has y os → find_in os y.number ≡ Some y
found_has y [] a h = absurd h
found_has y (x ∷ xs) a (inl e) = subst (λ (o : Order). find_in (x ∷ xs) o.number ≡ Some o) e (find_here x xs x.number refl)
found_has y (x ∷ xs) a (inr r) = find_later x xs y.number (λ e. other_has x.number y xs r a.0 (sym e)) ∙ found_has y xs a.1 r

past_end : {X : Type 0} (xs : List X) (j : ℕ) → slice_get xs j ≡ None → length xs ≤ j
past_end [] j e = omega arith
past_end (x ∷ xs) zero e = absurd (grind arith)
past_end (x ∷ xs) (suc j) e = omega (arith, past_end xs j e)

-- what a rank answers stands at the place
pub stands_at : (m : Book) (s : Side) (k : ℕ) → rising 0 m.orders m.last ≡ true → StandsAt m s k (rank_of m s k)
stands_at m s zero rises = inl refl
stands_at m s (suc j) rises = by (slice_get (ranked s m.orders) j) refl where
  apart : Apart number_of m.orders
  apart = rising_apart 0 m.orders m.last rises

  by : (r : Option Order) → slice_get (ranked s m.orders) j ≡ r → StandsAt m s (suc j) r
  by None e = inr (omega (arith, past_end (ranked s m.orders) j e, same_length (turned s m.orders apart)))
  by (Some o) e =
      let here = side_has s o m.orders (has_shuffle o (turned s m.orders apart) (nth_has o (ranked s m.orders) j e)) in
      (found_has o m.orders apart here.0, same_side s o.side here.1, omega (arith, counted_ranked s m.orders apart o j e))
