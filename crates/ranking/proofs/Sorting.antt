-- Runs of the same items in another turn, and that bringing a run into rank does not depend on the turn. Assumes nothing.
use Rattle.std.proofs.Common.{◌≡◌, ℕ, Bool, true, false, not, List, [], ◌∷◌, ◌++◌, length, sym, refl, ap, ◌∙◌, subst, ⊎_elim, arith}
use Rattle.std.proofs.lemmas.Bool.{cases_Bool, and_parts, not-true}
use Rattle.ranking.specs.Runs.{placed, none_before, in_rank, sorted}
use Rattle.ranking.proofs.Placing.{placed_none, placed_here, placed_later, ranked_none, ranked_cons, none_cons, not_back, not_between, rank_placed}

pub data Shuffle {X : Type 0} : List X → List X → Type 0 where
  none : Shuffle [] []
  keep : {x : X} {xs ys : List X} → Shuffle xs ys → Shuffle (x ∷ xs) (x ∷ ys)
  swap : {x y : X} {xs : List X} → Shuffle (x ∷ y ∷ xs) (y ∷ x ∷ xs)
  then : {xs ys zs : List X} → Shuffle xs ys → Shuffle ys zs → Shuffle xs zs

module _ {X : Type 0} where
  pub same : (xs : List X) → Shuffle xs xs
  same [] = none
  same (x ∷ xs) = keep (same xs)

  pub back : {xs ys : List X} → Shuffle xs ys → Shuffle ys xs
  back none = none
  back (keep s) = keep (back s)
  back swap = swap
  back (then s t) = then (back t) (back s)

  pub same_length : {xs ys : List X} → Shuffle xs ys → length xs ≡ length ys
  same_length none = refl
  same_length (keep s) = omega (arith, same_length s)
  same_length swap = refl
  same_length (then s t) = same_length s ∙ same_length t

  -- an item behind a run, or before it
  pub to_front : (x : X) (xs ys : List X) → Shuffle (xs ++ x ∷ ys) (x ∷ (xs ++ ys))
  to_front x [] ys = same (x ∷ ys)
  to_front x (y ∷ xs) ys = then (keep (to_front x xs ys)) swap

  pub beside : {xs ys : List X} (zs : List X) → Shuffle xs ys → Shuffle (xs ++ zs) (ys ++ zs)
  beside zs none = same zs
  beside zs (keep s) = keep (beside zs s)
  beside zs swap = swap
  beside zs (then s t) = then (beside zs s) (beside zs t)

  pub behind : {ys zs : List X} (xs : List X) → Shuffle ys zs → Shuffle (xs ++ ys) (xs ++ zs)
  behind [] s = s
  behind (x ∷ xs) s = keep (behind xs s)

  pub shuffle_placed : (before : X → X → Bool) (x : X) (xs : List X) → Shuffle (placed before x xs) (x ∷ xs)
  shuffle_placed before x [] = subst (λ ys. Shuffle ys (x ∷ [])) (sym (placed_none before x)) (same (x ∷ []))
  shuffle_placed before x (y ∷ ys) =
      ⊎_elim (λ t. subst (λ zs. Shuffle zs (x ∷ y ∷ ys)) (sym (placed_here before x y ys t)) (same (x ∷ y ∷ ys)))
      (λ f. subst (λ zs. Shuffle zs (x ∷ y ∷ ys)) (sym (placed_later before x y ys f)) (then (keep (shuffle_placed before x ys)) swap))
      (cases_Bool (before x y))

  pub shuffle_sorted : (before : X → X → Bool) (xs : List X) → Shuffle (sorted before xs) xs
  unfolding sorted
  shuffle_sorted before [] = none
  shuffle_sorted before (x ∷ xs) = then (shuffle_placed before x (sorted before xs)) (keep (shuffle_sorted before xs))

-- Items with numbers of their own.
module _ {X : Type 0} (number : X → ℕ) where
  -- no item has the number
  abbrev pub Other : ℕ → List X → Type 0
  Other n [] = Unit {0}
  Other n (x ∷ xs) = (number x ≡ n → ⊥) × Other n xs

  -- no two items have the same
  abbrev pub Apart : List X → Type 0
  Apart [] = Unit {0}
  Apart (x ∷ xs) = Other (number x) xs × Apart xs

  pub other_shuffle : (n : ℕ) {xs ys : List X} → Shuffle xs ys → Other n xs → Other n ys
  other_shuffle n none h = h
  other_shuffle n (keep s) h = (h.0, other_shuffle n s h.1)
  other_shuffle n swap h = (h.1.0, (h.0, h.1.1))
  other_shuffle n (then s t) h = other_shuffle n t (other_shuffle n s h)

  pub apart_shuffle : {xs ys : List X} → Shuffle xs ys → Apart xs → Apart ys
  apart_shuffle none h = h
  apart_shuffle (keep s) h = (other_shuffle _ s h.0, apart_shuffle s h.1)
  apart_shuffle swap h = ((λ e. h.0.0 (sym e), h.1.0), (h.0.1, h.1.1))
  apart_shuffle (then s t) h = apart_shuffle t (apart_shuffle s h)

-- A ranking under which items of different numbers are never level.
module _ {X : Type 0} (before : X → X → Bool) (number : X → ℕ) (irreflexive : (x : X) → before x x ≡ false) (transitive : (x y z : X) → before x y ≡ true → before y z ≡ true → before x z ≡ true) (level : (x y : X) → before x y ≡ false → before y x ≡ false → number x ≡ number y) where
  must_go : (x y : X) → (number x ≡ number y → ⊥) → before x y ≡ false → before y x ≡ true
  must_go x y apart f = ⊎_elim (λ t. t) (λ g. absurd (apart (level x y f g))) (cases_Bool (before y x))

  -- x goes before y, and y before all of zs
  swap_front : (x y : X) (zs : List X) → before x y ≡ true → placed before y zs ≡ y ∷ zs → placed before x (y ∷ zs) ≡ placed before y (x ∷ zs)
  swap_front x y zs t e = placed_here before x y zs t ∙ ap (λ ys. x ∷ ys) (sym e) ∙ sym (placed_later before y x zs (not_back before irreflexive transitive x y t))

  swap_at : (x y : X) (zs : List X) → (number x ≡ number y → ⊥) → placed before x zs ≡ x ∷ zs → placed before y zs ≡ y ∷ zs → placed before x (placed before y zs) ≡ placed before y (placed before x zs)
  swap_at x y zs apart ex ey =
      ⊎_elim (λ t. ap (placed before x) ey ∙ swap_front x y zs t ey ∙ ap (placed before y) (sym ex))
      (λ f. ap (placed before x) ey ∙ sym (swap_front y x zs (must_go x y apart f) ex) ∙ ap (placed before y) (sym ex))
      (cases_Bool (before x y))

  -- x goes before z, and y does not
  swap_over : (x y z : X) (zs : List X) → before x z ≡ true → before y z ≡ false → placed before x (placed before y (z ∷ zs)) ≡ placed before y (placed before x (z ∷ zs))
  swap_over x y z zs t f =
      ap (placed before x) (placed_later before y z zs f) ∙ placed_here before x z (placed before y zs) t ∙ ap (λ ys. x ∷ ys) (sym (placed_later before y z zs f)) ∙ sym (placed_later before y x (z ∷ zs) (not_between before irreflexive transitive x z y t f)) ∙ ap (placed before y) (sym (placed_here before x z zs t))

  -- two items are placed in either turn
  pub place_swap : (x y : X) (zs : List X) → (number x ≡ number y → ⊥) → placed before x (placed before y zs) ≡ placed before y (placed before x zs)
  place_swap x y [] apart = swap_at x y [] apart (placed_none before x) (placed_none before y)
  place_swap x y (z ∷ zs) apart =
      ⊎_elim
      (λ t.
      ⊎_elim (λ r. swap_at x y (z ∷ zs) apart (placed_here before x z zs t) (placed_here before y z zs r)) (λ g. swap_over x y z zs t g) (cases_Bool (before y z)))
      (λ f.
      ⊎_elim (λ r. sym (swap_over y x z zs r f))
      (λ g.
      ap (placed before x) (placed_later before y z zs g) ∙ placed_later before x z (placed before y zs) f ∙ ap (λ ys. z ∷ ys) (place_swap x y zs apart) ∙ sym (placed_later before y z (placed before x zs) g) ∙ ap (placed before y) (sym (placed_later before x z zs f)))
      (cases_Bool (before y z)))
      (cases_Bool (before x z))

  pub sorted_shuffle : {xs ys : List X} → Shuffle xs ys → Apart number xs → sorted before xs ≡ sorted before ys
  unfolding sorted
  sorted_shuffle none h = refl
  sorted_shuffle (keep {x} s) h = ap (placed before x) (sorted_shuffle s h.1)
  sorted_shuffle (swap {x} {y} {xs}) h = place_swap x y (sorted before xs) (λ e. h.0.0 (sym e))
  sorted_shuffle (then s t) h = sorted_shuffle s h ∙ sorted_shuffle t (apart_shuffle number s h)

  pub sorted_ranked : (xs : List X) → in_rank before (sorted before xs) ≡ true
  unfolding sorted
  sorted_ranked [] = ranked_none before
  sorted_ranked (x ∷ xs) = rank_placed before irreflexive transitive x (sorted before xs) (sorted_ranked xs)

  -- the first of a run in rank is placed first
  first_placed : (x : X) (ys : List X) → none_before before x ys ≡ true → Other number (number x) ys → placed before x ys ≡ x ∷ ys
  first_placed x [] n o = placed_none before x
  first_placed x (y ∷ ys) n o =
      let later = not-true (before y x) (and_parts (not (before y x)) (none_before before x ys) (sym (none_cons before x y ys) ∙ n)).0 in
      placed_here before x y ys (must_go y x o.0 later)

  pub sorted_id : (xs : List X) → in_rank before xs ≡ true → Apart number xs → sorted before xs ≡ xs
  unfolding sorted
  sorted_id [] r h = refl
  sorted_id (x ∷ xs) r h =
      let both = and_parts (none_before before x xs) (in_rank before xs) (sym (ranked_cons before x xs) ∙ r) in
      ap (placed before x) (sorted_id xs both.1 h.1) ∙ first_placed x xs both.0 h.0

  -- runs in rank of the same items are the same
  pub one_rank : (xs ys : List X) → in_rank before xs ≡ true → in_rank before ys ≡ true → Apart number xs → Shuffle xs ys → xs ≡ ys
  one_rank xs ys r t h s = sym (sorted_id xs r h) ∙ sorted_shuffle s h ∙ sorted_id ys t (apart_shuffle number s h)
