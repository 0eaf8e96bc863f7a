-- What placing an item in a run gives, place by place, and that it keeps a run in rank. Assumes nothing.
use Rattle.std.proofs.Common.{◌≡◌, ℕ, zero, suc, ◌+◌, ◌-◌, ◌<◌, ◌≤◌, Bool, true, false, cond, not, ◌&&◌, List, [], ◌∷◌, ◌++◌, length, get_or, take, drop, sym, refl, ap, ◌∙◌, subst, ⊎_elim, append-nil, arith, length-append}
use borrow.Rule.Slice.PartMut.{put_mid}
use Rattle.std.proofs.lemmas.List.{take_rest, length_push, get_or_push, drop_all, take_at, drop_at, take-append-le, drop-append-le, length-drop}
use Rattle.std.proofs.lemmas.Bool.{cond-true, cond-false, cases_Bool, both_ways, and_parts, and_from, and_left, and_right, not-true, not-false, not_from_false}
use Rattle.std.proofs.lemmas.List.Sums.{prefix_len-le-length}
use native.Mathlib.Numerals.{unary_clauses}
use Rattle.std.specs.List.{position_or_len, AllAdjacentBelow, IsAllAdjacentAnswer, slice_index_or}
use Rattle.ranking.specs.Runs.{placed, none_before, in_rank}

module _ {X : Type 0} (before : X → X → Bool) (x : X) where
  pub placed_none : placed before x [] ≡ x ∷ []
  unfolding placed
  placed_none = refl

  pub placed_here : (y : X) (ys : List X) → before x y ≡ true → placed before x (y ∷ ys) ≡ x ∷ y ∷ ys
  unfolding placed
  placed_here y ys t = cond-true (before x y) _ _ t

  pub placed_later : (y : X) (ys : List X) → before x y ≡ false → placed before x (y ∷ ys) ≡ y ∷ placed before x ys
  unfolding placed
  placed_later y ys f = cond-false (before x y) _ _ f

  -- the item stands in front of the first that it goes before
  pub placed_at : (run : List X) → placed before x run ≡ take (position_or_len (before x) run) run ++ (x ∷ drop (position_or_len (before x) run) run)
  placed_at [] = placed_none
  placed_at (y ∷ ys) = let n = position_or_len (before x) ys in let rest = placed_at ys in
      let later : before x y ≡ false → position_or_len (before x) (y ∷ ys) ≡ suc n = λ f. ap (λ b. cond (not b) (1 + n) 0) f ∙ omega arith in
      ⊎_elim
      (λ t. placed_here y ys t ∙ sym (ap (λ i. take i (y ∷ ys) ++ (x ∷ drop i (y ∷ ys))) (ap (λ b. cond (not b) (1 + n) 0) t)))
      (λ f. placed_later y ys f ∙ ap (λ zs. y ∷ zs) rest ∙ sym (ap (λ i. take i (y ∷ ys) ++ (x ∷ drop i (y ∷ ys))) (later f)))
      (cases_Bool (before x y))

-- the run of xs and then x, with what stands from a place on turned so that x comes first
pub turned : {X : Type 0} (xs : List X) (x : X) (place : ℕ) → place ≤ length xs → (part : List X) → part ≡ drop place (xs ++ x ∷ []) → drop (length part - 1) part ++ take (length part - 1) part ≡ x ∷ drop place xs
turned xs x place within part is =
    let rest : part ≡ drop place xs ++ x ∷ [] = is ∙ drop-append-le place xs (x ∷ []) within in
    let long : length (drop place xs) ≡ length part - 1 = omega (arith, ap length rest, length-append (drop place xs) (x ∷ [])) in
    ap (λ ys. drop (length part - 1) ys ++ take (length part - 1) ys) rest ∙ ap (λ ys. ys ++ take (length part - 1) (drop place xs ++ x ∷ [])) (drop_at (drop place xs) (x ∷ []) (length part - 1) long) ∙ ap (λ ys. x ∷ ys) (take_at (drop place xs) (x ∷ []) (length part - 1) long)

-- In rank: two neighbours that are, and a run that is from the second on.
module _ {X : Type 0} (before : X → X → Bool) where
  pub ranked_none : in_rank before [] ≡ true
  unfolding in_rank
  ranked_none = refl

  pub ranked_one : (x : X) → in_rank before (x ∷ []) ≡ true
  unfolding in_rank none_before
  ranked_one x = refl

  pub ranked_cons : (x : X) (xs : List X) → in_rank before (x ∷ xs) ≡ (none_before before x xs && in_rank before xs)
  unfolding in_rank
  ranked_cons x xs = refl

  pub none_cons : (x y : X) (ys : List X) → none_before before x (y ∷ ys) ≡ (not (before y x) && none_before before x ys)
  unfolding none_before
  none_cons x y ys = refl

  -- what goes before neither of two items goes before neither
  pub none_as : (x y : X) → ((z : X) → before z y ≡ false → before z x ≡ false) → (zs : List X) → none_before before y zs ≡ true → none_before before x zs ≡ true
  unfolding none_before
  none_as x y h [] t = refl
  none_as x y h (z ∷ zs) t =
      let both = and_parts (not (before z y)) (none_before before y zs) t in
      and_from (not (before z x)) (none_before before x zs) (not_from_false (before z x) (h z (not-true (before z y) both.0))) (none_as x y h zs both.1)

-- An item put at its place keeps a run in rank.
module _ {X : Type 0} (before : X → X → Bool) (irreflexive : (x : X) → before x x ≡ false) (transitive : (x y z : X) → before x y ≡ true → before y z ≡ true → before x z ≡ true) where
  pub not_back : (x y : X) → before x y ≡ true → before y x ≡ false
  not_back x y t = ⊎_elim (λ b. absurd (both_ways (before x x) (irreflexive x) (transitive x y x t b))) (λ f. f) (cases_Bool (before y x))

  pub not_between : (x y z : X) → before x y ≡ true → before z y ≡ false → before z x ≡ false
  not_between x y z t f = ⊎_elim (λ b. absurd (both_ways (before z y) f (transitive z x y b t))) (λ n. n) (cases_Bool (before z x))

  none_placed : (y x : X) (zs : List X) → before x y ≡ false → none_before before y zs ≡ true → none_before before y (placed before x zs) ≡ true
  unfolding none_before
  none_placed y x [] f t = ap (none_before before y) (placed_none before x) ∙ ap (λ b. not b && true) f
  none_placed y x (z ∷ zs) f t =
      let both = and_parts (not (before z y)) (none_before before y zs) t in
      ⊎_elim
      (λ here. ap (none_before before y) (placed_here before x z zs here) ∙ and_from (not (before x y)) (not (before z y) && none_before before y zs) (not_from_false (before x y) f) t)
      (λ later. ap (none_before before y) (placed_later before x z zs later) ∙ and_from (not (before z y)) (none_before before y (placed before x zs)) both.0 (none_placed y x zs f both.1))
      (cases_Bool (before x z))

  pub rank_placed : (x : X) (ys : List X) → in_rank before ys ≡ true → in_rank before (placed before x ys) ≡ true
  rank_placed x [] t = ap (in_rank before) (placed_none before x) ∙ ranked_one before x
  rank_placed x (y ∷ ys) t =
      let both = and_parts (none_before before y ys) (in_rank before ys) (sym (ranked_cons before y ys) ∙ t) in
      ⊎_elim
      (λ here.
      let none = and_from (not (before y x)) (none_before before x ys) (not_from_false (before y x) (not_back x y here)) (none_as before x y (λ z f. not_between x y z here f) ys both.0) in
      ap (in_rank before) (placed_here before x y ys here) ∙ ranked_cons before x (y ∷ ys) ∙ and_from (none_before before x (y ∷ ys)) (in_rank before (y ∷ ys)) (none_cons before x y ys ∙ none) t)
      (λ later.
      ap (in_rank before) (placed_later before x y ys later) ∙ ranked_cons before y (placed before x ys) ∙ and_from (none_before before y (placed before x ys)) (in_rank before (placed before x ys)) (none_placed y x ys later both.0) (rank_placed x ys both.1))
      (cases_Bool (before x y))

rank_broken : {X : Type 0} (before : X → X → Bool) (x y : X) (ys : List X) → before y x ≡ true → in_rank before (x ∷ y ∷ ys) ≡ false
rank_broken before x y ys t =
    ranked_cons before x (y ∷ ys) ∙ and_left (none_before before x (y ∷ ys)) (in_rank before (y ∷ ys)) (none_cons before x y ys ∙ ap (λ b. not b && none_before before x ys) t)

-- a pair of neighbours that is out of rank tells that the run is
rank_broken_at : {X : Type 0} (before : X → X → Bool) (k : ℕ) (xs : List X) → k + 1 < length xs → ((d : X) → false ≡ not (before (slice_index_or xs (k + 1) d) (slice_index_or xs k d))) → in_rank before xs ≡ false
rank_broken_at before k [] h out = absurd (omega arith)
rank_broken_at before k (x ∷ []) h out = absurd (omega arith)
rank_broken_at before zero (x ∷ y ∷ ys) h out = rank_broken before x y ys (not-false (before y x) (sym (out x)))
rank_broken_at before (suc k) (x ∷ y ∷ ys) h out =
    ranked_cons before x (y ∷ ys) ∙ and_right (none_before before x (y ∷ ys)) (in_rank before (y ∷ ys)) (rank_broken_at before k (y ∷ ys) (omega arith) (λ d. simp unary_clauses (simp unary_clauses at (out d))))

-- Neighbours that are in rank tell that a run is.
module _ {X : Type 0} (before : X → X → Bool) (price number : X → ℕ) (transitive : (x y z : X) → before x y ≡ true → before y z ≡ true → before x z ≡ true) (level_price : (x y : X) → before x y ≡ false → before y x ≡ false → price x ≡ price y) (level_number : (x y : X) → before x y ≡ false → before y x ≡ false → number x ≡ number y) (alike : (x y z : X) → price x ≡ price y → number x ≡ number y → before z x ≡ before z y) where
  not_past : (x y z : X) → before y x ≡ false → before z y ≡ false → before z x ≡ false
  not_past x y z f n =
      ⊎_elim
      (λ b.
      ⊎_elim (λ t. absurd (both_ways (before z y) n (transitive z x y b t)))
      (λ l. alike x y z (level_price x y l f) (level_number x y l f) ∙ n)
      (cases_Bool (before x y)))
      (λ g. g)
      (cases_Bool (before z x))

  rank_on : (x y : X) (ys : List X) → before y x ≡ false → in_rank before (y ∷ ys) ≡ in_rank before (x ∷ y ∷ ys)
  rank_on x y ys f =
      ⊎_elim
      (λ t.
      let both = and_parts (none_before before y ys) (in_rank before ys) (sym (ranked_cons before y ys) ∙ t) in
      let none = and_from (not (before y x)) (none_before before x ys) (not_from_false (before y x) f) (none_as before x y (λ z n. not_past x y z f n) ys both.0) in
      t ∙ sym (ranked_cons before x (y ∷ ys) ∙ and_from (none_before before x (y ∷ ys)) (in_rank before (y ∷ ys)) (none_cons before x y ys ∙ none) t))
      (λ g. g ∙ sym (ranked_cons before x (y ∷ ys) ∙ and_right (none_before before x (y ∷ ys)) (in_rank before (y ∷ ys)) g))
      (cases_Bool (in_rank before (y ∷ ys)))

  rank_of_pairs : (xs : List X) → AllAdjacentBelow (λ x y. true ≡ not (before y x)) xs (length xs) → in_rank before xs ≡ true
  rank_of_pairs [] h = ranked_none before
  rank_of_pairs (x ∷ []) h = ranked_one before x
  rank_of_pairs (x ∷ y ∷ ys) h = sym (rank_on x y ys (not-true (before y x) (sym (h 0 y (omega arith))))) ∙ rank_of_pairs (y ∷ ys) (λ k d inside. simp unary_clauses (simp unary_clauses at (h (k + 1) d (omega arith))))

  -- what was answered of each two neighbours tells whether a run is in rank
  pub rank_told : (xs : List X) (r : Bool) → IsAllAdjacentAnswer (λ x y b. b ≡ not (before y x)) xs r → r ≡ in_rank before xs
  rank_told xs true h = sym (rank_of_pairs xs h)
  rank_told xs false h = sym (rank_broken_at before h.0 xs h.1 h.2)

-- The last item of a run settled, as the code does it: `front` is what stands before it, and what stands from its place on is turned.
module _ {X : Type 0} (before : X → X → Bool) (run front part part' : List X) (place : ℕ) (item : X) where
  pub settled : item ≡ get_or run (length run - 1) item → front ≡ take (length run - 1 - 0) run → place ≡ position_or_len (before item) front
      → part ≡ take (length run - place) (drop place run) → part' ≡ drop (length part - 1) part ++ take (length part - 1) part
      → (xs : List X) (x : X) → run ≡ xs ++ x ∷ [] → put_mid place (length run - place) run part' ≡ placed before x xs
  settled last cut at_first of turn xs x is =
      let long : length run ≡ length xs + 1 = ap length is ∙ length_push xs x in
      let first : length run - 1 - 0 ≡ length xs = omega arith in
      let front_is : front ≡ xs = cut ∙ ap (λ k. take k run) first ∙ ap (take (length xs)) is ∙ take_at xs (x ∷ []) (length xs) refl in
      let within : place ≤ length front = rw at_first (prefix_len-le-length (λ y. not (before item y)) front) in
      let value : placed before item front ≡ take place front ++ (item ∷ drop place front) = rw at_first (placed_at before item front) in
      let at : length run - 1 ≡ length xs = omega arith in
      let item_is : item ≡ x = last ∙ ap (λ k. get_or run k item) at ∙ ap (λ ys. get_or ys (length xs) item) is ∙ get_or_push xs x item (length xs) refl in
      let inside : place ≤ length xs = omega (arith, ap length front_is) in
      let part_is : part ≡ drop place (xs ++ x ∷ []) = of ∙ take_rest run place ∙ ap (drop place) is in
      let rest : part' ≡ x ∷ drop place xs = turn ∙ turned xs x place inside part part_is in
      let none : drop (length run - place) (drop place run) ≡ [] = drop_all (length run - place) (drop place run) (omega (arith, length-drop place run)) in
      let start : take place run ≡ take place xs = ap (take place) is ∙ take-append-le place xs (x ∷ []) inside in
      let whole : placed before x xs ≡ take place xs ++ (x ∷ drop place xs) = subst (λ y. placed before y xs ≡ take place xs ++ (y ∷ drop place xs)) item_is (subst (λ ys. placed before item ys ≡ take place ys ++ (item ∷ drop place ys)) front_is value) in
      ap (λ ys. ys ++ (part' ++ drop (length run - place) (drop place run))) start ∙ ap (λ ys. take place xs ++ (part' ++ ys)) none ∙ ap (λ ys. take place xs ++ ys) (append-nil part' ∙ rest) ∙ sym whole
