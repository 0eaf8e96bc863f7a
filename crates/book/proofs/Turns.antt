-- The rankings of orders, and what of a list of orders does not depend on their turn. Assumes nothing.
use Rattle.std.proofs.Common.{◌≡◌, ℕ, ◌+◌, ◌-◌, Bool, true, false, cond, not, ◌&&◌, eqb, List, [], ◌∷◌, ◌++◌, Some, None, sym, refl, ap, ◌∙◌, subst, ⊎_elim, arith}
use Rattle.std.proofs.lemmas.Bool.{cases_Bool, cases_eq, cond-true, cond-false, eq-eqb, ne_eqb, eqb-true, and_parts, and_from}
use Rattle.std.proofs.lemmas.Bool.Decides.{nat_tests}
use Rattle.ranking.specs.Runs.{none_before, in_rank}
use Rattle.ranking.proofs.Placing.{ranked_cons}
use Rattle.ranking.proofs.Sorting.{Shuffle, none, keep, swap, then, same, back, to_front, behind, Other, Apart, apart_shuffle}
use Rattle.book.specs.declared.orders.Side.{Side}
use Rattle.book.specs.declared.orders.Side.TheVariants.{Buy, Sell}
use Rattle.book.specs.Meaning.{Order, is_side, find_in, cut_in, left_of, part_of, quantity_at}
use Rattle.book.specs.Ranks.{before, earlier, of_side}

-- The ranking of a side is total.

pub irreflexive : (s : Side) (x : Order) → before s x x ≡ false
irreflexive Buy x = grind (arith, nat_tests)
irreflexive Sell x = grind (arith, nat_tests)

pub transitive : (s : Side) (x y z : Order) → before s x y ≡ true → before s y z ≡ true → before s x z ≡ true
transitive Buy x y z p q = grind (arith, nat_tests)
transitive Sell x y z p q = grind (arith, nat_tests)

pub level : (s : Side) (x y : Order) → before s x y ≡ false → before s y x ≡ false → x.number ≡ y.number
level Buy x y p q = grind (arith, nat_tests)
level Sell x y p q = grind (arith, nat_tests)

-- And so is that by numbers.

pub earlier_irreflexive : (x : Order) → earlier x x ≡ false
earlier_irreflexive x = grind (arith, nat_tests)

pub earlier_transitive : (x y z : Order) → earlier x y ≡ true → earlier y z ≡ true → earlier x z ≡ true
earlier_transitive x y z p q = grind (arith, nat_tests)

pub earlier_level : (x y : Order) → earlier x y ≡ false → earlier y x ≡ false → x.number ≡ y.number
earlier_level x y p q = grind (arith, nat_tests)

abbrev pub number_of : Order → ℕ
number_of o = o.number

-- What does not depend on the turn.

pub quantity_shuffle : (s : Side) (m : ℕ) {xs ys : List Order} → Shuffle xs ys → quantity_at s m xs ≡ quantity_at s m ys
unfolding quantity_at
quantity_shuffle s m none = refl
quantity_shuffle s m (keep {x} h) = ap (λ n. part_of s m x + n) (quantity_shuffle s m h)
quantity_shuffle s m (swap {x} {y} {xs}) = omega arith
quantity_shuffle s m (then h k) = quantity_shuffle s m h ∙ quantity_shuffle s m k

pub side_shuffle : (s : Side) {xs ys : List Order} → Shuffle xs ys → Shuffle (of_side s xs) (of_side s ys)
unfolding of_side
side_shuffle s none = none
side_shuffle s (keep {x} {xs} {ys} h) = by (is_side s x.side) (side_shuffle s h) where
  by : (b : Bool) → Shuffle (of_side s xs) (of_side s ys) → Shuffle (cond b (x ∷ of_side s xs) (of_side s xs)) (cond b (x ∷ of_side s ys) (of_side s ys))
  by true h = keep h
  by false h = h
side_shuffle s (swap {x} {y} {xs}) = by (is_side s x.side) (is_side s y.side) where
  by : (a b : Bool) → Shuffle (cond a (x ∷ cond b (y ∷ of_side s xs) (of_side s xs)) (cond b (y ∷ of_side s xs) (of_side s xs))) (cond b (y ∷ cond a (x ∷ of_side s xs) (of_side s xs)) (cond a (x ∷ of_side s xs) (of_side s xs)))
  by true true = swap
  by true false = same (x ∷ of_side s xs)
  by false true = same (y ∷ of_side s xs)
  by false false = same (of_side s xs)
side_shuffle s (then h k) = then (side_shuffle s h) (side_shuffle s k)

pub find_other : (n : ℕ) (xs : List Order) → Other number_of n xs → find_in xs n ≡ None
unfolding find_in
find_other n [] h = refl
find_other n (x ∷ xs) h = cond-false (eqb x.number n) _ _ (ne_eqb x.number n h.0) ∙ find_other n xs h.1

pub find_shuffle : (n : ℕ) {xs ys : List Order} → Shuffle xs ys → Apart number_of xs → find_in xs n ≡ find_in ys n
unfolding find_in
find_shuffle n none h = refl
find_shuffle n (keep {x} s) h = ap (λ o. cond (eqb x.number n) (Some x) o) (find_shuffle n s h.1)
find_shuffle n (swap {x} {y} {xs}) h =
    ⊎_elim
    (λ t.
    let ne : eqb y.number n ≡ false = ne_eqb y.number n (λ e. h.0.0 (e ∙ sym (eqb-true x.number n t))) in
    cond-true (eqb x.number n) _ _ t ∙ sym (cond-false (eqb y.number n) _ _ ne ∙ cond-true (eqb x.number n) _ _ t))
    (λ f. cond-false (eqb x.number n) _ _ f ∙ ap (λ o. cond (eqb y.number n) (Some y) o) (sym (cond-false (eqb x.number n) (Some x) (find_in xs n) f)))
    (cases_Bool (eqb x.number n))
find_shuffle n (then s t) h = find_shuffle n s h ∙ find_shuffle n t (apart_shuffle number_of s h)

-- A cut, of an order that is there and of one that is not.

-- the order with q less
abbrev pub lessened : Order → ℕ → Order
lessened o q = record { number = o.number; side = o.side; limit = o.limit; quantity = o.quantity - q }

pub cut_here : (o : Order) (os : List Order) (n q : ℕ) → o.number ≡ n → cut_in (o ∷ os) n q ≡ left_of o q ++ os
unfolding cut_in
cut_here o os n q e = cond-true (eqb o.number n) _ _ (eq-eqb o.number n e)

pub cut_later : (o : Order) (os : List Order) (n q : ℕ) → (o.number ≡ n → ⊥) → cut_in (o ∷ os) n q ≡ o ∷ cut_in os n q
unfolding cut_in
cut_later o os n q ne = cond-false (eqb o.number n) _ _ (ne_eqb o.number n ne)

pub cut_other : (n q : ℕ) (os : List Order) → Other number_of n os → cut_in os n q ≡ os
unfolding cut_in
cut_other n q [] h = refl
cut_other n q (o ∷ os) h = cond-false (eqb o.number n) _ _ (ne_eqb o.number n h.0) ∙ ap (λ ys. o ∷ ys) (cut_other n q os h.1)

-- what is left of an order is none, or the order lessened
pub left_cases : (P : List Order → Type 0) (o : Order) (q : ℕ) → P [] → P (lessened o q ∷ []) → P (left_of o q)
left_cases P o q p r = by (eqb o.quantity q) where
  by : (b : Bool) → P (cond b [] (lessened o q ∷ []))
  by true = p
  by false = r

other_left : (n : ℕ) (o : Order) (q : ℕ) (os : List Order) → Other number_of n (o ∷ os) → Other number_of n (left_of o q ++ os)
other_left n o q os h = left_cases (λ l. Other number_of n (l ++ os)) o q h.1 h

pub other_cut : (k n q : ℕ) (os : List Order) → Other number_of k os → Other number_of k (cut_in os n q)
other_cut k n q [] h = subst (Other number_of k) (sym (cut_other n q [] tt)) h
other_cut k n q (o ∷ os) h =
    ⊎_elim (λ e. subst (Other number_of k) (sym (cut_here o os n q e)) (other_left k o q os h))
    (λ ne. subst (Other number_of k) (sym (cut_later o os n q ne)) (h.0, other_cut k n q os h.1))
    (cases_eq o.number n)

pub apart_cut : (n q : ℕ) (os : List Order) → Apart number_of os → Apart number_of (cut_in os n q)
apart_cut n q [] h = subst (Apart number_of) (sym (cut_other n q [] tt)) h
apart_cut n q (o ∷ os) h =
    ⊎_elim (λ e. subst (Apart number_of) (sym (cut_here o os n q e)) (left_cases (λ l. Apart number_of (l ++ os)) o q h.1 h))
    (λ ne. subst (Apart number_of) (sym (cut_later o os n q ne)) (other_cut o.number n q os h.0, apart_cut n q os h.1))
    (cases_eq o.number n)

pub cut_shuffle : (n q : ℕ) {xs ys : List Order} → Shuffle xs ys → Apart number_of xs → Shuffle (cut_in xs n q) (cut_in ys n q)
cut_shuffle n q none h = same (cut_in [] n q)
cut_shuffle n q (keep {x} {xs} {ys} s) h =
    ⊎_elim (λ e. subst (λ l. Shuffle l (cut_in (x ∷ ys) n q)) (sym (cut_here x xs n q e)) (subst (Shuffle (left_of x q ++ xs)) (sym (cut_here x ys n q e)) (behind (left_of x q) s)))
    (λ ne. subst (λ l. Shuffle l (cut_in (x ∷ ys) n q)) (sym (cut_later x xs n q ne)) (subst (Shuffle (x ∷ cut_in xs n q)) (sym (cut_later x ys n q ne)) (keep (cut_shuffle n q s h.1))))
    (cases_eq x.number n)
cut_shuffle n q (swap {x} {y} {xs}) h =
    ⊎_elim
    (λ e.
    let ney : y.number ≡ n → ⊥ = λ f. h.0.0 (f ∙ sym e) in
    let right : cut_in (y ∷ x ∷ xs) n q ≡ y ∷ (left_of x q ++ xs) = cut_later y (x ∷ xs) n q ney ∙ ap (λ l. y ∷ l) (cut_here x xs n q e) in
    subst (λ l. Shuffle l (cut_in (y ∷ x ∷ xs) n q)) (sym (cut_here x (y ∷ xs) n q e)) (subst (Shuffle (left_of x q ++ y ∷ xs)) (sym right) (to_front y (left_of x q) xs)))
    (λ nex.
    ⊎_elim
    (λ e.
    let left : cut_in (x ∷ y ∷ xs) n q ≡ x ∷ (left_of y q ++ xs) = cut_later x (y ∷ xs) n q nex ∙ ap (λ l. x ∷ l) (cut_here y xs n q e) in
    subst (λ l. Shuffle l (cut_in (y ∷ x ∷ xs) n q)) (sym left) (subst (Shuffle (x ∷ (left_of y q ++ xs))) (sym (cut_here y (x ∷ xs) n q e)) (back (to_front x (left_of y q) xs))))
    (λ ney.
    let left : cut_in (x ∷ y ∷ xs) n q ≡ x ∷ y ∷ cut_in xs n q = cut_later x (y ∷ xs) n q nex ∙ ap (λ l. x ∷ l) (cut_later y xs n q ney) in
    let right : cut_in (y ∷ x ∷ xs) n q ≡ y ∷ x ∷ cut_in xs n q = cut_later y (x ∷ xs) n q ney ∙ ap (λ l. y ∷ l) (cut_later x xs n q nex) in
    subst (λ l. Shuffle l (cut_in (y ∷ x ∷ xs) n q)) (sym left) (subst (Shuffle (x ∷ y ∷ cut_in xs n q)) (sym right) swap))
    (cases_eq y.number n))
    (cases_eq x.number n)
cut_shuffle n q (then s t) h = then (cut_shuffle n q s h) (cut_shuffle n q t (apart_shuffle number_of s h))

-- A cut keeps a run in rank under any ranking that does not look at quantities.
module _ (goes : Order → Order → Bool) (first : (o z : Order) (q : ℕ) → goes (lessened o q) z ≡ goes o z) (second : (o z : Order) (q : ℕ) → goes z (lessened o q) ≡ goes z o) where
  none_cut : (x : Order) (n q : ℕ) (os : List Order) → none_before goes x os ≡ true → none_before goes x (cut_in os n q) ≡ true
  unfolding none_before
  none_cut x n q [] h = ap (none_before goes x) (cut_other n q [] tt)
  none_cut x n q (o ∷ os) h =
      let both = and_parts (not (goes o x)) (none_before goes x os) h in
      ⊎_elim
      (λ e.
      ap (none_before goes x) (cut_here o os n q e) ∙ left_cases (λ l. none_before goes x (l ++ os) ≡ true) o q both.1 (ap (λ b. not b && none_before goes x os) (first o x q) ∙ h))
      (λ ne. ap (none_before goes x) (cut_later o os n q ne) ∙ and_from (not (goes o x)) (none_before goes x (cut_in os n q)) both.0 (none_cut x n q os both.1))
      (cases_eq o.number n)

  none_lessened : (o : Order) (q : ℕ) (os : List Order) → none_before goes o os ≡ true → none_before goes (lessened o q) os ≡ true
  unfolding none_before
  none_lessened o q [] h = refl
  none_lessened o q (z ∷ os) h =
      let both = and_parts (not (goes z o)) (none_before goes o os) h in
      and_from (not (goes z (lessened o q))) (none_before goes (lessened o q) os) (ap not (second o z q) ∙ both.0) (none_lessened o q os both.1)

  pub rank_cut : (n q : ℕ) (os : List Order) → in_rank goes os ≡ true → in_rank goes (cut_in os n q) ≡ true
  rank_cut n q [] h = ap (in_rank goes) (cut_other n q [] tt) ∙ h
  rank_cut n q (o ∷ os) h =
      let both = and_parts (none_before goes o os) (in_rank goes os) (sym (ranked_cons goes o os) ∙ h) in
      ⊎_elim
      (λ e.
      ap (in_rank goes) (cut_here o os n q e) ∙ left_cases (λ l. in_rank goes (l ++ os) ≡ true) o q both.1 (ranked_cons goes (lessened o q) os ∙ and_from (none_before goes (lessened o q) os) (in_rank goes os) (none_lessened o q os both.0) both.1))
      (λ ne. ap (in_rank goes) (cut_later o os n q ne) ∙ ranked_cons goes o (cut_in os n q) ∙ and_from (none_before goes o (cut_in os n q)) (in_rank goes (cut_in os n q)) (none_cut o n q os both.0) (rank_cut n q os both.1))
      (cases_eq o.number n)
