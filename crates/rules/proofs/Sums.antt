-- Lists of orders: what is so of each, sums over them, and the same of a side in rank. Assumes nothing.
use Rattle.std.proofs.Common.{◌≡◌, ℕ, ◌+◌, ◌≤◌, Bool, true, false, cond, not, ◌&&◌, List, [], ◌∷◌, ◌++◌, Some, sym, refl, ◌∙◌, subst, inl, inr, arith}
use Rattle.std.proofs.lemmas.Bool.{and_parts, not-true}
use Rattle.ranking.specs.Runs.{none_before, in_rank}
use Rattle.ranking.proofs.Placing.{ranked_cons, none_cons}
use Rattle.ranking.proofs.Sorting.{Shuffle, none, keep, swap, then, back, shuffle_sorted, Other, Apart}
use Rattle.book.specs.declared.orders.Side.{Side}
use Rattle.book.specs.declared.orders.Side.TheVariants.{Buy, Sell}
use Rattle.book.specs.Meaning.{Order, is_side, meets, part_of, quantity_at, find_in}
use Rattle.book.specs.Ranks.{before, of_side, ranked}
use Rattle.book.proofs.Bests.{worse, ranked_ranked}
use Rattle.book.proofs.Turns.{number_of}
use Rattle.book.proofs.Standing.{find_here, find_later}
use Rattle.book.proofs.Listing.{quantity_nil, quantity_cons}
use Rattle.rules.specs.Rivals.{In, Each}

pub each_as : {X : Type 0} (P Q : X → Type 0) → ((x : X) → P x → Q x) → (xs : List X) → Each P xs → Each Q xs
each_as P Q h [] e = tt
each_as P Q h (x ∷ xs) e = (h x e.0, each_as P Q h xs e.1)

pub each_both : {X : Type 0} (P Q : X → Type 0) (xs : List X) → Each P xs → Each Q xs → Each (λ x. P x × Q x) xs
each_both P Q [] p q = tt
each_both P Q (x ∷ xs) p q = ((p.0, q.0), each_both P Q xs p.1 q.1)

pub each_snoc : {X : Type 0} (P : X → Type 0) (xs : List X) (x : X) → Each P xs → P x → Each P (xs ++ x ∷ [])
each_snoc P [] x h p = (p, tt)
each_snoc P (y ∷ xs) x h p = (h.0, each_snoc P xs x h.1 p)

pub each_all : {X : Type 0} (P : X → Type 0) → ((x : X) → P x) → (xs : List X) → Each P xs
each_all P h [] = tt
each_all P h (x ∷ xs) = (h x, each_all P h xs)

pub each_shuffle : {X : Type 0} (P : X → Type 0) {xs ys : List X} → Shuffle xs ys → Each P xs → Each P ys
each_shuffle P none e = e
each_shuffle P (keep s) e = (e.0, each_shuffle P s e.1)
each_shuffle P swap e = (e.1.0, (e.0, e.1.1))
each_shuffle P (then s t) e = each_shuffle P t (each_shuffle P s e)

pub is_side_own : (s : Side) → is_side s s ≡ true
is_side_own Buy = refl
is_side_own Sell = refl

pub side_is : (s t : Side) → is_side s t ≡ true → t ≡ s
side_is Buy Buy e = refl
side_is Buy Sell e = let z : true ≡ false = sym e in cc
side_is Sell Buy e = let z : true ≡ false = sym e in cc
side_is Sell Sell e = refl

each_side : (P : Order → Type 0) (s : Side) (os : List Order) → Each (λ o. o.side ≡ s → P o) os → Each P (of_side s os)
unfolding of_side
each_side P s [] e = tt
each_side P s (o ∷ os) e = by (is_side s o.side) refl (each_side P s os e.1) where
  by : (b : Bool) → is_side s o.side ≡ b → Each P (of_side s os) → Each P (cond b (o ∷ of_side s os) (of_side s os))
  by true t rest = (e.0 (side_is s o.side t), rest)
  by false t rest = rest

pub each_ranked : (P : Order → Type 0) (s : Side) (os : List Order) → Each (λ o. o.side ≡ s → P o) os → Each P (ranked s os)
each_ranked P s os e = each_shuffle P (back (shuffle_sorted (before s) (of_side s os))) (each_side P s os e)

-- Sums.

unfoldable pub weigh : (Order → ℕ) → List Order → ℕ
weigh w [] = 0
weigh w (o ∷ os) = w o + weigh w os

weigh_shuffle : (w : Order → ℕ) {xs ys : List Order} → Shuffle xs ys → weigh w xs ≡ weigh w ys
unfolding weigh
weigh_shuffle w none = refl
weigh_shuffle w (keep s) = omega (arith, weigh_shuffle w s)
weigh_shuffle w swap = omega arith
weigh_shuffle w (then s t) = weigh_shuffle w s ∙ weigh_shuffle w t

weigh_side : (w : Order → ℕ) (s : Side) (os : List Order) → weigh w (of_side s os) ≡ weigh (λ o. cond (is_side s o.side) (w o) 0) os
unfolding weigh of_side
weigh_side w s [] = refl
weigh_side w s (o ∷ os) = by (is_side s o.side) (weigh_side w s os) where
  by : (b : Bool) → weigh w (of_side s os) ≡ weigh (λ p. cond (is_side s p.side) (w p) 0) os → weigh w (cond b (o ∷ of_side s os) (of_side s os)) ≡ cond b (w o) 0 + weigh (λ p. cond (is_side s p.side) (w p) 0) os
  by true e = omega arith
  by false e = omega arith

-- a sum over a side in rank is one over all orders, of which those of the other side count 0
pub weigh_ranked : (w : Order → ℕ) (s : Side) (os : List Order) → weigh w (ranked s os) ≡ weigh (λ o. cond (is_side s o.side) (w o) 0) os
weigh_ranked w s os = weigh_shuffle w (shuffle_sorted (before s) (of_side s os)) ∙ weigh_side w s os

both_sides : (t : Side) (q : ℕ) → cond (is_side Buy t) q 0 + cond (is_side Sell t) q 0 ≡ q
both_sides Buy q = omega arith
both_sides Sell q = omega arith

-- every order is on one side
pub weigh_both : (w : Order → ℕ) (os : List Order) → weigh w (ranked Buy os) + weigh w (ranked Sell os) ≡ weigh w os
unfolding weigh
weigh_both w os = omega (arith, weigh_ranked w Buy os, weigh_ranked w Sell os, all os)
  where
    all : (os : List Order) → weigh (λ o. cond (is_side Buy o.side) (w o) 0) os + weigh (λ o. cond (is_side Sell o.side) (w o) 0) os ≡ weigh w os
    all [] = refl
    all (o ∷ os) = omega (arith, both_sides o.side (w o), all os)

pub weigh_le : (w v : Order → ℕ) → ((o : Order) → w o ≤ v o) → (os : List Order) → weigh w os ≤ weigh v os
unfolding weigh
weigh_le w v h [] = omega arith
weigh_le w v h (o ∷ os) = omega (arith, h o, weigh_le w v h os)

-- what those of the orders that meet a price hold together
abbrev pub taken_at : Side → ℕ → List Order → ℕ
taken_at s m os = weigh (λ o. cond (meets s m o.limit) o.quantity 0) os

part_is : (s : Side) (m : ℕ) (o : Order) → part_of s m o ≡ cond (is_side s o.side) (cond (meets s m o.limit) o.quantity 0) 0
part_is s m o = by (is_side s o.side) (meets s m o.limit) where
  by : (a b : Bool) → cond (a && b) o.quantity 0 ≡ cond a (cond b o.quantity 0) 0
  by true b = refl
  by false b = refl

quantity_weigh : (s : Side) (m : ℕ) (os : List Order) → quantity_at s m os ≡ weigh (λ o. cond (is_side s o.side) (cond (meets s m o.limit) o.quantity 0) 0) os
unfolding weigh
quantity_weigh s m [] = quantity_nil s m
quantity_weigh s m (o ∷ os) = omega (arith, quantity_cons s m o os, part_is s m o, quantity_weigh s m os)

pub taken_ranked : (s : Side) (m : ℕ) (os : List Order) → taken_at s m (ranked s os) ≡ quantity_at s m os
taken_ranked s m os = weigh_ranked (λ o. cond (meets s m o.limit) o.quantity 0) s os ∙ sym (quantity_weigh s m os)

-- Those that meet a price come first.

abbrev pub Firsts : Side → ℕ → List Order → Type 0
Firsts s m [] = Unit {0}
Firsts s m (o ∷ os) = (meets s m o.limit ≡ false → Each (λ p. meets s m p.limit ≡ false) os) × Firsts s m os

pub none_each : (s : Side) (o : Order) (os : List Order) → none_before (before s) o os ≡ true → Each (λ p. before s p o ≡ false) os
none_each s o [] h = tt
none_each s o (p ∷ os) h =
    let both = and_parts (not (before s p o)) (none_before (before s) o os) (sym (none_cons (before s) o p os) ∙ h) in
    (not-true (before s p o) both.0, none_each s o os both.1)

firsts : (s : Side) (m : ℕ) (os : List Order) → in_rank (before s) os ≡ true → Firsts s m os
firsts s m [] h = tt
firsts s m (o ∷ os) h =
    let both = and_parts (none_before (before s) o os) (in_rank (before s) os) (sym (ranked_cons (before s) o os) ∙ h) in
    ((λ f. each_as _ _ (λ p b. worse s m o p f b) os (none_each s o os both.0)), firsts s m os both.1)

pub firsts_ranked : (s : Side) (m : ℕ) (os : List Order) → Firsts s m (ranked s os)
firsts_ranked s m os = firsts s m (ranked s os) (ranked_ranked s os)

-- Finding.

pub each_in : (os : List Order) → Each (λ o. In o os) os
each_in [] = tt
each_in (o ∷ os) = (inl refl, each_as _ _ (λ p i. inr i) os (each_in os))

pub other_each : (n : ℕ) (os : List Order) → Other number_of n os → Each (λ o. o.number ≡ n → ⊥) os
other_each n [] h = tt
other_each n (o ∷ os) h = (h.0, other_each n os h.1)

-- each order is found by its number
pub found_each : (os : List Order) → Apart number_of os → Each (λ o. find_in os o.number ≡ Some o) os
found_each [] a = tt
found_each (o ∷ os) a = (
  find_here o os o.number refl,
  each_as _ _ (λ p h. find_later o os p.number (λ e. h.0 (sym e)) ∙ h.1) os (each_both _ _ os (other_each o.number os a.0) (found_each os a.1)),
)

pub each_at : (P : Order → Type 0) (os : List Order) → Each P os → (o : Order) → In o os → P o
each_at P [] e o i = elim i [ ]
each_at P (x ∷ os) e o (inl same) = subst P (sym same) e.0
each_at P (x ∷ os) e o (inr i) = each_at P os e.1 o i
