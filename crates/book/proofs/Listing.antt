-- Lists of orders: rising numbers, sides, ranges and sums. Assumes nothing.
use Rattle.std.proofs.Common.{◌≡◌, ℕ, ◌+◌, ◌<◌, ◌≤◌, Bool, true, false, cond, ◌&&◌, eqb, ltb, leb, List, [], ◌∷◌, ◌++◌, length, sym, refl, ap, ◌∙◌, subst, ⊎_elim, arith}
use Rattle.std.proofs.lemmas.Bool.{cases_eq, ltb-true, lt-ltb, leb-true, le-leb, and_parts, and_from}
use Rattle.ranking.proofs.Sorting.{Other, Apart}
use Rattle.book.specs.declared.orders.Body.{Body}
use Rattle.book.specs.declared.orders.Side.{Side}
use Rattle.book.specs.Meaning.{Order, is_side, rising, cut_in, left_of, part_of, quantity_at}
use Rattle.book.specs.Ranges.{in_range}
use Rattle.book.specs.Ranks.{of_side}
use Rattle.book.specs.Runs.{all_of}
use Rattle.book.proofs.Turns.{number_of, lessened, left_cases, cut_here, cut_later, cut_other}

-- Rising numbers.

rising_nil : (low high : ℕ) → rising low [] high ≡ leb low high
unfolding rising
rising_nil low high = refl

rising_cons : (low : ℕ) (o : Order) (os : List Order) (high : ℕ) → rising low (o ∷ os) high ≡ (ltb low o.number && rising o.number os high)
unfolding rising
rising_cons low o os high = refl

pub rising_parts : (low : ℕ) (o : Order) (os : List Order) (high : ℕ) → rising low (o ∷ os) high ≡ true → (low < o.number) × (rising o.number os high ≡ true)
rising_parts low o os high h = let both = and_parts (ltb low o.number) (rising o.number os high) (sym (rising_cons low o os high) ∙ h) in (ltb-true low o.number both.0, both.1)

rising_from : (low : ℕ) (o : Order) (os : List Order) (high : ℕ) → low < o.number → rising o.number os high ≡ true → rising low (o ∷ os) high ≡ true
rising_from low o os high l h = rising_cons low o os high ∙ and_from (ltb low o.number) (rising o.number os high) (lt-ltb low o.number l) h

pub rising_ends : (low : ℕ) (os : List Order) (high : ℕ) → rising low os high ≡ true → low ≤ high
rising_ends low [] high h = leb-true low high (sym (rising_nil low high) ∙ h)
rising_ends low (o ∷ os) high h = let p = rising_parts low o os high h in omega (arith, rising_ends o.number os high p.1)

-- a number that is not above the lowest, or is above the highest, is no order's
rising_below : (low n : ℕ) (os : List Order) (high : ℕ) → n ≤ low → rising low os high ≡ true → Other number_of n os
rising_below low n [] high le h = tt
rising_below low n (o ∷ os) high le h = let p = rising_parts low o os high h in (λ e. omega arith, rising_below o.number n os high (omega arith) p.1)

pub rising_apart : (low : ℕ) (os : List Order) (high : ℕ) → rising low os high ≡ true → Apart number_of os
rising_apart low [] high h = tt
rising_apart low (o ∷ os) high h = let p = rising_parts low o os high h in (rising_below o.number o.number os high (omega arith) p.1, rising_apart o.number os high p.1)

rising_wider : (low low' : ℕ) (os : List Order) (high : ℕ) → low' ≤ low → rising low os high ≡ true → rising low' os high ≡ true
rising_wider low low' [] high le h = rising_nil low' high ∙ le-leb low' high (omega (arith, leb-true low high (sym (rising_nil low high) ∙ h)))
rising_wider low low' (o ∷ os) high le h = let p = rising_parts low o os high h in rising_from low' o os high (omega arith) p.1

pub rising_push : (low : ℕ) (os : List Order) (high : ℕ) (o : Order) → rising low os high ≡ true → high < o.number → rising low (os ++ o ∷ []) o.number ≡ true
rising_push low [] high o h l = rising_from low o [] o.number (omega (arith, rising_ends low [] high h)) (rising_nil o.number o.number ∙ le-leb o.number o.number (omega arith))
rising_push low (x ∷ os) high o h l = let p = rising_parts low x os high h in rising_from low x (os ++ o ∷ []) o.number p.0 (rising_push x.number os high o p.1 l)

pub rising_cut : (low : ℕ) (os : List Order) (high n q : ℕ) → rising low os high ≡ true → rising low (cut_in os n q) high ≡ true
rising_cut low [] high n q h = ap (λ l. rising low l high) (cut_other n q [] tt) ∙ h
rising_cut low (o ∷ os) high n q h =
    let p = rising_parts low o os high h in
    ⊎_elim
    (λ e. ap (λ l. rising low l high) (cut_here o os n q e) ∙ by (eqb o.quantity q) [] (lessened o q ∷ []) (rising_wider o.number low os high (omega arith) p.1) (rising_from low (lessened o q) os high p.0 p.1))
    (λ ne. ap (λ l. rising low l high) (cut_later o os n q ne) ∙ rising_from low o (cut_in os n q) high p.0 (rising_cut o.number os high n q p.1))
    (cases_eq o.number n)
  where
    by : (b : Bool) (xs ys : List Order) → rising low (xs ++ os) high ≡ true → rising low (ys ++ os) high ≡ true → rising low (cond b xs ys ++ os) high ≡ true
    by true xs ys p q = p
    by false xs ys p q = q

pub rising_below_all : (low : ℕ) (os : List Order) (high n : ℕ) → high < n → rising low os high ≡ true → Other number_of n os
rising_below_all low [] high n l h = tt
rising_below_all low (o ∷ os) high n l h = let p = rising_parts low o os high h in (λ e. omega (arith, rising_ends o.number os high p.1), rising_below_all o.number os high n l p.1)

pub side_other : (s : Side) (n : ℕ) (os : List Order) → Other number_of n os → Other number_of n (of_side s os)
unfolding of_side
side_other s n [] h = tt
side_other s n (o ∷ os) h = by (is_side s o.side) (side_other s n os h.1) where
  by : (b : Bool) → Other number_of n (of_side s os) → Other number_of n (cond b (o ∷ of_side s os) (of_side s os))
  by true k = (h.0, k)
  by false k = k

pub side_apart : (s : Side) (os : List Order) → Apart number_of os → Apart number_of (of_side s os)
unfolding of_side
side_apart s [] h = tt
side_apart s (o ∷ os) h = by (is_side s o.side) (side_apart s os h.1) where
  by : (b : Bool) → Apart number_of (of_side s os) → Apart number_of (cond b (o ∷ of_side s os) (of_side s os))
  by true k = (side_other s o.number os h.0, k)
  by false k = k

-- Orders of one side.

pub all_cons : (s : Side) (o : Order) (os : List Order) → all_of s (o ∷ os) ≡ (is_side s o.side && all_of s os)
unfolding all_of
all_cons s o os = refl

pub all_from : (s : Side) (o : Order) (os : List Order) → is_side s o.side ≡ true → all_of s os ≡ true → all_of s (o ∷ os) ≡ true
all_from s o os p q = all_cons s o os ∙ and_from (is_side s o.side) (all_of s os) p q

pub all_parts : (s : Side) (o : Order) (os : List Order) → all_of s (o ∷ os) ≡ true → (is_side s o.side ≡ true) × (all_of s os ≡ true)
all_parts s o os h = and_parts (is_side s o.side) (all_of s os) (sym (all_cons s o os) ∙ h)

all_left : (s : Side) (o : Order) (os : List Order) (q : ℕ) → all_of s (o ∷ os) ≡ true → all_of s (left_of o q ++ os) ≡ true
all_left s o os q h = left_cases (λ l. all_of s (l ++ os) ≡ true) o q (all_parts s o os h).1 (all_cons s (lessened o q) os ∙ sym (all_cons s o os) ∙ h)

pub all_cut : (s : Side) (n q : ℕ) (os : List Order) → all_of s os ≡ true → all_of s (cut_in os n q) ≡ true
all_cut s n q [] h = ap (all_of s) (cut_other n q [] tt) ∙ h
all_cut s n q (o ∷ os) h =
    let both = all_parts s o os h in
    ⊎_elim (λ e. ap (all_of s) (cut_here o os n q e) ∙ all_left s o os q h)
    (λ ne. ap (all_of s) (cut_later o os n q ne) ∙ all_from s o (cut_in os n q) both.0 (all_cut s n q os both.1))
    (cases_eq o.number n)

pub length_cut : (n q : ℕ) (os : List Order) → length (cut_in os n q) ≤ length os
length_cut n q [] = subst (λ l. length l ≤ 0) (sym (cut_other n q [] tt)) (omega arith)
length_cut n q (o ∷ os) =
    ⊎_elim (λ e. subst (λ l. length l ≤ length (o ∷ os)) (sym (cut_here o os n q e)) (left_cases (λ l. length (l ++ os) ≤ length (o ∷ os)) o q (omega arith) (omega arith)))
    (λ ne. subst (λ l. length l ≤ length (o ∷ os)) (sym (cut_later o os n q ne)) (omega (arith, length_cut n q os)))
    (cases_eq o.number n)

-- Ranges and sums.

pub body_ranged : (b : Body) → in_range b.limit b.quantity ≡ true
body_ranged b =
    and_from (leb 1 b.limit && leb b.limit 10000000) (leb 1 b.quantity && leb b.quantity 6858)
    (and_from (leb 1 b.limit) (leb b.limit 10000000) (le-leb 1 b.limit b.limited.0) (le-leb b.limit 10000000 b.limited.1))
    (and_from (leb 1 b.quantity) (leb b.quantity 6858) (le-leb 1 b.quantity b.sized.0) (le-leb b.quantity 6858 b.sized.1))

pub quantity_nil : (s : Side) (m : ℕ) → quantity_at s m [] ≡ 0
unfolding quantity_at
quantity_nil s m = refl

pub quantity_cons : (s : Side) (m : ℕ) (o : Order) (os : List Order) → quantity_at s m (o ∷ os) ≡ part_of s m o + quantity_at s m os
unfolding quantity_at
quantity_cons s m o os = refl
