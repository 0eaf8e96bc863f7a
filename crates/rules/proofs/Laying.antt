-- A volume laid over orders in rank: what its fills come to. Assumes nothing.
use Rattle.std.proofs.Common.{◌≡◌, ℕ, suc, ◌+◌, ◌-◌, ◌<◌, ◌≤◌, min, Bool, true, false, cond, eqb, List, [], ◌∷◌, length, refl, ap, ◌∙◌, arith}
use Rattle.std.proofs.lemmas.Bool.{eqb-true, eqb-false, cond_both}
use Rattle.book.specs.declared.orders.Side.{Side}
use Rattle.book.specs.Meaning.{Order, meets}
use Rattle.rules.specs.Rivals.{Each}
use Rattle.rules.specs.Trades.{Fill, fill, listed, fills}
use Rattle.rules.proofs.Sums.{weigh, weigh_le, taken_at, Firsts}

-- Sums of fills, and of those of one number.

unfoldable pub fill_total : List Fill → ℕ
fill_total [] = 0
fill_total (f ∷ fs) = f.quantity + fill_total fs

-- q if k is n, and else 0
abbrev pub if_same : ℕ → ℕ → ℕ → ℕ
if_same k n q = cond (eqb k n) q 0

unfoldable pub fill_of : ℕ → List Fill → ℕ
fill_of n [] = 0
fill_of n (f ∷ fs) = if_same f.number n f.quantity + fill_of n fs

split_at : (t : Bool) (q r : ℕ) → q ≤ r → cond t r 0 ≡ cond t q 0 + cond t (r - q) 0
split_at true q r h = omega arith
split_at false q r h = refl

pub if_same_split : (k n q r : ℕ) → q ≤ r → if_same k n r ≡ if_same k n q + if_same k n (r - q)
if_same_split k n q r h = split_at (eqb k n) q r h

le_at : (t : Bool) (q : ℕ) → cond t q 0 ≤ q
le_at true q = omega arith
le_at false q = omega arith

pub if_same_le : (k n q : ℕ) → if_same k n q ≤ q
if_same_le k n q = le_at (eqb k n) q

none_at : (t : Bool) → cond {A = ℕ} t 0 0 ≡ 0
none_at true = refl
none_at false = refl

pub total_listed : (n q : ℕ) (fs : List Fill) → fill_total (listed n q fs) ≡ q + fill_total fs
unfolding fill_total
total_listed n q fs = go (eqb q 0) refl
  where
    go : (t : Bool) → eqb q 0 ≡ t → fill_total (cond t fs (fill n q ∷ fs)) ≡ q + fill_total fs
    go true e = omega (arith, eqb-true q 0 e)
    go false e = refl

pub of_listed : (k n q : ℕ) (fs : List Fill) → fill_of k (listed n q fs) ≡ if_same n k q + fill_of k fs
unfolding fill_of
of_listed k n q fs = go (eqb q 0) refl
  where
    go : (t : Bool) → eqb q 0 ≡ t → fill_of k (cond t fs (fill n q ∷ fs)) ≡ if_same n k q + fill_of k fs
    go true e = let z = eqb-true q 0 e in let y = ap (λ x. if_same n k x) z ∙ none_at (eqb n k) in omega arith
    go false e = refl

pub of_le_total : (k : ℕ) (fs : List Fill) → fill_of k fs ≤ fill_total fs
unfolding fill_of fill_total
of_le_total k [] = omega arith
of_le_total k (f ∷ fs) = omega (arith, of_le_total k fs, if_same_le f.number k f.quantity)

pub each_listed : (P : Fill → Type 0) (n q : ℕ) (fs : List Fill) → (0 < q → P (fill n q)) → Each P fs → Each P (listed n q fs)
each_listed P n q fs here rest = go (eqb q 0) refl
  where
    go : (t : Bool) → eqb q 0 ≡ t → Each P (cond t fs (fill n q ∷ fs))
    go true e = rest
    go false e = let some = eqb-false q 0 e in (here (omega arith), rest)

-- the fills come to the volume, or to all that is held
pub fills_total : (v : ℕ) (os : List Order) → fill_total (fills v os) ≡ min v (weigh (λ o. o.quantity) os)
unfolding fills fill_total weigh
fills_total v [] = omega arith
fills_total v (o ∷ os) =
    omega (arith, fills_total (v - o.quantity) os, total_listed o.number (min v o.quantity) (fills (v - o.quantity) os))

-- a fill is at most what its order holds
pub fills_of : (n v : ℕ) (os : List Order) → fill_of n (fills v os) ≤ weigh (λ o. if_same o.number n o.quantity) os
unfolding fills fill_of weigh
fills_of n v [] = omega arith
fills_of n v (o ∷ os) =
    omega (arith, fills_of n (v - o.quantity) os, of_listed n o.number (min v o.quantity) (fills (v - o.quantity) os), if_same_split o.number n (min v o.quantity) o.quantity (omega arith))

-- what is so of a fill of each order, up to what it holds, is so of each fill
pub fills_each : (P : Fill → Type 0) (v : ℕ) (os : List Order) → Each (λ o. (q : ℕ) → 0 < q → q ≤ o.quantity → P (fill o.number q)) os → Each P (fills v os)
unfolding fills
fills_each P v [] e = tt
fills_each P v (o ∷ os) e = each_listed P _ _ _ (λ some. e.0 (min v o.quantity) some (omega arith)) (fills_each P (v - o.quantity) os e.1)

none_taken : (s : Side) (m : ℕ) (os : List Order) → Each (λ p. meets s m p.limit ≡ false) os → taken_at s m os ≡ 0
unfolding weigh
none_taken s m [] e = refl
none_taken s m (o ∷ os) e = let z = ap (λ t. cond t o.quantity 0) e.0 in omega (arith, none_taken s m os e.1)

must_take : (s : Side) (m v : ℕ) (o : Order) (os : List Order) (t : Bool) → (t ≡ false → Each (λ p. meets s m p.limit ≡ false) os) → v ≤ cond t o.quantity 0 + taken_at s m os → 0 < min v o.quantity → t ≡ true
must_take s m v o os true h le some = refl
must_take s m v o os false h le some = let none = none_taken s m os (h refl) in absurd (omega arith)

-- where those that take the price come first, and take the volume together, each fill is of one that takes the price
pub fills_take : (P : Fill → Type 0) (s : Side) (m v : ℕ) (os : List Order) → Firsts s m os → v ≤ taken_at s m os
    → Each (λ o. meets s m o.limit ≡ true → (q : ℕ) → 0 < q → q ≤ o.quantity → P (fill o.number q)) os → Each P (fills v os)
unfolding fills weigh
fills_take P s m v [] f le e = tt
fills_take P s m v (o ∷ os) f le e =
    let t = meets s m o.limit in
    each_listed P _ _ _ (λ some. e.0 (must_take s m v o os t f.0 le some) (min v o.quantity) some (omega arith))
    (fills_take P s m (v - o.quantity) os f.1 (omega (arith, le_at t o.quantity)) e.1)

pub taken_le : (s : Side) (m : ℕ) (os : List Order) → taken_at s m os ≤ weigh (λ o. o.quantity) os
taken_le s m os = weigh_le _ _ (λ o. le_at (meets s m o.limit) o.quantity) os

-- no volume fills nothing
pub fills_zero : (os : List Order) → fills 0 os ≡ []
unfolding fills
fills_zero [] = refl
fills_zero (o ∷ os) =
    let none : min 0 o.quantity ≡ 0 = omega arith in
    let less : 0 - o.quantity ≡ 0 = omega arith in
    ap (λ q. listed o.number q (fills (0 - o.quantity) os)) none ∙ ap (λ v. fills v os) less ∙ fills_zero os

-- How many fills there are.

length_listed : (n q : ℕ) (fs : List Fill) → length (listed n q fs) ≤ suc (length fs)
length_listed n q fs = cond_both (eqb q 0) _ _ (λ (xs : List Fill). length xs ≤ suc (length fs)) (λ _. omega arith) (λ _. omega arith)

pub fills_length : (v : ℕ) (os : List Order) → length (fills v os) ≤ length os
unfolding fills
fills_length v [] = omega arith
fills_length v (o ∷ os) = omega (arith, length_listed o.number (min v o.quantity) (fills (v - o.quantity) os), fills_length (v - o.quantity) os)
