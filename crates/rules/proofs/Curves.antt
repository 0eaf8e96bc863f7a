-- With the price less is bought and more is sold, and what is admissible in money. Assumes nothing.
use Rattle.std.proofs.Common.{◌≡◌, ℕ, ◌+◌, ◌*◌, ◌/◌, ◌≤◌, sym, ap, ◌∙◌, Bool, true, false, cond, ◌&&◌, List, [], ◌∷◌, refl, le-div_iff_mul-le, mul-add, mul_comm, arith}
use Rattle.std.proofs.Math.Nat.{mul-div-mul_left}
use Rattle.std.proofs.lemmas.Bool.{leb-true, le-leb}
use Rattle.book.specs.declared.orders.Side.{Side}
use Rattle.book.specs.declared.orders.Side.TheVariants.{Buy, Sell}
use Rattle.book.specs.Meaning.{Order, is_side, meets, quantity_at}
use Rattle.book.proofs.Listing.{quantity_nil, quantity_cons}
use Rattle.session.specs.Openings.{ceiling}
use Rattle.rules.specs.Schedule.{schedule, mean, MeansInMoney, InMoney}
use Rattle.rules.specs.Crossings.{Monotone}

-- every order of a side that trades at m trades at n too
abbrev Wider : Side → ℕ → ℕ → Type 0
Wider s m n = (limit : ℕ) → meets s m limit ≡ true → meets s n limit ≡ true

part_grows : (a x y : Bool) (q : ℕ) → (x ≡ true → y ≡ true) → cond (a && x) q 0 ≤ cond (a && y) q 0
part_grows false x y q h = omega arith
part_grows true false y q h = omega arith
part_grows true true y q h = let t = h refl in rw t (omega arith)

quantity_grows : (s : Side) (m n : ℕ) → Wider s m n → (os : List Order) → quantity_at s m os ≤ quantity_at s n os
quantity_grows s m n w [] = omega (arith, quantity_nil s m, quantity_nil s n)
quantity_grows s m n w (o ∷ os) =
    omega (arith, quantity_cons s m o os, quantity_cons s n o os, part_grows (is_side s o.side) (meets s m o.limit) (meets s n o.limit) o.quantity (w o.limit), quantity_grows s m n w os)

pub monotone : (os : List Order) (top : ℕ) → Monotone (schedule os top)
monotone os top =
    record {
      falls = λ m n h. quantity_grows Buy n m (λ limit t. le-leb m limit (omega (arith, leb-true n limit t))) os;
      rises = λ m n h. quantity_grows Sell m n (λ limit t. le-leb limit n (omega (arith, leb-true limit m t))) os;
    }

pub in_money : (os : List Order) (tick scarcity : ℕ) → 1 ≤ tick → (m : ℕ) → InMoney tick scarcity (schedule os (ceiling tick scarcity)) m
in_money os tick scarcity some m =
    record {
      only = λ a. (a.low, (le-div_iff_mul-le some).0 a.high);
      all = λ low h. record { low = low; high = (le-div_iff_mul-le some).1 h };
    }

-- both are the same count of ticks: twice the sum and one, over four, also where all are multiplied by the tick
pub means_in_money : (tick : ℕ) → 1 ≤ tick → MeansInMoney tick
means_in_money tick some a b =
    let m = a + b + 1 in
    let n = m + m in
    let one : 2 * (a + b) + 1 * 2 ≡ n = omega arith in
    let whole : (2 * (a + b) + 1 * 2) / 4 * 1 ≡ (2 * (a + b) + 1 * 2) / 4 = omega arith in
    let ticks : mean a b ≡ n / 4 = whole ∙ ap (λ x. x / 4) one in
    let above : 2 * (a * tick + b * tick) + tick * 2 ≡ tick * n = omega (arith, mul-add tick m m, mul-add tick (a + b) 1, mul-add tick a b, mul_comm tick a, mul_comm tick b) in
    let below : 2 * (tick * 2) ≡ tick * 4 = omega arith in
    let money : (2 * (a * tick + b * tick) + tick * 2) / (2 * (tick * 2)) ≡ n / 4 = ap (λ x. x / (2 * (tick * 2))) above ∙ ap (λ x. tick * n / x) below ∙ mul-div-mul_left n 4 some in
    ap (λ x. x * tick) (ticks ∙ sym money)
