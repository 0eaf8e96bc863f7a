-- No fills at a price total more than its volume: trades are counted by the orders of either side. Assumes nothing.
use Rattle.std.proofs.Common.{◌≡◌, ℕ, ◌+◌, ◌≤◌, Bool, true, false, cond, ◌&&◌, ◌||◌, eqb, List, [], ◌∷◌, sym, refl, ap, ◌∙◌, inl, inr, arith}
use Rattle.std.proofs.lemmas.Bool.{eq-eqb, and_from}
use Rattle.note.specs.declared.trades.Trade.{Trade}
use Rattle.book.specs.declared.orders.Side.{Side}
use Rattle.book.specs.declared.orders.Side.TheVariants.{Buy, Sell}
use Rattle.book.specs.Meaning.{Order, is_side, meets, quantity_at}
use Rattle.book.proofs.Listing.{quantity_nil, quantity_cons}
use Rattle.rules.specs.Schedule.{schedule, volume}
use Rattle.rules.specs.Rivals.{In, LiveAt, Each, traded, total, Fills}

-- One side, by the number that its order has in a trade.
module _ (s : Side) (m : ℕ) (num : Trade → ℕ) where
  -- an order of the side trades at the price
  abbrev ok : Order → Bool
  ok o = is_side s o.side && meets s m o.limit

  abbrev one : Trade → ℕ → ℕ
  one t n = cond (eqb (num t) n) t.quantity 0

  -- what the number n trades
  abbrev per : List Trade → ℕ → ℕ
  per [] n = 0
  per (t ∷ ts) n = one t n + per ts n

  -- what the orders of the side trade, by one trade and by all
  abbrev claims : Trade → List Order → ℕ
  claims t [] = 0
  claims t (o ∷ os) = cond (ok o) (one t o.number) 0 + claims t os

  abbrev spread : List Trade → List Order → ℕ
  spread ts [] = 0
  spread ts (o ∷ os) = cond (ok o) (per ts o.number) 0 + spread ts os

  claims_some : (t : Trade) (os : List Order) (o : Order) → In o os → ok o ≡ true → num t ≡ o.number → t.quantity ≤ claims t os
  claims_some t [] o i h e = elim i [ ]
  claims_some t (x ∷ os) o (inl same) h e =
      let a : ok x ≡ true = ap ok (sym same) ∙ h in
      let b : eqb (num t) x.number ≡ true = eq-eqb (num t) x.number (e ∙ ap (λ (y : Order). y.number) same) in
      rw (a, b) (omega arith)
  claims_some t (x ∷ os) o (inr i) h e = omega (arith, claims_some t os o i h e)

  sum_cond : (b : Bool) (x y : ℕ) → cond b (x + y) 0 ≡ cond b x 0 + cond b y 0
  sum_cond true x y = refl
  sum_cond false x y = refl

  spread_more : (t : Trade) (ts : List Trade) (os : List Order) → spread (t ∷ ts) os ≡ claims t os + spread ts os
  spread_more t ts [] = refl
  spread_more t ts (o ∷ os) = omega (arith, spread_more t ts os, sum_cond (ok o) (one t o.number) (per ts o.number))

  side_ok : (o : Order) → o.side ≡ s → meets s m o.limit ≡ true → ok o ≡ true
  side_ok o e t = and_from (is_side s o.side) (meets s m o.limit) (ap (is_side s) e ∙ own s) t
    where
      own : (s : Side) → is_side s s ≡ true
      own Buy = refl
      own Sell = refl

  total_spread : (os : List Order) (ts : List Trade) → Each (λ t. LiveAt s os m (num t)) ts → total ts ≤ spread ts os
  unfolding total
  total_spread os [] h = omega arith
  total_spread os (t ∷ ts) h =
      let live = h.0 in
      omega (arith, spread_more t ts os, claims_some t os live.order live.live (side_ok live.order live.side live.limit) (sym live.number), total_spread os ts h.1)

  le_cond : (b : Bool) (x y : ℕ) → x ≤ y → cond b x 0 ≤ cond b y 0
  le_cond true x y h = h
  le_cond false x y h = omega arith

  spread_held : (ts : List Trade) (os : List Order) → ((o : Order) → In o os → per ts o.number ≤ o.quantity) → spread ts os ≤ quantity_at s m os
  spread_held ts [] h = omega (arith, quantity_nil s m)
  spread_held ts (o ∷ os) h =
      omega (arith, quantity_cons s m o os, le_cond (ok o) (per ts o.number) o.quantity (h o (inl refl)), spread_held ts os (λ x i. h x (inr i)))

  -- the number's trades are some of those that the order of the number has
  abbrev Counted : Type 0
  Counted = (t : Trade) (n : ℕ) → cond (eqb (num t) n) t.quantity 0 ≤ cond (eqb t.buy n || eqb t.sell n) t.quantity 0

  per_traded : Counted → (ts : List Trade) (n : ℕ) → per ts n ≤ traded ts n
  unfolding traded
  per_traded c [] n = omega arith
  per_traded c (t ∷ ts) n = omega (arith, c t n, per_traded c ts n)

  side_holds : Counted → (os : List Order) (ts : List Trade) → Each (λ t. LiveAt s os m (num t)) ts → ((o : Order) → In o os → traded ts o.number ≤ o.quantity) → total ts ≤ quantity_at s m os
  side_holds c os ts each within =
      omega (arith, total_spread os ts each, spread_held ts os (λ o i. omega (arith, per_traded c ts o.number, within o i)))

first_le : (a b : Bool) (q : ℕ) → cond a q 0 ≤ cond (a || b) q 0
first_le true b q = omega arith
first_le false b q = omega arith

second_le : (a b : Bool) (q : ℕ) → cond b q 0 ≤ cond (a || b) q 0
second_le true true q = omega arith
second_le true false q = omega arith
second_le false b q = omega arith

pub no_rival_more : (os : List Order) (top m : ℕ) (ts : List Trade) → Fills os m ts → total ts ≤ volume (schedule os top) m
no_rival_more os top m ts f =
    let b = side_holds Buy m (λ t. t.buy) (λ t n. first_le (eqb t.buy n) (eqb t.sell n) t.quantity) os ts f.buys f.within in
    let s = side_holds Sell m (λ t. t.sell) (λ t n. second_le (eqb t.buy n) (eqb t.sell n) t.quantity) os ts f.sells f.within in
    omega (arith, b, s)
