-- Each side is filled in rank. Assumes nothing.
use Rattle.std.proofs.Common.{◌≡◌, ℕ, ◌-◌, ◌<◌, ◌≤◌, min, Bool, true, false, cond, ◌||◌, inl, inr, eqb, List, [], ◌∷◌, Some, sym, refl, ap, ◌∙◌, arith}
use Rattle.std.proofs.lemmas.Bool.{eq-eqb, ne_eqb, cond-true, cond-false, and_parts}
use Rattle.note.specs.declared.trades.Trade.{Trade}
use Rattle.ranking.specs.Runs.{none_before, in_rank}
use Rattle.ranking.proofs.Placing.{ranked_cons}
use Rattle.ranking.proofs.Sorting.{Other, Apart, back, shuffle_sorted}
use Rattle.book.specs.declared.orders.Side.{Side}
use Rattle.book.specs.declared.orders.Side.TheVariants.{Buy, Sell}
use Rattle.book.specs.Meaning.{Order, is_side, quantity_at, find_in}
use Rattle.book.specs.Ranks.{before, of_side, ranked}
use Rattle.book.proofs.Bests.{ranked_ranked}
use Rattle.book.proofs.Places.{Has, has_shuffle, has_side}
use Rattle.book.proofs.Turns.{number_of, irreflexive}
use Rattle.rules.specs.Rivals.{In, Each, traded, InRank}
use Rattle.rules.specs.Trades.{fills, trades_at}
use Rattle.rules.proofs.Sums.{each_as, each_at, is_side_own, none_each, other_each, found_each}
use Rattle.rules.proofs.Laying.{if_same, fill_of, of_listed, of_le_total, fills_total, fills_of}
use Rattle.rules.proofs.Pairing.{traded_of, paired}
use Rattle.rules.proofs.Cutting.{same_order}
use Rattle.rules.proofs.Fitting.{buy_sell, other_weigh, apart_ranked, found_ranked, traded_both, fills_all}

-- The fills of orders in rank.

-- no fill is of a number that no order has
fill_other : (n v : ℕ) (os : List Order) → Other number_of n os → fill_of n (fills v os) ≡ 0
fill_other n v os o = omega (arith, fills_of n v os, other_weigh n os o)

-- the fill of the first order, and of another
fill_here : (o : Order) (v : ℕ) (os : List Order) → Other number_of o.number os → fill_of o.number (fills v (o ∷ os)) ≡ min v o.quantity
unfolding fills
fill_here o v os a =
    let q = min v o.quantity in
    let own_fill : if_same o.number o.number q ≡ q = cond-true (eqb o.number o.number) q 0 (eq-eqb o.number o.number refl) in
    omega (arith, of_listed o.number o.number q (fills (v - o.quantity) os), fill_other o.number (v - o.quantity) os a)

fill_later : (o : Order) (n v : ℕ) (os : List Order) → (o.number ≡ n → ⊥) → fill_of n (fills v (o ∷ os)) ≡ fill_of n (fills (v - o.quantity) os)
unfolding fills
fill_later o n v os ne =
    let q = min v o.quantity in
    let none : if_same o.number n q ≡ 0 = cond-false (eqb o.number n) q 0 (ne_eqb o.number n ne) in
    omega (arith, of_listed n o.number q (fills (v - o.quantity) os))

-- where something is filled there is volume
fill_volume : (n v : ℕ) (os : List Order) → 0 < fill_of n (fills v os) → 0 < v
fill_volume n v os some = omega (arith, of_le_total n (fills v os), fills_total v os)

fills_in_rank : (s : Side) (v : ℕ) (os : List Order) → in_rank (before s) os ≡ true → Apart number_of os → (x y : Order) → In x os → In y os → before s x y ≡ true
    → 0 < fill_of y.number (fills v os) → fill_of x.number (fills v os) ≡ x.quantity
fills_in_rank s v [] r a x y i j b some = absurd i
fills_in_rank s v (o ∷ os) r a x y (inl ex) (inl ey) b some =
    let clash : true ≡ false = sym b ∙ ap (before s x) (ey ∙ sym ex) ∙ irreflexive s x in
    let z : ◌≡◌ {A = ℕ} 0 1 = cc in
    absurd (omega arith)
fills_in_rank s v (o ∷ os) r a x y (inl ex) (inr j) b some =
    let apart = each_at _ os (other_each o.number os a.0) y j in
    let rest = fill_later o y.number v os (λ e. apart (sym e)) in
    let more = fill_volume y.number (v - o.quantity) os (omega arith) in
    let here = fill_here o v os a.0 in
    let full : min v o.quantity ≡ o.quantity = omega arith in
    ap (λ (p : Order). fill_of p.number (fills v (o ∷ os))) ex ∙ here ∙ full ∙ ap (λ (p : Order). p.quantity) (sym ex)
fills_in_rank s v (o ∷ os) r a x y (inr i) (inl ey) b some =
    let both = and_parts (none_before (before s) o os) (in_rank (before s) os) (sym (ranked_cons (before s) o os) ∙ r) in
    let not : before s x o ≡ false = each_at _ os (none_each s o os both.0) x i in
    let clash : true ≡ false = sym b ∙ ap (before s x) ey ∙ not in
    let z : ◌≡◌ {A = ℕ} 0 1 = cc in
    absurd (omega arith)
fills_in_rank s v (o ∷ os) r a x y (inr i) (inr j) b some =
    let both = and_parts (none_before (before s) o os) (in_rank (before s) os) (sym (ranked_cons (before s) o os) ∙ r) in
    let x_apart = each_at _ os (other_each o.number os a.0) x i in
    let y_apart = each_at _ os (other_each o.number os a.0) y j in
    let x_rest = fill_later o x.number v os (λ e. x_apart (sym e)) in
    let y_rest = fill_later o y.number v os (λ e. y_apart (sym e)) in
    x_rest ∙ fills_in_rank s (v - o.quantity) os both.1 a.1 x y i j b (omega arith)

-- The orders of a side are all among its orders in rank.

in_has : (x : Order) (os : List Order) → In x os → Has x os
in_has x [] i = i
in_has x (o ∷ os) (inl e) = inl (sym e)
in_has x (o ∷ os) (inr i) = inr (in_has x os i)

has_in : (x : Order) (os : List Order) → Has x os → In x os
has_in x [] h = h
has_in x (o ∷ os) (inl e) = inl (sym e)
has_in x (o ∷ os) (inr h) = inr (has_in x os h)

in_ranked : (s : Side) (x : Order) (os : List Order) → In x os → x.side ≡ s → In x (ranked s os)
in_ranked s x os i e =
    has_in x (ranked s os) (has_shuffle x (back (shuffle_sorted (before s) (of_side s os))) (has_side s x os (ap (is_side s) e ∙ is_side_own s) (in_has x os i)))

-- What an order trades is its fill.

each_other : (n : ℕ) (os : List Order) → Each (λ o. o.number ≡ n → ⊥) os → Other number_of n os
each_other n [] e = tt
each_other n (o ∷ os) e = (e.0, each_other n os e.1)

-- no order of the other side has its number
other_ranked : (s t : Side) (os : List Order) → Apart number_of os → (s ≡ t → ⊥) → (x : Order) → In x os → x.side ≡ s → Other number_of x.number (ranked t os)
other_ranked s t os a ne x i side =
    let found = each_at (λ o. find_in os o.number ≡ Some o) os (found_each os a) x i in
    each_other x.number (ranked t os)
    (each_as _ _
    (λ o h e.
    let same : x ≡ o = same_order x o (sym found ∙ ap (find_in os) (sym e) ∙ h.0) in
    ne (sym side ∙ ap (λ (p : Order). p.side) same ∙ h.1))
    (ranked t os) (found_ranked t os a))

first_le : (a b : Bool) (q : ℕ) → cond a q 0 ≤ cond (a || b) q 0
first_le true b q = omega arith
first_le false b q = omega arith

second_le : (a b : Bool) (q : ℕ) → cond b q 0 ≤ cond (a || b) q 0
second_le true true q = omega arith
second_le true false q = omega arith
second_le false b q = omega arith

traded_buys : (n : ℕ) (ts : List Trade) → traded_of Buy n ts ≤ traded ts n
unfolding traded traded_of
traded_buys n [] = omega arith
traded_buys n (t ∷ ts) = omega (arith, first_le (eqb t.buy n) (eqb t.sell n) t.quantity, traded_buys n ts)

traded_sells : (n : ℕ) (ts : List Trade) → traded_of Sell n ts ≤ traded ts n
unfolding traded traded_of
traded_sells n [] = omega arith
traded_sells n (t ∷ ts) = omega (arith, second_le (eqb t.buy n) (eqb t.sell n) t.quantity, traded_sells n ts)

-- over orders whose numbers are apart, the trades of a volume that is bought and sold at a price
module _ (m v : ℕ) (os : List Order) (a : Apart number_of os) (bought : v ≤ quantity_at Buy m os) (sold : v ≤ quantity_at Sell m os) where
  fill_is : (s : Side) (x : Order) → In x os → x.side ≡ s → traded (trades_at v os) x.number ≡ fill_of x.number (fills v (ranked s os))
  fill_is Buy x i e =
      let n = x.number in
      let all = paired (fills v (ranked Buy os)) (fills v (ranked Sell os)) (fills_all Buy m v os bought ∙ sym (fills_all Sell m v os sold)) in
      let none = fill_other n v (ranked Sell os) (other_ranked Buy Sell os a buy_sell x i e) in
      omega (arith, all.buys n, all.sells n, traded_buys n (trades_at v os), traded_both n (trades_at v os))
  fill_is Sell x i e =
      let n = x.number in
      let all = paired (fills v (ranked Buy os)) (fills v (ranked Sell os)) (fills_all Buy m v os bought ∙ sym (fills_all Sell m v os sold)) in
      let none = fill_other n v (ranked Buy os) (other_ranked Sell Buy os a (λ e. buy_sell (sym e)) x i e) in
      omega (arith, all.buys n, all.sells n, traded_sells n (trades_at v os), traded_both n (trades_at v os))

  pub trades_in_rank : (s : Side) → InRank s os (trades_at v os)
  trades_in_rank s x y i j ex ey b some =
      fill_is s x i ex ∙ fills_in_rank s v (ranked s os) (ranked_ranked s os) (apart_ranked s os a) x y (in_ranked s x os i ex) (in_ranked s y os j ey) b (omega (arith, fill_is s y j ey))
