-- The trades of a volume at a price: they are fills, each in turn fits, and what they leave. Assumes nothing.
use Rattle.std.proofs.Common.{◌≡◌, ℕ, zero, suc, ◌+◌, ◌-◌, ◌<◌, ◌≤◌, min, Bool, true, false, cond, ◌||◌, eqb, List, [], ◌∷◌, length, Some, sym, refl, ap, ◌∙◌, subst, arith}
use Rattle.std.proofs.lemmas.Bool.{eqb-true, ne_eqb, cond_both, cond-false}
use Rattle.note.specs.declared.trades.Trade.{Trade}
use Rattle.ranking.proofs.Sorting.{Other, Apart, apart_shuffle, back, shuffle_sorted}
use Rattle.book.specs.declared.orders.Side.{Side}
use Rattle.book.specs.declared.orders.Side.TheVariants.{Buy, Sell}
use Rattle.book.specs.Meaning.{Order, quantity_at, find_in, cut_in}
use Rattle.book.specs.Ranks.{before, of_side, ranked}
use Rattle.book.proofs.Listing.{side_apart}
use Rattle.book.proofs.Turns.{number_of, lessened}
use Rattle.rules.specs.Rivals.{In, LiveAt, Each, traded, total, Fills}
use Rattle.rules.specs.Trades.{Fill, listed, fills, front, pairs_by, pairs, trades_at, settle, after_trades, counted, resting}
use Rattle.rules.specs.Holding.{Holds, Fits}
use Rattle.rules.proofs.Sums.{each_as, each_both, each_ranked, each_in, found_each, each_at, weigh, weigh_both, taken_ranked, firsts_ranked, other_each}
use Rattle.rules.proofs.Laying.{fill_total, if_same, each_listed, fills_total, fills_of, fills_each, fills_take, taken_le, fills_length}
use Rattle.rules.proofs.Pairing.{traded_of, paired, fewer, some, parties}
use Rattle.rules.proofs.Cutting.{same_order, found_other, found_same, cut_rest}

abbrev pub Open : Side → List Order → Fill → Type 0
Open s os f = Holds s os f.number f.quantity

abbrev pub OtherFill : ℕ → List Fill → Type 0
OtherFill n fs = Each (λ f. f.number ≡ n → ⊥) fs

abbrev pub ApartFills : List Fill → Type 0
ApartFills [] = Unit {0}
ApartFills (f ∷ fs) = OtherFill f.number fs × ApartFills fs

holds_less : (s : Side) (os : List Order) (n q r : ℕ) → r ≤ q → Holds s os n q → Holds s os n r
holds_less s os n q r le h = record { order = h.order; found = h.found; side = h.side; enough = omega (arith, h.enough) }

holds_other : (s : Side) (os : List Order) (n q k r : ℕ) → (n ≡ k → ⊥) → Holds s os k r → Holds s (cut_in os n q) k r
holds_other s os n q k r ne h = record { order = h.order; found = found_other os n q k ne ∙ h.found; side = h.side; enough = h.enough }

holds_cut : (s : Side) (os : List Order) (n q r : ℕ) → q < r → Holds s os n r → Holds s (cut_in os n q) n (r - q)
holds_cut s os n q r lt h = record {
  order = lessened h.order q;
  found = found_same os n q h.order h.found (omega (arith, h.enough));
  side = h.side;
  enough = omega (arith, h.enough);
}

pub open_other : (s : Side) (os : List Order) (n q : ℕ) (fs : List Fill) → OtherFill n fs → Each (Open s os) fs → Each (Open s (cut_in os n q)) fs
open_other s os n q fs o h = each_as _ _ (λ f p. holds_other s os n q f.number f.quantity (λ e. p.0 (sym e)) p.1) fs (each_both _ _ fs o h)

pub open_left : (s : Side) (os : List Order) (f : Fill) (q : ℕ) (fs : List Fill) → q ≤ f.quantity → Open s os f → OtherFill f.number fs → Each (Open s os) fs
    → Each (Open s (cut_in os f.number q)) (listed f.number (f.quantity - q) fs)
open_left s os f q fs le h o e =
    each_listed _ _ _ fs (λ more. holds_cut s os f.number q f.quantity (omega arith) h) (open_other s os f.number q fs o e)

one_side : (s t : Side) (os : List Order) (n q r : ℕ) → Holds s os n q → Holds t os n r → s ≡ t
one_side s t os n q r h g = let same = same_order h.order g.order (sym h.found ∙ g.found) in sym h.side ∙ ap (λ o. o.side) same ∙ g.side

pub other_side : (s t : Side) (os : List Order) (n q : ℕ) (fs : List Fill) → (s ≡ t → ⊥) → Holds s os n q → Each (Open t os) fs → OtherFill n fs
other_side s t os n q fs ne h e = each_as _ _ (λ f g same. ne (one_side s t os n q f.quantity h (subst (λ k. Holds t os k f.quantity) same g))) fs e

apart_listed : (n q : ℕ) (fs : List Fill) → OtherFill n fs → ApartFills fs → ApartFills (listed n q fs)
apart_listed n q fs o a = cond_both (eqb q 0) _ _ ApartFills (λ _. a) (λ _. (o, a))

pub buy_sell : Buy ≡ Sell → ⊥
buy_sell e = let z : ◌≡◌ {A = ℕ} 0 1 = cc in omega arith

-- a trade of the fronts leaves the fills open
pub record Both (os : List Order) (bs ss : List Fill) : Type 0 where
  pub buys : Each (Open Buy os) bs
  pub apart_buys : ApartFills bs
  pub sells : Each (Open Sell os) ss
  pub apart_sells : ApartFills ss

pub both_left : (os : List Order) (b s : Fill) (bs ss : List Fill) → Both os (b ∷ bs) (s ∷ ss)
    → Both (settle os (front b s)) (listed b.number (b.quantity - (front b s).quantity) bs) (listed s.number (s.quantity - (front b s).quantity) ss)
both_left os b s bs ss h =
    let q = min b.quantity s.quantity in
    let mid = cut_in os b.number q in
    let others = other_side Buy Sell os b.number b.quantity (s ∷ ss) buy_sell h.buys.0 h.sells in
    let buys = open_left Buy os b q bs (omega arith) h.buys.0 h.apart_buys.0 h.buys.1 in
    let sells = open_other Sell os b.number q (s ∷ ss) others h.sells in
    let more = other_side Sell Buy mid s.number s.quantity (listed b.number (b.quantity - q) bs) (λ e. buy_sell (sym e)) sells.0 buys in
    record {
      buys = open_other Buy mid s.number q _ more buys;
      apart_buys = apart_listed b.number _ bs h.apart_buys.0 h.apart_buys.1;
      sells = open_left Sell mid s q ss (omega arith) sells.0 h.apart_sells.0 sells.1;
      apart_sells = apart_listed s.number _ ss h.apart_sells.0 h.apart_sells.1;
    }

fits_by : (k : ℕ) (os : List Order) (bs ss : List Fill) → Both os bs ss → Fits os (pairs_by k bs ss)
unfolding pairs_by
fits_by zero os bs ss h = tt
fits_by (suc k) os [] ss h = tt
fits_by (suc k) os (b ∷ bs) [] h = tt
fits_by (suc k) os (b ∷ bs) (s ∷ ss) h = (
  holds_less Buy os b.number b.quantity _ (omega arith) h.buys.0,
  holds_less Sell os s.number s.quantity _ (omega arith) h.sells.0,
  fits_by k _ _ _ (both_left os b s bs ss h),
)

-- Trades that fit: what rests after them, and what they leave alone.

both_count : (s : Side) (q : ℕ) → counted s Buy q + counted s Sell q ≡ q
both_count Buy q = omega arith
both_count Sell q = omega arith

pub second_holds : (os : List Order) (t : Trade) → Holds Buy os t.buy t.quantity → Holds Sell os t.sell t.quantity → Holds Sell (cut_in os t.buy t.quantity) t.sell t.quantity
second_holds os t b s = holds_other Sell os t.buy t.quantity t.sell t.quantity (λ e. buy_sell (one_side Buy Sell os t.buy t.quantity t.quantity b (subst (λ k. Holds Sell os k t.quantity) (sym e) s))) s

-- the two orders of a trade are not the same
pub parties_differ : (os : List Order) (n k q r : ℕ) → Holds Buy os n q → Holds Sell os k r → n ≡ k → ⊥
parties_differ os n k q r b s e = buy_sell (one_side Buy Sell os n q r b (subst (λ j. Holds Sell os j r) (sym e) s))

hold_rest : (s t : Side) (os : List Order) (n q : ℕ) → Holds t os n q → resting s os ≡ counted s t q + resting s (cut_in os n q)
hold_rest s t os n q h = subst (λ x. resting s os ≡ counted s x q + resting s (cut_in os n q)) h.side (cut_rest s os n q h.order h.found h.enough)

pub trades_rest : (s : Side) (os : List Order) (ts : List Trade) → Fits os ts → resting s os ≡ total ts + resting s (after_trades os ts)
unfolding after_trades total
trades_rest s os [] f = omega arith
trades_rest s os (t ∷ ts) f =
    let rest = trades_rest s (settle os t) ts f.2 in
    let one = hold_rest s Buy os t.buy t.quantity f.0 in
    let two = hold_rest s Sell (cut_in os t.buy t.quantity) t.sell t.quantity (second_holds os t f.0 f.1) in
    omega (arith, both_count s t.quantity)

-- The fills of a side.

pub found_ranked : (s : Side) (os : List Order) → Apart number_of os → Each (λ o. (find_in os o.number ≡ Some o) × (o.side ≡ s) × In o os) (ranked s os)
found_ranked s os a = each_ranked _ s os (each_as _ _ (λ o h e. (h.0, e, h.1)) os (each_both _ _ os (found_each os a) (each_in os)))

fills_open : (s : Side) (v : ℕ) (os : List Order) → Apart number_of os → Each (Open s os) (fills v (ranked s os))
fills_open s v os a =
    fills_each _ v (ranked s os) (each_as _ _ (λ o h q more le. record { order = o; found = h.0; side = h.1; enough = le }) (ranked s os) (found_ranked s os a))

pub apart_ranked : (s : Side) (os : List Order) → Apart number_of os → Apart number_of (ranked s os)
apart_ranked s os a = apart_shuffle number_of (back (shuffle_sorted (before s) (of_side s os))) (side_apart s os a)

fills_apart : (v : ℕ) (os : List Order) → Apart number_of os → ApartFills (fills v os)
unfolding fills
fills_apart v [] a = tt
fills_apart v (o ∷ os) a =
    apart_listed o.number _ _ (fills_each _ (v - o.quantity) os (each_as _ _ (λ p h q more le. h) os (other_each o.number os a.0))) (fills_apart (v - o.quantity) os a.1)

fills_price : (s : Side) (m v : ℕ) (os : List Order) → Apart number_of os → v ≤ quantity_at s m os → Each (λ f. LiveAt s os m f.number) (fills v (ranked s os))
fills_price s m v os a le =
    let same = taken_ranked s m os in
    fills_take _ s m v (ranked s os) (firsts_ranked s m os) (omega arith)
    (each_as _ _ (λ o h limit q more le. record { order = o; live = h.2; number = refl; side = h.1; limit = limit }) (ranked s os) (found_ranked s os a))

pub fills_all : (s : Side) (m v : ℕ) (os : List Order) → v ≤ quantity_at s m os → fill_total (fills v (ranked s os)) ≡ v
fills_all s m v os le = omega (arith, taken_ranked s m os, taken_le s m (ranked s os), fills_total v (ranked s os))

fills_some : (v : ℕ) (os : List Order) → Each (λ f. 0 < f.quantity) (fills v os)
fills_some v os = fills_each _ v os (go os)
  where
    go : (xs : List Order) → Each (λ o. (q : ℕ) → 0 < q → q ≤ o.quantity → 0 < q) xs
    go [] = tt
    go (x ∷ xs) = ((λ q more le. more), go xs)

-- No order trades more than it holds.

abbrev pub own : ℕ → Order → ℕ
own n o = if_same o.number n o.quantity

pub other_weigh : (n : ℕ) (os : List Order) → Other number_of n os → weigh (own n) os ≡ 0
unfolding weigh
other_weigh n [] o = refl
other_weigh n (p ∷ os) o = let z = cond-false (eqb p.number n) p.quantity 0 (ne_eqb _ _ o.0) in omega (arith, other_weigh n os o.1)

held_at : (p : Order) (os : List Order) (n : ℕ) (o : Order) (t : Bool) → eqb p.number n ≡ t → Other number_of p.number os → cond t (Some p) (find_in os n) ≡ Some o
    → (find_in os n ≡ Some o → weigh (own n) os ≡ o.quantity) → cond t p.quantity 0 + weigh (own n) os ≡ o.quantity
held_at p os n o true t a e rest =
    let here = eqb-true _ _ t in
    let none = other_weigh n os (subst (λ k. Other number_of k os) here a) in
    let same = ap (λ (x : Order). x.quantity) (same_order p o e) in
    omega arith
held_at p os n o false t a e rest = omega (arith, rest e)

held : (os : List Order) (n : ℕ) (o : Order) → Apart number_of os → find_in os n ≡ Some o → weigh (own n) os ≡ o.quantity
unfolding find_in weigh
held [] n o a e = let z : ◌≡◌ {A = ℕ} 0 1 = cc in absurd (omega arith)
held (p ∷ os) n o a e = held_at p os n o (eqb p.number n) refl a.0 e (held os n o a.1)

or_le : (a b : Bool) (q : ℕ) → cond (a || b) q 0 ≤ cond a q 0 + cond b q 0
or_le true b q = omega arith
or_le false b q = omega arith

pub traded_both : (n : ℕ) (ts : List Trade) → traded ts n ≤ traded_of Buy n ts + traded_of Sell n ts
unfolding traded traded_of
traded_both n [] = omega arith
traded_both n (t ∷ ts) = omega (arith, or_le (eqb t.buy n) (eqb t.sell n) t.quantity, traded_both n ts)

-- Over orders whose numbers are apart, a volume that is bought and sold at a price trades so.
pub record Traded (m v : ℕ) (os : List Order) (ts : List Trade) : Type 0 where
  pub fills : Fills os m ts
  pub sum : total ts ≡ v
  pub some : Each (λ t. 0 < t.quantity) ts
  pub fits : Fits os ts

each_first : {X : Type 0} (P Q : X → Type 0) (xs : List X) → Each (λ x. P x × Q x) xs → Each P xs
each_first P Q xs e = each_as _ _ (λ x h. h.0) xs e

each_second : {X : Type 0} (P Q : X → Type 0) (xs : List X) → Each (λ x. P x × Q x) xs → Each Q xs
each_second P Q xs e = each_as _ _ (λ x h. h.1) xs e

-- the fills of both sides are open
pub both_open : (v : ℕ) (os : List Order) → Apart number_of os → Both os (fills v (ranked Buy os)) (fills v (ranked Sell os))
both_open v os a =
    record {
      buys = fills_open Buy v os a;
      apart_buys = fills_apart v (ranked Buy os) (apart_ranked Buy os a);
      sells = fills_open Sell v os a;
      apart_sells = fills_apart v (ranked Sell os) (apart_ranked Sell os a);
    }

pub trades_stand : (m v : ℕ) (os : List Order) → Apart number_of os → v ≤ quantity_at Buy m os → v ≤ quantity_at Sell m os → Traded m v os (trades_at v os)
trades_stand m v os a bought sold =
    let bs = fills v (ranked Buy os) in
    let ss = fills v (ranked Sell os) in
    let buys = fills_all Buy m v os bought in
    let all = paired bs ss (buys ∙ sym (fills_all Sell m v os sold)) in
    let priced = parties (λ n. LiveAt Buy os m n) (λ n. LiveAt Sell os m n) bs ss (fills_price Buy m v os a bought) (fills_price Sell m v os a sold) in
    record {
      fills = record {
        buys = each_first _ _ (pairs bs ss) priced;
        sells = each_second _ _ (pairs bs ss) priced;
        within = λ o i.
            let n = o.number in
            let found = each_at (λ p. find_in os p.number ≡ Some p) os (found_each os a) o i in
            omega (arith, traded_both n (pairs bs ss), all.buys n, all.sells n, fills_of n v (ranked Buy os), fills_of n v (ranked Sell os), weigh_both (own n) os, held os n o a found);
      };
      sum = all.sum ∙ buys;
      some = some bs ss (fills_some v (ranked Buy os)) (fills_some v (ranked Sell os));
      fits = fits_by _ os bs ss (both_open v os a);
    }

-- There are fewer trades than orders.

ranked_lengths : (os : List Order) → length (ranked Buy os) + length (ranked Sell os) ≡ length os
unfolding weigh
ranked_lengths os = omega (arith, weight (ranked Buy os), weight (ranked Sell os), weight os, weigh_both (λ o. 1) os)
  where
    weight : (xs : List Order) → weigh (λ o. 1) xs ≡ length xs
    weight [] = refl
    weight (x ∷ xs) = omega (arith, weight xs)

pub side_length : (s : Side) (os : List Order) → length (ranked s os) ≤ length os
side_length Buy os = omega (arith, ranked_lengths os)
side_length Sell os = omega (arith, ranked_lengths os)

pub trades_few : (v : ℕ) (os : List Order) → length (trades_at v os) ≤ length os - 1
trades_few v os =
    omega (arith, fewer (fills v (ranked Buy os)) (fills v (ranked Sell os)), fills_length v (ranked Buy os), fills_length v (ranked Sell os), ranked_lengths os)
