-- The fronts of the two sides: refilled, and one trade on. Assumes nothing.
use Rattle.std.proofs.Common.{◌≡◌, ℕ, zero, suc, ◌+◌, ◌-◌, ◌<◌, ◌≤◌, min, eqb, ◌⊎◌, List, [], ◌∷◌, length, drop, Some, None, sym, refl, ap, ◌∙◌, subst, inl, inr, add-one, arith}
use Rattle.std.specs.List.{slice_get}
use Rattle.std.proofs.lemmas.Bool.{eq-eqb, ne_eqb, cond-true, cond-false}
use Rattle.book.specs.declared.orders.Side.{Side}
use Rattle.book.specs.declared.orders.Side.TheVariants.{Buy, Sell}
use Rattle.book.specs.Meaning.{Book, Order, Sound}
use Rattle.book.specs.Ranks.{ranked, at_place}
use Rattle.rules.specs.Trades.{Fill, fill, fills, listed, pairs}
use Rattle.rules.proofs.Pairing.{pairs_next, pairs_no_buys, pairs_no_sells}
use Rattle.rules.proofs.Laying.{fills_zero}
use Rattle.rules.proofs.Fitting.{side_length}
use Rattle.engine.specs.declared.fronts.Front.{Front}
use Rattle.engine.specs.declared.fronts.Fronts.{Fronts}
use Rattle.engine.specs.Pairings.{fills_from, At, Refilled, trades_left, Placed, Next}

-- Ranks.

pub rank_small : (s : Side) (m : Book) (k : ℕ) → Sound m → k ≤ length (ranked s m.orders) → k ≤ 256
rank_small s m k w le = omega (arith, side_length s m.orders, w.few, w.room)

at_next : (xs : List Order) (k : ℕ) → at_place xs (k + 1) ≡ slice_get xs k
at_next xs k = ap (at_place xs) (add-one k)

-- the k-th order, and then those behind it
pub record Nth (xs : List Order) (k : ℕ) (o : Order) : Type 0 where
  pub within : k < length xs
  pub rest : drop k xs ≡ o ∷ drop (suc k) xs

nth_some : (xs : List Order) (k : ℕ) (o : Order) → slice_get xs k ≡ Some o → Nth xs k o
nth_some [] k o e = let z : ◌≡◌ {A = ℕ} 0 1 = cc in absurd (omega arith)
nth_some (x ∷ xs) zero o e = let same : x ≡ o = cc in record { within = omega arith; rest = ap (λ y. y ∷ xs) same }
nth_some (x ∷ xs) (suc k) o e = let rest = nth_some xs k o e in record { within = omega (arith, rest.within); rest = rest.rest }

nth_none : (xs : List Order) (k : ℕ) → slice_get xs k ≡ None → drop k xs ≡ []
nth_none [] zero e = refl
nth_none [] (suc k) e = refl
nth_none (x ∷ xs) zero e = let z : ◌≡◌ {A = ℕ} 0 1 = cc in absurd (omega arith)
nth_none (x ∷ xs) (suc k) e = nth_none xs k e

-- Fills.

listed_none : (n q : ℕ) (fs : List Fill) → q ≡ 0 → listed n q fs ≡ fs
listed_none n q fs e = cond-true (eqb q 0) fs (fill n q ∷ fs) (eq-eqb q 0 e)

listed_some : (n q : ℕ) (fs : List Fill) → 0 < q → listed n q fs ≡ fill n q ∷ fs
listed_some n q fs lt = cond-false (eqb q 0) fs (fill n q ∷ fs) (ne_eqb q 0 (λ e. omega arith))

-- A front that is refilled.

no_more : (s : Side) (os : List Order) (c : Front) → c.left ≡ 0 → c.«open» ≡ 0 → fills_from s os c ≡ []
no_more s os c e z = listed_none c.number c.«open» _ z ∙ ap (λ v. fills v (drop c.rank (ranked s os))) e ∙ fills_zero _

pub refill_open : (s : Side) (os : List Order) (c : Front) → At s os c → (0 < c.«open») ⊎ ((c.«open» ≤ 0) × (c.left ≡ 0)) → Refilled s os c c
refill_open s os c at (inl lt) = record { same = refl; placed = at; ended = λ z. absurd (omega arith) }
refill_open s os c at (inr e) = record { same = refl; placed = at; ended = no_more s os c e.1 }

pub refill_none : (s : Side) (os : List Order) (c : Front) → At s os c → c.«open» ≡ 0 → at_place (ranked s os) (c.rank + 1) ≡ None → Refilled s os c c
unfolding fills
refill_none s os c at z e =
    let none = nth_none (ranked s os) c.rank (sym (at_next (ranked s os) c.rank) ∙ e) in
    record { same = refl; placed = at; ended = λ _. listed_none c.number c.«open» _ z ∙ ap (fills c.left) none }

pub refill_some : (s : Side) (os : List Order) (c : Front) (o : Order) (q : ℕ) → c.«open» ≡ 0 → (c.left ≡ 0 → ⊥) → at_place (ranked s os) (c.rank + 1) ≡ Some o → 0 < o.quantity → q ≡ min c.left o.quantity
    → Refilled s os c (record { rank = c.rank + 1; number = o.number; «open» = q; left = c.left - q })
unfolding fills
refill_some s os c o q z more e lt is =
    let at = nth_some (ranked s os) c.rank o (sym (at_next (ranked s os) c.rank) ∙ e) in
    let one = add-one c.rank in
    let less : c.left - o.quantity ≡ c.left - q = omega arith in
    record {
      same = listed_none c.number c.«open» _ z ∙ ap (fills c.left) at.rest ∙ ap (λ x. listed o.number x (fills (c.left - o.quantity) (drop (suc c.rank) (ranked s os)))) (sym is)
          ∙ ap (λ v. listed o.number q (fills v (drop (suc c.rank) (ranked s os)))) less ∙ ap (λ k. listed o.number q (fills (c.left - q) (drop k (ranked s os)))) (sym one);
      placed = omega (arith, at.within);
      ended = λ none. absurd (omega arith);
    }

-- One trade.

abbrev pub left_of : Front → ℕ → Front
left_of c q = record { rank = c.rank; number = c.number; «open» = c.«open» - q; left = c.left }

left_same : (os : List Order) (p : Fronts) (b s : Front) → Refilled Buy os p.buys b → Refilled Sell os p.sells s → trades_left os p ≡ pairs (fills_from Buy os b) (fills_from Sell os s)
left_same os p b s x y = ap (λ fs. pairs fs (fills_from Sell os p.sells)) x.same ∙ ap (pairs (fills_from Buy os b)) y.same

pub next_none : (os : List Order) (p : Fronts) (b s : Front) → Placed os p → Refilled Buy os p.buys b → Refilled Sell os p.sells s → min b.«open» s.«open» ≡ 0 → Next os p None p
next_none os p b s at x y e = record { placed = at; trade = left_same os p b s x y ∙ none b.«open» refl }
  where
    none : (k : ℕ) → b.«open» ≡ k → pairs (fills_from Buy os b) (fills_from Sell os s) ≡ []
    none zero z = pairs_no_buys _ _ (x.ended z)
    none (suc k) z = pairs_no_sells _ _ (y.ended (omega arith))

next_at : (os : List Order) (p : Fronts) (b s : Front) → Refilled Buy os p.buys b → Refilled Sell os p.sells s → 0 < min b.«open» s.«open»
    → (let q = min b.«open» s.«open» in Next os p (Some (record { buy = b.number; sell = s.number; quantity = q })) (record { buys = left_of b q; sells = left_of s q }))
next_at os p b s x y lt = record {
  placed = (x.placed, y.placed);
  trade =
      let bs = fills b.left (drop b.rank (ranked Buy os)) in
      let ss = fills s.left (drop s.rank (ranked Sell os)) in
      left_same os p b s x y ∙ ap (λ fs. pairs fs (fills_from Sell os s)) (listed_some b.number b.«open» bs (omega arith))
      ∙ ap (pairs (fill b.number b.«open» ∷ bs)) (listed_some s.number s.«open» ss (omega arith)) ∙ pairs_next (fill b.number b.«open») (fill s.number s.«open») bs ss;
}

pub next_some : (os : List Order) (p : Fronts) (b s : Front) (q : ℕ) → Refilled Buy os p.buys b → Refilled Sell os p.sells s → q ≡ min b.«open» s.«open» → (q ≡ 0 → ⊥)
    → Next os p (Some (record { buy = b.number; sell = s.number; quantity = q })) (record { buys = left_of b q; sells = left_of s q })
next_some os p b s q x y e more =
    let P : ℕ → Type 0 = λ k. Next os p (Some (record { buy = b.number; sell = s.number; quantity = k })) (record { buys = left_of b k; sells = left_of s k }) in
    subst P (sym e) (next_at os p b s x y (omega arith))
