-- The trades of a volume take all but one of the orders that they are fewer than. Assumes nothing.
use Rattle.std.proofs.Common.{◌≡◌, ℕ, zero, suc, ◌+◌, ◌-◌, ◌<◌, ◌≤◌, min, true, eqb, List, [], ◌∷◌, ◌++◌, length, Some, sym, refl, ap, ◌∙◌, ⊎_elim, arith}
use Rattle.std.proofs.lemmas.Bool.{cases_lt, cases_eq, cond_both, cond-true, eq-eqb, eqb-false}
use Rattle.note.specs.declared.trades.Trade.{Trade}
use Rattle.ranking.proofs.Sorting.{Apart}
use Rattle.book.specs.declared.orders.Side.{Side}
use Rattle.book.specs.declared.orders.Side.TheVariants.{Buy, Sell}
use Rattle.book.specs.Meaning.{Order, find_in, cut_in, left_of}
use Rattle.book.specs.Ranks.{ranked}
use Rattle.book.proofs.Listing.{length_cut}
use Rattle.book.proofs.Standing.{find_later}
use Rattle.book.proofs.Turns.{number_of, lessened, cut_here, cut_later}
use Rattle.rules.specs.Rivals.{Each}
use Rattle.rules.specs.Trades.{Fill, fill, listed, fills, front, pairs_by, trades_at, settle, after_trades}
use Rattle.rules.proofs.Sums.{each_as}
use Rattle.rules.proofs.Laying.{fills_zero}
use Rattle.rules.proofs.Cutting.{same_order, none_found, found_other, found_same}
use Rattle.rules.proofs.Fitting.{OtherFill, Both, both_left, both_open, other_side, open_other, open_left, buy_sell, found_ranked}

-- a fill of all that its order holds
record Whole (os : List Order) (f : Fill) : Type 0 where
  order : Order
  found : find_in os f.number ≡ Some order
  exact : order.quantity ≡ f.quantity

-- every fill but the last is whole
abbrev Wholes : List Order → List Fill → Type 0
Wholes os [] = Unit {0}
Wholes os (f ∷ []) = Unit {0}
Wholes os (f ∷ g ∷ fs) = Whole os f × Wholes os (g ∷ fs)

wholes_rest : (os : List Order) (f : Fill) (fs : List Fill) → Wholes os (f ∷ fs) → Wholes os fs
wholes_rest os f [] h = tt
wholes_rest os f (g ∷ fs) h = h.1

whole_other : (os : List Order) (n q : ℕ) (f : Fill) → (f.number ≡ n → ⊥) → Whole os f → Whole (cut_in os n q) f
whole_other os n q f ne h = record { order = h.order; found = found_other os n q f.number (λ e. ne (sym e)) ∙ h.found; exact = h.exact }

wholes_other : (os : List Order) (n q : ℕ) (fs : List Fill) → OtherFill n fs → Wholes os fs → Wholes (cut_in os n q) fs
wholes_other os n q [] o h = tt
wholes_other os n q (f ∷ []) o h = tt
wholes_other os n q (f ∷ g ∷ fs) o h = (whole_other os n q f o.0 h.0, wholes_other os n q (g ∷ fs) o.1 h.1)

wholes_more : (os : List Order) (n q : ℕ) (fs : List Fill) → ((fs ≡ [] → ⊥) → 0 < q → Whole os (fill n q)) → Wholes os fs → Wholes os (listed n q fs)
wholes_more os n q [] w h = cond_both (eqb q 0) [] (fill n q ∷ []) (Wholes os) (λ _. tt) (λ _. tt)
wholes_more os n q (g ∷ fs) w h =
    cond_both (eqb q 0) (g ∷ fs) (fill n q ∷ g ∷ fs) (Wholes os) (λ _. h)
    (λ t. let some = eqb-false q 0 t in (w (λ e. let z : ◌≡◌ {A = ℕ} (suc (length fs)) 0 = ap length e in omega arith) (omega arith), h))

whole_first : (os : List Order) (f : Fill) (fs : List Fill) → (fs ≡ [] → ⊥) → Wholes os (f ∷ fs) → Whole os f
whole_first os f [] ne h = absurd (ne refl)
whole_first os f (g ∷ fs) ne h = h.0

-- a cut of a fill leaves the rest of it whole
wholes_cut : (os : List Order) (f : Fill) (q : ℕ) (fs : List Fill) → OtherFill f.number fs → Wholes os (f ∷ fs) → Wholes (cut_in os f.number q) (listed f.number (f.quantity - q) fs)
wholes_cut os f q fs o h =
    wholes_more (cut_in os f.number q) f.number (f.quantity - q) fs
    (λ ne more.
    let w = whole_first os f fs ne h in
    let exact = w.exact in
    record { order = lessened w.order q; found = found_same os f.number q w.order w.found (omega arith); exact = omega arith })
    (wholes_other os f.number q fs o (wholes_rest os f fs h))

-- a cut of the whole takes the order out
cut_out : (os : List Order) (n q : ℕ) (o : Order) → find_in os n ≡ Some o → o.quantity ≡ q → length (cut_in os n q) + 1 ≡ length os
unfolding find_in
cut_out [] n q o e w = absurd (none_found o e)
cut_out (p ∷ os) n q o e w =
    ⊎_elim
    (λ here.
    let found : p ≡ o = same_order p o (sym (cond-true (eqb p.number n) (Some p) (find_in os n) (eq-eqb p.number n here)) ∙ e) in
    let all : eqb p.quantity q ≡ true = eq-eqb p.quantity q (ap (λ (x : Order). x.quantity) found ∙ w) in
    let none : left_of p q ≡ [] = cond-true (eqb p.quantity q) _ _ all in
    let gone = ap length (cut_here p os n q here ∙ ap (λ (xs : List Order). xs ++ os) none) in
    omega arith)
    (λ other.
    let later = ap length (cut_later p os n q other) in
    omega (arith, cut_out os n q o (sym (find_later p os n other) ∙ e) w))
    (cases_eq p.number n)

empty_buys : (k : ℕ) (bs ss : List Fill) (t : Trade) (ts : List Trade) → pairs_by k bs ss ≡ t ∷ ts → bs ≡ [] → ⊥
unfolding pairs_by
empty_buys zero bs ss t ts e z = let l = ap length e in omega arith
empty_buys (suc k) [] ss t ts e z = let l = ap length e in omega arith
empty_buys (suc k) (b ∷ bs) ss t ts e z = let l = ap length z in omega arith

empty_sells : (k : ℕ) (bs ss : List Fill) (t : Trade) (ts : List Trade) → pairs_by k bs ss ≡ t ∷ ts → ss ≡ [] → ⊥
unfolding pairs_by
empty_sells zero bs ss t ts e z = let l = ap length e in omega arith
empty_sells (suc k) [] ss t ts e z = let l = ap length e in omega arith
empty_sells (suc k) (b ∷ bs) [] t ts e z = let l = ap length e in omega arith
empty_sells (suc k) (b ∷ bs) (s ∷ ss) t ts e z = let l = ap length z in omega arith

listed_none : (n q : ℕ) (fs : List Fill) → q ≡ 0 → listed n q fs ≡ fs
listed_none n q fs e = cond-true (eqb q 0) fs (fill n q ∷ fs) (eq-eqb q 0 e)

settle_shorter : (os : List Order) (t : Trade) → length (settle os t) ≤ length os
settle_shorter os t = omega (arith, length_cut t.buy t.quantity os, length_cut t.sell t.quantity (cut_in os t.buy t.quantity))

-- One trade that is not the last takes an order out.
module _ (os : List Order) (b s : Fill) (bs ss : List Fill) (h : Both os (b ∷ bs) (s ∷ ss)) (wb : Wholes os (b ∷ bs)) (ws : Wholes os (s ∷ ss)) where
  sells_other : OtherFill b.number (s ∷ ss)
  sells_other = other_side Buy Sell os b.number b.quantity (s ∷ ss) buy_sell h.buys.0 h.sells

  one_less : (k : ℕ) (t : Trade) (ts : List Trade) → pairs_by k (listed b.number (b.quantity - (front b s).quantity) bs) (listed s.number (s.quantity - (front b s).quantity) ss) ≡ t ∷ ts → length (settle os (front b s)) + 1 ≤ length os
  one_less k t ts e =
      let q = min b.quantity s.quantity in
      let mid = cut_in os b.number q in
      ⊎_elim
      (λ lt.
      let ended = listed_none s.number (s.quantity - q) ss (omega arith) in
      let w = whole_other os b.number q s sells_other.0 (whole_first os s ss (λ none. empty_sells k _ _ t ts e (ended ∙ none)) ws) in
      let exact = w.exact in
      omega (arith, cut_out mid s.number q w.order w.found (omega arith), length_cut b.number q os))
      (λ le.
      let ended = listed_none b.number (b.quantity - q) bs (omega arith) in
      let w = whole_first os b bs (λ none. empty_buys k _ _ t ts e (ended ∙ none)) wb in
      let exact = w.exact in
      omega (arith, cut_out os b.number q w.order w.found (omega arith), length_cut s.number q mid))
      (cases_lt s.quantity b.quantity)

  buys_left : Wholes (settle os (front b s)) (listed b.number (b.quantity - (front b s).quantity) bs)
  buys_left =
      let q = min b.quantity s.quantity in
      let mid = cut_in os b.number q in
      let opened = open_left Buy os b q bs (omega arith) h.buys.0 h.apart_buys.0 h.buys.1 in
      let sold = open_other Sell os b.number q (s ∷ ss) sells_other h.sells in
      let others = other_side Sell Buy mid s.number s.quantity (listed b.number (b.quantity - q) bs) (λ e. buy_sell (sym e)) sold.0 opened in
      wholes_other mid s.number q _ others (wholes_cut os b q bs h.apart_buys.0 wb)

  sells_left : Wholes (settle os (front b s)) (listed s.number (s.quantity - (front b s).quantity) ss)
  sells_left =
      let q = min b.quantity s.quantity in
      wholes_cut (cut_in os b.number q) s q ss h.apart_sells.0 (wholes_other os b.number q (s ∷ ss) sells_other ws)

shrinks_by : (k : ℕ) (os : List Order) (bs ss : List Fill) → Both os bs ss → Wholes os bs → Wholes os ss → length (after_trades os (pairs_by k bs ss)) + length (pairs_by k bs ss) ≤ length os + 1
unfolding pairs_by after_trades
shrinks_by zero os bs ss h wb ws = omega arith
shrinks_by (suc k) os [] ss h wb ws = omega arith
shrinks_by (suc k) os (b ∷ bs) [] h wb ws = omega arith
shrinks_by (suc k) os (b ∷ bs) (s ∷ ss) h wb ws =
    go (pairs_by k _ _) refl (shrinks_by k (settle os (front b s)) _ _ (both_left os b s bs ss h) (buys_left os b s bs ss h wb ws) (sells_left os b s bs ss h wb ws))
  where
    go : (rest : List Trade) → pairs_by k (listed b.number (b.quantity - (front b s).quantity) bs) (listed s.number (s.quantity - (front b s).quantity) ss) ≡ rest
        → length (after_trades (settle os (front b s)) rest) + length rest ≤ length (settle os (front b s)) + 1
        → length (after_trades (settle os (front b s)) rest) + suc (length rest) ≤ length os + 1
    go [] e r = omega (arith, settle_shorter os (front b s))
    go (t ∷ ts) e r = omega (arith, one_less os b s bs ss h wb ws k t ts e)

wholes_fills : (os : List Order) (v : ℕ) (xs : List Order) → Each (λ o. find_in os o.number ≡ Some o) xs → Wholes os (fills v xs)
unfolding fills
wholes_fills os v [] e = tt
wholes_fills os v (o ∷ xs) e =
    wholes_more os o.number (min v o.quantity) (fills (v - o.quantity) xs)
    (λ ne more.
    let left : 0 < v - o.quantity = ⊎_elim (λ lt. lt) (λ le. absurd (ne (ap (λ w. fills w xs) (let z : v - o.quantity ≡ 0 = omega arith in z) ∙ fills_zero xs))) (cases_lt 0 (v - o.quantity)) in
    record { order = o; found = e.0; exact = omega arith })
    (wholes_fills os (v - o.quantity) xs e.1)

-- so many orders and trades are at most one more than the orders were
pub trades_shrink : (v : ℕ) (os : List Order) → Apart number_of os → length (after_trades os (trades_at v os)) + length (trades_at v os) ≤ length os + 1
trades_shrink v os a =
    let whole : (s : Side) → Wholes os (fills v (ranked s os)) = λ s. wholes_fills os v (ranked s os) (each_as _ _ (λ o h. h.0) (ranked s os) (found_ranked s os a)) in
    shrinks_by _ os _ _ (both_open v os a) (whole Buy) (whole Sell)
