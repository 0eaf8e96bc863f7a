-- Each live order is its entry less what was taken from it: kept by a cut, a withdrawal, trades and an entry. Assumes nothing.
use Rattle.std.proofs.Common.{◌≡◌, ℕ, ◌+◌, ◌<◌, ◌≤◌, Bool, true, false, cond, ◌||◌, eqb, List, [], ◌∷◌, ◌++◌, Some, Option, sym, refl, ap, ◌∙◌, subst, ⊎_elim, arith}
use Rattle.std.proofs.lemmas.Bool.{cases_lt, eqb-true, eqb-false, eq-eqb, ne_eqb, cond_both, cond-true, cond-false}
use Rattle.note.specs.declared.trades.Trade.{Trade}
use Rattle.ranking.proofs.Sorting.{Other, Apart}
use Rattle.book.specs.declared.orders.Side.{Side}
use Rattle.book.specs.Meaning.{Order, find_in, cut_in, left_of, rising}
use Rattle.book.proofs.Listing.{rising_cut, rising_below_all}
use Rattle.book.proofs.Turns.{number_of, lessened, find_other, apart_cut}
use Rattle.rules.specs.Rivals.{Each, traded}
use Rattle.rules.specs.Trades.{settle, after_trades, counted, resting}
use Rattle.rules.specs.Holding.{Fits}
use Rattle.rules.proofs.Sums.{each_as, each_both, each_all, other_each}
use Rattle.rules.proofs.Laying.{if_same}
use Rattle.rules.proofs.Cutting.{same_order, none_found}
use Rattle.rules.proofs.Fitting.{second_holds, parties_differ}
use Rattle.trading.specs.Law.{Entered}

-- an order as an entry of q
abbrev pub entered_as : Order → ℕ → Entered
entered_as o q = record { number = o.number; side = o.side; quantity = q }

abbrev pub Entries : Type 0
Entries = ℕ → Option Entered

-- f has each order's entry, and u what was taken from it
abbrev pub Known : Entries → (ℕ → ℕ) → List Order → Type 0
Known f u os = Each (λ o. f o.number ≡ Some (entered_as o (o.quantity + u o.number))) os

known_at : (f : Entries) (o : Order) (n q x y : ℕ) → q + x ≡ o.quantity + y → f n ≡ Some (entered_as o (q + x)) → f n ≡ Some (entered_as o (o.quantity + y))
known_at f o n q x y e h = h ∙ ap (λ k. Some (entered_as o k)) e

pub known_as : (f : Entries) (u w : ℕ → ℕ) (os : List Order) → Each (λ o. u o.number ≡ w o.number) os → Known f u os → Known f w os
known_as f u w os e k = each_as _ _ (λ o h. h.1 ∙ ap (λ x. Some (entered_as o (o.quantity + x))) h.0) os (each_both _ _ os e k)

pub same_zero : (n k q : ℕ) → (n ≡ k → ⊥) → if_same n k q ≡ 0
same_zero n k q ne = cond-false (eqb n k) q 0 (ne_eqb n k ne)

pub same_all : (n k q : ℕ) → n ≡ k → if_same n k q ≡ q
same_all n k q e = cond-true (eqb n k) q 0 (eq-eqb n k e)

-- A cut.

abbrev pub more : (ℕ → ℕ) → ℕ → ℕ → ℕ → ℕ
more u n q k = u k + if_same n k q

known_other : (f : Entries) (u : ℕ → ℕ) (n q : ℕ) (os : List Order) → Other number_of n os → Known f u os → Known f (more u n q) os
known_other f u n q os o k = known_as f u _ os (each_as _ _ (λ p ne. let z = same_zero n p.number q (λ e. ne (sym e)) in omega arith) os (other_each n os o)) k

known_cut_at : (f : Entries) (u : ℕ → ℕ) (p : Order) (os : List Order) (n q : ℕ) (o : Order) (t : Bool) → eqb p.number n ≡ t → cond t (Some p) (find_in os n) ≡ Some o → q ≤ o.quantity
    → Other number_of p.number os → Known f u (p ∷ os) → (find_in os n ≡ Some o → Known f (more u n q) (cut_in os n q)) → Known f (more u n q) (cond t (left_of p q ++ os) (p ∷ cut_in os n q))
known_cut_at f u p os n q o true t e le r k rest =
    let here = eqb-true _ _ t in
    let same = same_order p o e in
    let holds : q ≤ p.quantity = subst (λ x. q ≤ x.quantity) (sym same) le in
    let others = known_other f u n q os (subst (λ j. Other number_of j os) here r) k.1 in
    cond_both (eqb p.quantity q) _ _ (λ ps. Known f (more u n q) (ps ++ os)) (λ _. others)
    (λ _. (known_at f (lessened p q) p.number p.quantity (u p.number) (more u n q p.number) (let all = same_all n p.number q (sym here) in omega arith) k.0, others))
known_cut_at f u p os n q o false t e le r k rest =
    let apart = eqb-false _ _ t in
    (k.0 ∙ ap (λ x. Some (entered_as p (p.quantity + x))) (let z = same_zero n p.number q (λ e. apart (sym e)) in omega arith), rest e)

pub known_cut : (f : Entries) (u : ℕ → ℕ) (os : List Order) (n q : ℕ) (o : Order) → Apart number_of os → find_in os n ≡ Some o → q ≤ o.quantity → Known f u os → Known f (more u n q) (cut_in os n q)
unfolding find_in cut_in
known_cut f u [] n q o r e le k = tt
known_cut f u (p ∷ os) n q o r e le k =
    known_cut_at f u p os n q o (eqb p.number n) refl e le r.0 k (λ found. known_cut f u os n q o r.1 found le k.1)

-- A withdrawal.

known_gone_at : (f : Entries) (u : ℕ → ℕ) (p : Order) (os : List Order) (n : ℕ) (o : Order) (t : Bool) → cond t (Some p) (find_in os n) ≡ Some o → Known f u (p ∷ os)
    → (find_in os n ≡ Some o → Known f u (cut_in os n o.quantity)) → Known f u (cond t (left_of p o.quantity ++ os) (p ∷ cut_in os n o.quantity))
known_gone_at f u p os n o true e k rest =
    let same = same_order p o e in
    cond_both (eqb p.quantity o.quantity) _ _ (λ ps. Known f u (ps ++ os)) (λ _. k.1) (λ t. absurd (eqb-false _ _ t (ap (λ x. x.quantity) same)))
known_gone_at f u p os n o false e k rest = (k.0, rest e)

pub known_gone : (f : Entries) (u : ℕ → ℕ) (os : List Order) (n : ℕ) (o : Order) → find_in os n ≡ Some o → Known f u os → Known f u (cut_in os n o.quantity)
unfolding find_in cut_in
known_gone f u [] n o e k = tt
known_gone f u (p ∷ os) n o e k = known_gone_at f u p os n o (eqb p.number n) e k (λ found. known_gone f u os n o found k.1)

-- The entry of an order that is found.

found_at : (f : Entries) (u : ℕ → ℕ) (p : Order) (os : List Order) (n : ℕ) (o : Order) (t : Bool) → eqb p.number n ≡ t → cond t (Some p) (find_in os n) ≡ Some o → f p.number ≡ Some (entered_as p (p.quantity + u p.number))
    → (find_in os n ≡ Some o → f n ≡ Some (entered_as o (o.quantity + u n))) → f n ≡ Some (entered_as o (o.quantity + u n))
found_at f u p os n o true t e k rest =
    let here = eqb-true _ _ t in
    let same = same_order p o e in
    subst (λ x. f n ≡ Some (entered_as x (x.quantity + u n))) same (subst (λ j. f j ≡ Some (entered_as p (p.quantity + u j))) here k)
found_at f u p os n o false t e k rest = rest e

pub found_known : (f : Entries) (u : ℕ → ℕ) (os : List Order) (n : ℕ) (o : Order) → find_in os n ≡ Some o → Known f u os → f n ≡ Some (entered_as o (o.quantity + u n))
unfolding find_in
found_known f u [] n o e k = absurd (none_found o e)
found_known f u (p ∷ os) n o e k = found_at f u p os n o (eqb p.number n) refl e k.0 (λ found. found_known f u os n o found k.1)

-- Numbers: what is found is at most the last.

pub found_le : (os : List Order) (hi n : ℕ) (o : Order) → rising 0 os hi ≡ true → find_in os n ≡ Some o → n ≤ hi
found_le os hi n o r e =
    ⊎_elim (λ lt. absurd (none_found o (sym (find_other n os (rising_below_all 0 os hi n lt r)) ∙ e))) (λ le. le) (cases_lt hi n)

-- Trades.

or_split : (a b : Bool) (q : ℕ) → (a ≡ true → b ≡ true → ⊥) → cond (a || b) q 0 ≡ cond a q 0 + cond b q 0
or_split true true q h = absurd (h refl refl)
or_split true false q h = omega arith
or_split false b q h = omega arith

-- a trade's two orders are not the same, so that each is counted once
traded_more : (t : Trade) (ts : List Trade) (k : ℕ) → (t.buy ≡ t.sell → ⊥) → traded (t ∷ ts) k ≡ if_same t.buy k t.quantity + if_same t.sell k t.quantity + traded ts k
unfolding traded
traded_more t ts k ne =
    omega (arith, or_split (eqb t.buy k) (eqb t.sell k) t.quantity (λ a b. ne (eqb-true t.buy k a ∙ sym (eqb-true t.sell k b))))

traded_none : (k : ℕ) → traded [] k ≡ 0
unfolding traded
traded_none k = refl

pub rising_trades : (os : List Order) (hi : ℕ) (ts : List Trade) → rising 0 os hi ≡ true → rising 0 (after_trades os ts) hi ≡ true
unfolding after_trades
rising_trades os hi [] r = r
rising_trades os hi (t ∷ ts) r = rising_trades (settle os t) hi ts (rising_cut 0 _ hi t.sell t.quantity (rising_cut 0 os hi t.buy t.quantity r))

pub known_trades : (f : Entries) (u : ℕ → ℕ) (os : List Order) (ts : List Trade) → Apart number_of os → Fits os ts → Known f u os → Known f (λ k. u k + traded ts k) (after_trades os ts)
unfolding after_trades
known_trades f u os [] r fit k = known_as f u _ os (each_all _ (λ o. omega (arith, traded_none o.number)) os) k
known_trades f u os (t ∷ ts) r fit k =
    let q = t.quantity in
    let buy = fit.0 in
    let sell = second_holds os t fit.0 fit.1 in
    let r' = apart_cut t.buy q os r in
    let differ = parties_differ os t.buy t.sell q q fit.0 fit.1 in
    let one = known_cut f u os t.buy q buy.order r buy.found buy.enough k in
    let two = known_cut f (more u t.buy q) (cut_in os t.buy q) t.sell q sell.order r' sell.found sell.enough one in
    let all = known_trades f (more (more u t.buy q) t.sell q) (settle os t) ts (apart_cut t.sell q _ r') fit.2 two in
    known_as f _ _ (after_trades (settle os t) ts) (each_all _ (λ o. omega (arith, traded_more t ts o.number differ)) _) all

-- no trade is of a number above the last
pub traded_above : (os : List Order) (hi : ℕ) (ts : List Trade) (k : ℕ) → rising 0 os hi ≡ true → Fits os ts → hi < k → traded ts k ≡ 0
traded_above os hi [] k r fit lt = traded_none k
traded_above os hi (t ∷ ts) k r fit lt =
    let buy = found_le os hi t.buy fit.0.order r fit.0.found in
    let sell = found_le os hi t.sell fit.1.order r fit.1.found in
    let x = same_zero t.buy k t.quantity (λ e. omega arith) in
    let y = same_zero t.sell k t.quantity (λ e. omega arith) in
    let rest = traded_above (settle os t) hi ts k (rising_cut 0 _ hi t.sell t.quantity (rising_cut 0 os hi t.buy t.quantity r)) fit.2 lt in
    omega (arith, traded_more t ts k (parties_differ os t.buy t.sell t.quantity t.quantity fit.0 fit.1))

-- An entry.

pub resting_more : (s : Side) (os : List Order) (o : Order) → resting s (os ++ (o ∷ [])) ≡ counted s o.side o.quantity + resting s os
unfolding resting
resting_more s [] o = refl
resting_more s (p ∷ os) o = let h = resting_more s os o in omega arith

pub known_more : (f : Entries) (u : ℕ → ℕ) (os : List Order) (o : Order) → Known f u os → f o.number ≡ Some (entered_as o o.quantity) → u o.number ≡ 0 → Known f u (os ++ (o ∷ []))
known_more f u [] o k e z = (e ∙ ap (λ x. Some (entered_as o x)) (omega arith), tt)
known_more f u (p ∷ os) o k e z = (k.0, known_more f u os o k.1 e z)
