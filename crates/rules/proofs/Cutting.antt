-- One cut: what is found after it, and what rests. Assumes nothing.
use Rattle.std.proofs.Common.{◌≡◌, ℕ, ◌+◌, ◌-◌, ◌<◌, ◌≤◌, Bool, true, false, cond, eqb, List, [], ◌∷◌, ◌++◌, Some, None, sym, refl, ap, ◌∙◌, subst, arith}
use Rattle.std.proofs.lemmas.Bool.{eqb-true, eq-eqb, ne_eqb, cond_both, cond-true, cond-false}
use Rattle.book.specs.declared.orders.Side.{Side}
use Rattle.book.specs.Meaning.{Order, is_side, find_in, cut_in, left_of}
use Rattle.book.proofs.Turns.{lessened}
use Rattle.rules.specs.Trades.{counted, resting}

pub same_order : (p o : Order) → Some p ≡ Some o → p ≡ o
same_order p o e = cc

pub none_found : (o : Order) → None ≡ Some o → ⊥
none_found o e = let z : ◌≡◌ {A = ℕ} 0 1 = cc in omega arith

-- Another order is found as before.

other_left : (p : Order) (os : List Order) (q k : ℕ) → (p.number ≡ k → ⊥) → find_in (left_of p q ++ os) k ≡ find_in os k
unfolding find_in
other_left p os q k ne =
    cond_both (eqb p.quantity q) _ _ (λ ps. find_in (ps ++ os) k ≡ find_in os k) (λ _. refl)
    (λ _. cond-false (eqb p.number k) _ _ (ne_eqb _ _ ne))

pub found_other : (os : List Order) (n q k : ℕ) → (n ≡ k → ⊥) → find_in (cut_in os n q) k ≡ find_in os k
unfolding find_in cut_in
found_other [] n q k ne = refl
found_other (p ∷ os) n q k ne =
    cond_both (eqb p.number n) _ _ (λ ps. find_in ps k ≡ find_in (p ∷ os) k)
    (λ t. let here = eqb-true _ _ t in let other : p.number ≡ k → ⊥ = λ e. ne (sym here ∙ e) in other_left p os q k other ∙ sym (cond-false (eqb p.number k) _ _ (ne_eqb _ _ other)))
    (λ _. ap (λ x. cond (eqb p.number k) (Some p) x) (found_other os n q k ne))

-- The order itself is found with less.

same_left : (p : Order) (os : List Order) (q : ℕ) → q < p.quantity → find_in (left_of p q ++ os) p.number ≡ Some (lessened p q)
unfolding find_in
same_left p os q lt =
    cond_both (eqb p.quantity q) _ _ (λ ps. find_in (ps ++ os) p.number ≡ Some (lessened p q)) (λ t. let e = eqb-true _ _ t in absurd (omega arith))
    (λ _. cond-true (eqb p.number p.number) _ _ (eq-eqb _ _ refl))

found_same_at : (p : Order) (os : List Order) (n q : ℕ) (o : Order) (t : Bool) → eqb p.number n ≡ t → cond t (Some p) (find_in os n) ≡ Some o → q < o.quantity
    → (find_in os n ≡ Some o → find_in (cut_in os n q) n ≡ Some (lessened o q)) → find_in (cond t (left_of p q ++ os) (p ∷ cut_in os n q)) n ≡ Some (lessened o q)
unfolding find_in
found_same_at p os n q o true t e lt rest =
    let here = eqb-true _ _ t in
    let same = same_order p o e in
    let more : q < p.quantity = subst (λ x. q < x.quantity) (sym same) lt in
    ap (find_in (left_of p q ++ os)) (sym here) ∙ same_left p os q more ∙ ap (λ x. Some (lessened x q)) same
found_same_at p os n q o false t e lt rest = cond-false (eqb p.number n) _ _ t ∙ rest e

pub found_same : (os : List Order) (n q : ℕ) (o : Order) → find_in os n ≡ Some o → q < o.quantity → find_in (cut_in os n q) n ≡ Some (lessened o q)
unfolding find_in cut_in
found_same [] n q o e lt = absurd (none_found o e)
found_same (p ∷ os) n q o e lt = found_same_at p os n q o (eqb p.number n) refl e lt (λ found. found_same os n q o found lt)

-- What rests.

counted_split : (s t : Side) (q k : ℕ) → q ≤ k → counted s t k ≡ counted s t q + counted s t (k - q)
counted_split s t q k h = by (is_side s t) where
  by : (b : Bool) → cond b k 0 ≡ cond b q 0 + cond b (k - q) 0
  by true = omega arith
  by false = omega arith

left_rest : (s : Side) (p : Order) (os : List Order) (q : ℕ) → q ≤ p.quantity → counted s p.side p.quantity + resting s os ≡ counted s p.side q + resting s (left_of p q ++ os)
unfolding resting
left_rest s p os q h =
    cond_both (eqb p.quantity q) _ _ (λ ps. counted s p.side p.quantity + resting s os ≡ counted s p.side q + resting s (ps ++ os))
    (λ t. ap (λ k. counted s p.side k + resting s os) (eqb-true _ _ t))
    (λ _. let split = counted_split s p.side q p.quantity h in omega arith)

cut_rest_at : (s : Side) (p : Order) (os : List Order) (n q : ℕ) (o : Order) (t : Bool) → cond t (Some p) (find_in os n) ≡ Some o → q ≤ o.quantity
    → (find_in os n ≡ Some o → resting s os ≡ counted s o.side q + resting s (cut_in os n q))
    → counted s p.side p.quantity + resting s os ≡ counted s o.side q + resting s (cond t (left_of p q ++ os) (p ∷ cut_in os n q))
unfolding resting
cut_rest_at s p os n q o true e h rest =
    let same : o ≡ p = sym (same_order p o e) in
    let G : Order → Type 0 = λ x. q ≤ x.quantity → counted s p.side p.quantity + resting s os ≡ counted s x.side q + resting s (left_of p q ++ os) in
    subst G (sym same) (λ le. left_rest s p os q le) h
cut_rest_at s p os n q o false e h rest = let r = rest e in omega arith

pub cut_rest : (s : Side) (os : List Order) (n q : ℕ) (o : Order) → find_in os n ≡ Some o → q ≤ o.quantity → resting s os ≡ counted s o.side q + resting s (cut_in os n q)
unfolding resting find_in cut_in
cut_rest s [] n q o e h = absurd (none_found o e)
cut_rest s (p ∷ os) n q o e h = cut_rest_at s p os n q o (eqb p.number n) e h (λ found. cut_rest s os n q o found h)
