-- The equilibrium answer is what the relation has. Assumes nothing.
use Rattle.std.proofs.Common.{◌≡◌, ℕ, zero, suc, ◌≤◌, Bool, eqb, ltb, List, [], ◌∷◌, refl, ◌∙◌, subst, inl, ⊎_elim, arith}
use Rattle.std.proofs.lemmas.Bool.{cases_order, eqb-true, eq-eqb, ltb-true, lt-ltb}
use Rattle.rules.specs.Schedule.{Schedule, Admissible, volume, size, Positive, Negative, Zero}
use Rattle.rules.specs.Literal.{prices, keep, largest, highest, lowest, tie, least, evenest, by_size, by_volume, equilibrium}
use Rattle.rules.specs.Prices.{Fullest, Kept, Highest, Lowest, EachKept, Chosen, Answered}
use Rattle.rules.specs.Prices.Chosen.{positive, negative, mixed, level}
use Rattle.rules.proofs.Keeping.{kept_same}
use Rattle.rules.proofs.Lists.{Among, prices_all, prices_only, keep_only, keep_all, Reached, largest_bound, largest_some, largest_reached, smallest_bound, smallest_reached}

-- a list holds just the kept prices with a property
record Holds (k : Schedule) (P : ℕ → Type 0) (ms : List ℕ) : Type 0 where
  only : (m : ℕ) → Among m ms → Kept k m × P m
  all : (m : ℕ) → Kept k m → P m → Among m ms

module _ (k : Schedule) (P : ℕ → Type 0) (x : ℕ) (xs : List ℕ) (h : Holds k P (x ∷ xs)) where
  highest_of : Highest k P (highest (x ∷ xs))
  highest_of =
      let r = largest_reached (λ m. m) x xs in
      let o = h.only r.at r.among in
      record {
        kept = subst (Kept k) r.value o.0;
        holds = subst P r.value o.1;
        bound = λ n a b. largest_bound (λ m. m) (x ∷ xs) n (h.all n a b);
      }

  lowest_of : Lowest k P (lowest x xs)
  lowest_of =
      let r = smallest_reached (λ m. m) x xs in
      let o = h.only r.at r.among in
      record {
        kept = subst (Kept k) r.value o.0;
        holds = subst P r.value o.1;
        bound = λ n a b. smallest_bound (λ m. m) x xs n (h.all n a b);
      }

module _ (k : Schedule) (one : ℕ) (some : Kept k one) where
  tie_chosen : (ps ns ms : List ℕ) → Holds k (Positive k) ps → Holds k (Negative k) ns → ((m : ℕ) → Among m ms → Kept k m) → ((m : ℕ) → Kept k m → Among m ms) → Chosen k (tie ps ns ms)
  tie_chosen [] [] [] hp hn only all = elim (all one some) [ ]
  tie_chosen [] [] (x ∷ xs) hp hn only all =
      let zero_each : EachKept k (Zero k) = λ n h. ⊎_elim (λ e. e) (⊎_elim (λ neg. absurd (hn.all n h neg)) (λ pos. absurd (hp.all n h pos))) (cases_order (k.bought n) (k.sold n)) in
      let h : Holds k (Zero k) (x ∷ xs) = record { only = λ m i. (only m i, zero_each m (only m i)); all = λ m kept _. all m kept } in
      level (lowest x xs) (highest (x ∷ xs)) zero_each (lowest_of k (Zero k) x xs h) (highest_of k (Zero k) x xs h) refl
  tie_chosen [] (n ∷ ns) ms hp hn only all =
      let first = hn.only n (inl refl) in
      negative
      (λ i h. let e = (kept_same k i n h first.0).1 in
      ⊎_elim (λ z. omega (arith, first.1)) (⊎_elim (λ neg. neg) (λ pos. absurd (hp.all i h pos))) (cases_order (k.bought i) (k.sold i)))
      (lowest_of k (Negative k) n ns hn)
  tie_chosen (p ∷ ps) [] ms hp hn only all =
      let first = hp.only p (inl refl) in
      positive
      (λ i h. let e = (kept_same k i p h first.0).1 in
      ⊎_elim (λ z. omega (arith, first.1)) (⊎_elim (λ neg. absurd (hn.all i h neg)) (λ pos. pos)) (cases_order (k.bought i) (k.sold i)))
      (highest_of k (Positive k) p ps hp)
  tie_chosen (p ∷ ps) (n ∷ ns) ms hp hn only all =
      mixed (highest (p ∷ ps)) (lowest n ns) (highest_of k (Positive k) p ps hp) (lowest_of k (Negative k) n ns hn) refl

module _ (k : Schedule) where
  least_bound : (ms : List ℕ) (m : ℕ) → Among m ms → least k ms ≤ size k m
  least_bound [] m i = elim i [ ]
  least_bound (x ∷ xs) m i = smallest_bound (size k) x xs m i

  least_reached : (ms : List ℕ) (m : ℕ) → Among m ms → Reached (size k) ms (least k ms)
  least_reached [] m i = elim i [ ]
  least_reached (x ∷ xs) m i = smallest_reached (size k) x xs

  -- of the fullest prices
  size_chosen : (ms : List ℕ) (one : ℕ) → Among one ms → ((m : ℕ) → Among m ms → Fullest k m) → ((m : ℕ) → Fullest k m → Among m ms) → Chosen k (by_size k ms)
  size_chosen ms one some only all =
      let small = least k ms in
      let ks = evenest k small ms in
      let test : ℕ → Bool = λ m. eqb (size k m) small in
      let kept : (m : ℕ) → Among m ks → Kept k m = λ m i.
      let h = keep_only test ms m i in
      let e = eqb-true (size k m) small h.1 in
      record { full = only m h.0; least = λ n f. omega (arith, e, least_bound ms n (all n f)) } in
      let back : (m : ℕ) → Kept k m → Among m ks = λ m h.
      let r = least_reached ms one some in
      let le = h.least r.at (only r.at r.among) in
      let ge = least_bound ms m (all m h.full) in
      keep_all test ms m (all m h.full) (eq-eqb (size k m) small (omega (arith, le, ge, r.value))) in
      let first = least_reached ms one some in
      let here = kept first.at (keep_all test ms first.at first.among (eq-eqb (size k first.at) small first.value)) in
      let up : ℕ → Bool = λ m. ltb (k.sold m) (k.bought m) in
      let down : ℕ → Bool = λ m. ltb (k.bought m) (k.sold m) in
      tie_chosen k first.at here (keep up ks) (keep down ks) ks
      (record {
        only = λ m i. let h = keep_only up ks m i in (kept m h.0, ltb-true (k.sold m) (k.bought m) h.1);
        all = λ m h pos. keep_all up ks m (back m h) (lt-ltb (k.sold m) (k.bought m) pos);
      })
      (record {
        only = λ m i. let h = keep_only down ks m i in (kept m h.0, ltb-true (k.bought m) (k.sold m) h.1);
        all = λ m h neg. keep_all down ks m (back m h) (lt-ltb (k.bought m) (k.sold m) neg);
      })
      kept back

  volume_answered : (ms : List ℕ) (v : ℕ) → ((m : ℕ) → Admissible k m → Among m ms) → ((m : ℕ) → Among m ms → Admissible k m) → largest (volume k) ms ≡ v → Answered k (by_volume k v ms)
  volume_answered ms zero all only e = λ n a. omega (arith, largest_bound (volume k) ms n (all n a), e)
  volume_answered ms (suc v) all only e =
      let test : ℕ → Bool = λ m. eqb (volume k m) (suc v) in
      let r = largest_some (volume k) ms (omega arith) in
      size_chosen (keep test ms) r.at (keep_all test ms r.at r.among (eq-eqb (volume k r.at) (suc v) (r.value ∙ e)))
      (λ m i.
      let h = keep_only test ms m i in
      let w = eqb-true (volume k m) (suc v) h.1 in
      record { admissible = only m h.0; trades = omega arith; most = λ n a. omega (arith, largest_bound (volume k) ms n (all n a), e, w) })
      (λ m f.
      let a = all m f.admissible in
      let le = f.most r.at (only r.at r.among) in
      keep_all test ms m a (eq-eqb (volume k m) (suc v) (omega (arith, largest_bound (volume k) ms m a, e, le, r.value))))

pub equilibrium_answered : (k : Schedule) → Answered k (equilibrium k)
unfolding equilibrium
equilibrium_answered k =
    volume_answered k (prices k.top) (largest (volume k) (prices k.top))
    (λ m a. prices_all k.top m a.low a.high)
    (λ m i. let h = prices_only k.top m i in record { low = h.0; high = h.1 })
    refl
