-- What the turn of each of the two tests is. Assumes nothing.
use Rattle.std.proofs.Common.{◌≡◌, ℕ, ◌+◌, ◌-◌, ◌<◌, ◌≤◌, refl, ⊎_elim, arith}
use Rattle.std.proofs.lemmas.Bool.{cases_lt}
use Rattle.rules.specs.Schedule.{Schedule}
use Rattle.rules.specs.Crossings.{Monotone, Crossing, Same, LowestSame}
use Rattle.price.specs.Crossed.{Crossed}

module _ (k : Schedule) (mono : Monotone k) (least most : ℕ) (c : Crossed k least most) where
  -- below the lowest price that trades nothing is sold, and above the highest nothing is bought
  pub crossing_found : (r : ℕ) → least ≤ r → r ≤ most + 1 → (r < most + 1 → k.bought r < k.sold r) → (least < r → k.sold (r - 1) ≤ k.bought (r - 1)) → Crossing k (r - 1)
  crossing_found r from to at before =
      record {
        within = omega (arith, c.within);
        upto = λ m one le.
            ⊎_elim
            (λ lt. omega (arith, c.below m lt))
            (λ ge. omega (arith, before (omega arith), mono.falls m (r - 1) le, mono.rises m (r - 1) le))
            (cases_lt m least);
        past = λ m lt high.
            ⊎_elim
            (λ gt. omega (arith, c.above m gt high, c.trades least (omega arith) c.order, mono.rises least m (omega (arith, c.order))))
            (λ le. omega (arith, at (omega arith), mono.falls r m (omega (arith, c.one)), mono.rises r m (omega (arith, c.one))))
            (cases_lt most m);
      }

  -- between two prices at which the same is bought and sold, that is so of each
  same_between : (p n m : ℕ) → n ≤ m → m ≤ p → Same k p n → Same k p m
  same_between p n m a b s =
      (omega (arith, mono.falls n m a, mono.falls m p b), omega (arith, mono.rises n m a, mono.rises m p b))

  pub lowest_found : (p r : ℕ) → p ≤ most → least ≤ r → r ≤ p → (r < p → Same k p r) → (least < r → Same k p (r - 1) → ⊥) → LowestSame k p r
  lowest_found p r high from to at before =
      record {
        low = omega (arith, c.one);
        high = to;
        same = ⊎_elim at (λ ge. let e : r ≡ p = omega arith in rw e (refl, refl)) (cases_lt r p);
        bound = λ n one s.
            ⊎_elim
            (λ lt.
            ⊎_elim
            (λ none. absurd (omega (arith, c.below n none, s.1, c.trades p (omega arith) high)))
            (λ ge. absurd (before (omega arith) (same_between p n (r - 1) (omega arith) (omega arith) s)))
            (cases_lt n least))
            (λ ge. ge)
            (cases_lt n r);
      }
