-- What the two prices at the crossing decide. Assumes nothing.
use Rattle.std.proofs.Common.{◌≡◌, ℕ, ◌+◌, ◌<◌, ◌≤◌, ◌⊎◌, refl, inl, inr, ⊎_elim, arith}
use Rattle.std.proofs.lemmas.Bool.{cases_lt}
use Rattle.rules.specs.Schedule.{Schedule, Admissible, volume, size, mean, Positive, Negative, Zero}
use Rattle.rules.specs.Prices.{Kept, Chosen}
use Rattle.rules.specs.Prices.Chosen.{positive, negative, mixed, level}
use Rattle.rules.specs.Crossings.{Monotone, Crossing, LowestSame}
use Rattle.rules.proofs.Keeping.{kept_same, kept_like}

-- p trades, and the price above it, if there is one, trades less, or as much at a larger imbalance
pub record Lower (k : Schedule) (p : ℕ) : Type 0 where
  pub low : 1 ≤ p
  pub trades : 0 < volume k p
  pub beats : p < k.top → (volume k (p + 1) < volume k p) ⊎ ((volume k (p + 1) ≡ volume k p) × (size k p < size k (p + 1)))

-- the price above p trades, and p, if it is a price, trades less, or as much at no smaller an imbalance
pub record Upper (k : Schedule) (p : ℕ) : Type 0 where
  pub high : p < k.top
  pub trades : 0 < volume k (p + 1)
  pub beats : 1 ≤ p → (volume k p < volume k (p + 1)) ⊎ ((volume k p ≡ volume k (p + 1)) × (size k (p + 1) ≤ size k p))

-- what the two prices at the crossing decide
pub record Decides (k : Schedule) (p : ℕ) : Type 0 where
  pub upper : Upper k p → Chosen k (p + 1)
  pub lower : Lower k p → Positive k p → Chosen k p
  pub level : Lower k p → Zero k p → (m : ℕ) → LowestSame k p m → Chosen k (mean m p)

-- Below and above the crossing.

record Below (k : Schedule) (p n : ℕ) : Type 0 where
  sells : k.sold n ≤ k.sold p
  buys : k.bought p ≤ k.bought n
  here : k.sold n ≤ k.bought n
  last : k.sold p ≤ k.bought p

record Above (k : Schedule) (p n : ℕ) : Type 0 where
  room : p < k.top
  sells : k.sold (p + 1) ≤ k.sold n
  buys : k.bought n ≤ k.bought (p + 1)
  here : k.bought n < k.sold n
  first : k.bought (p + 1) < k.sold (p + 1)

module _ (k : Schedule) (mono : Monotone k) (p : ℕ) (t : Crossing k p) where
  below : (n : ℕ) → Admissible k n → n ≤ p → Below k p n
  below n a le =
      record {
        sells = mono.rises n p le;
        buys = mono.falls n p le;
        here = t.upto n a.low le;
        last = t.upto p (omega arith) (omega arith);
      }

  above : (n : ℕ) → Admissible k n → p < n → Above k p n
  above n a lt =
      record {
        room = omega arith;
        sells = mono.rises (p + 1) n (omega arith);
        buys = mono.falls (p + 1) n (omega arith);
        here = t.past n lt a.high;
        first = t.past (p + 1) (omega arith) (omega arith);
      }

  by_side : {P : Type 0} (n : ℕ) → Admissible k n → (n ≤ p → Below k p n → P) → (p < n → Above k p n → P) → P
  by_side n a f g = ⊎_elim (λ lt. g lt (above n a lt)) (λ le. f le (below n a le)) (cases_lt p n)

  -- The lower price.

  module _ (l : Lower k p) where
    at_p : Admissible k p
    at_p = record { low = l.low; high = t.within }

    lower_most : (n : ℕ) → Admissible k n → volume k n ≤ volume k p
    lower_most n a = by_side n a (λ le b. omega arith) (λ lt b. let w = l.beats b.room in omega arith)

    lower_least : (n : ℕ) → Admissible k n → volume k p ≤ volume k n → size k p ≤ size k n
    lower_least n a v = by_side n a (λ le b. omega arith) (λ lt b. let w = l.beats b.room in omega arith)

    lower_kept : Kept k p
    lower_kept =
        record {
          full = record { admissible = at_p; trades = l.trades; most = lower_most };
          least = λ n f. lower_least n f.admissible (f.most p at_p);
        }

    -- what is kept is at p or below, and the same there
    lower_same : (n : ℕ) → Admissible k n → volume k n ≡ volume k p → size k n ≡ size k p → (n ≤ p) × (k.bought n ≡ k.bought p) × (k.sold n ≡ k.sold p)
    lower_same n a v s = by_side n a (λ le b. (le, omega arith, omega arith)) (λ lt b. let w = l.beats b.room in omega arith)

    lower_each : (n : ℕ) → Kept k n → (n ≤ p) × (k.bought n ≡ k.bought p) × (k.sold n ≡ k.sold p)
    lower_each n h = let e = kept_same k n p h lower_kept in lower_same n h.full.admissible e.0 e.1

    lower : Positive k p → Chosen k p
    lower pos =
        positive
        (λ n h. let e = lower_each n h in omega arith)
        (record { kept = lower_kept; holds = pos; bound = λ n h _. (lower_each n h).0 })

    level_at : Zero k p → (m : ℕ) → LowestSame k p m → Chosen k (mean m p)
    level_at zero m s =
        level m p
        (λ n h. let e = lower_each n h in omega arith)
        (record {
          kept = kept_like k p m lower_kept (record { low = s.low; high = omega arith }) (omega arith) (omega arith);
          holds = omega arith;
          bound = λ n h _. let e = lower_each n h in s.bound n h.full.admissible.low (e.1, e.2);
        })
        (record { kept = lower_kept; holds = zero; bound = λ n h _. (lower_each n h).0 })
        refl

  -- The upper price.

  module _ (u : Upper k p) where
    at_next : Admissible k (p + 1)
    at_next = record { low = omega arith; high = omega arith }

    upper_most : (n : ℕ) → Admissible k n → volume k n ≤ volume k (p + 1)
    upper_most n a = by_side n a (λ le b. let w = u.beats (omega arith) in omega arith) (λ lt b. omega arith)

    upper_least : (n : ℕ) → Admissible k n → volume k (p + 1) ≤ volume k n → size k (p + 1) ≤ size k n
    upper_least n a v = by_side n a (λ le b. let w = u.beats (omega arith) in omega arith) (λ lt b. omega arith)

    upper_kept : Kept k (p + 1)
    upper_kept =
        record {
          full = record { admissible = at_next; trades = u.trades; most = upper_most };
          least = λ n f. upper_least n f.admissible (f.most (p + 1) at_next);
        }

    upper_sign : (n : ℕ) → Kept k n → p < n → Negative k n
    upper_sign n h lt = (above n h.full.admissible lt).here

    -- p is no match for the price above it
    upper_alone : (1 ≤ p → (volume k p < volume k (p + 1)) ⊎ (size k (p + 1) < size k p)) → Chosen k (p + 1)
    upper_alone strict =
        let past : (n : ℕ) → Kept k n → p < n = λ n h. let e = kept_same k n (p + 1) h upper_kept in
        by_side n h.full.admissible (λ le b. let w = strict (omega arith) in omega (arith, e)) (λ lt b. lt)
        in
        negative
        (λ n h. upper_sign n h (past n h))
        (record { kept = upper_kept; holds = upper_sign (p + 1) upper_kept (omega arith); bound = λ n h _. let lt = past n h in omega arith })

    -- p is as good
    upper_tied : 1 ≤ p → volume k p ≡ volume k (p + 1) → size k p ≡ size k (p + 1) → Chosen k (p + 1)
    upper_tied low v s =
        let here : Admissible k p = record { low = low; high = t.within } in
        let there = above (p + 1) at_next (omega arith) in
        let same = below p here (omega arith) in
        mixed p (p + 1)
        (record {
          kept = kept_like k (p + 1) p upper_kept here v s;
          holds = omega arith;
          bound = λ n h pos. by_side n h.full.admissible (λ le b. le) (λ lt b. omega arith);
        })
        (record {
          kept = upper_kept;
          holds = there.here;
          bound = λ n h neg. by_side n h.full.admissible (λ le b. omega arith) (λ lt b. omega arith);
        })
        (omega arith)

    upper : Chosen k (p + 1)
    upper = ⊎_elim
        (λ lt. ⊎_elim
        (λ less. upper_alone (λ _. inl less))
        (λ e. ⊎_elim
        (λ s. upper_alone (λ _. inr s))
        (λ s. upper_tied lt e.0 (omega arith))
        (cases_lt (size k (p + 1)) (size k p)))
        (u.beats lt))
        (λ none. upper_alone (λ low. inl (omega arith)))
        (cases_lt 0 p)

pub decided : (k : Schedule) → Monotone k → (p : ℕ) → Crossing k p → Decides k p
decided k mono p t =
    record {
      upper = upper k mono p t;
      lower = lower k mono p t;
      level = level_at k mono p t;
    }
