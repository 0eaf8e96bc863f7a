-- The equilibrium price by the letter of the rule: lists of prices, of which each step keeps some. Assumes nothing.
use Rattle.std.specs.Prelude.{ℕ, zero, suc, min, max, Bool, cond, List, [], ◌∷◌, Some, None, Option, nat_eq, nat_lt}
use Rattle.rules.specs.Schedule.{Schedule, volume, size, mean}

-- the admissible prices, the highest first
unfoldable pub prices : ℕ → List ℕ
prices zero = []
prices (suc n) = suc n ∷ prices n

-- those that pass a test
unfoldable pub keep : (ℕ → Bool) → List ℕ → List ℕ
keep p [] = []
keep p (m ∷ ms) = let others = keep p ms in cond (p m) (m ∷ others) others

-- the largest value of f, 0 of none
unfoldable pub largest : (ℕ → ℕ) → List ℕ → ℕ
largest f [] = 0
largest f (m ∷ ms) = max (f m) (largest f ms)

-- the smallest value of f, at most d
unfoldable pub smallest : (ℕ → ℕ) → ℕ → List ℕ → ℕ
smallest f d [] = d
smallest f d (m ∷ ms) = min (f m) (smallest f d ms)

abbrev pub highest : List ℕ → ℕ
highest ms = largest (λ m. m) ms

-- of a price and some more
abbrev pub lowest : ℕ → List ℕ → ℕ
lowest m ms = smallest (λ m. m) m ms

-- the tie rule, over the kept prices with a positive imbalance, those with a negative one, and all of them
abbrev pub tie : List ℕ → List ℕ → List ℕ → ℕ
tie [] [] [] = 0
tie [] [] (m ∷ ms) = mean (lowest m ms) (highest (m ∷ ms))
tie [] (n ∷ ns) ms = lowest n ns
tie (p ∷ ps) [] ms = highest (p ∷ ps)
tie (p ∷ ps) (n ∷ ns) ms = mean (highest (p ∷ ps)) (lowest n ns)

module _ (k : Schedule) where
  -- those of the largest volume
  abbrev pub fullest : ℕ → List ℕ → List ℕ
  fullest most ms = keep (λ m. nat_eq (volume k m) most) ms

  -- the smallest imbalance size of some prices
  abbrev pub least : List ℕ → ℕ
  least [] = 0
  least (m ∷ ms) = smallest (size k) (size k m) ms

  -- those of the smallest imbalance size
  abbrev pub evenest : ℕ → List ℕ → List ℕ
  evenest small ms = keep (λ m. nat_eq (size k m) small) ms

  abbrev pub tied : List ℕ → ℕ
  tied ms = tie (keep (λ m. nat_lt (k.sold m) (k.bought m)) ms) (keep (λ m. nat_lt (k.bought m) (k.sold m)) ms) ms

  abbrev pub by_size : List ℕ → ℕ
  by_size ms = tied (evenest (least ms) ms)

  -- the largest volume must be above 0
  abbrev pub by_volume : ℕ → List ℕ → Option ℕ
  by_volume zero ms = None
  by_volume (suc v) ms = Some (by_size (fullest (suc v) ms))

  -- the equilibrium price in ticks, if any price trades
  unfoldable pub equilibrium : Option ℕ
  equilibrium = let ms = prices k.top in by_volume (largest (volume k) ms) ms
