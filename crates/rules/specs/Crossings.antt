-- Where the imbalance changes its sign, and that the best prices lie there. Assumes nothing.
use Rattle.std.specs.Prelude.{◌≡◌, ℕ, ◌+◌, ◌<◌, ◌≤◌, ◌≤ℤ◌}
use Rattle.rules.specs.Schedule.{Schedule, imbalance, Positive, Negative}
use Rattle.rules.specs.Prices.{Kept, Highest, Lowest}

-- with the price, what is bought never rises and what is sold never falls
pub record Monotone (k : Schedule) : Type 0 where
  pub falls : (m n : ℕ) → m ≤ n → k.bought n ≤ k.bought m
  pub rises : (m n : ℕ) → m ≤ n → k.sold m ≤ k.sold n

-- p is the highest admissible price at which no less is bought than sold, or 0 if there is none
pub record Crossing (k : Schedule) (p : ℕ) : Type 0 where
  pub within : p ≤ k.top
  pub upto : (m : ℕ) → 1 ≤ m → m ≤ p → k.sold m ≤ k.bought m
  pub past : (m : ℕ) → p < m → m ≤ k.top → k.bought m < k.sold m

-- the same is bought and sold at m as at p
abbrev pub Same : Schedule → ℕ → ℕ → Type 0
Same k p m = (k.bought m ≡ k.bought p) × (k.sold m ≡ k.sold p)

-- the lowest price of which that is so
pub record LowestSame (k : Schedule) (p m : ℕ) : Type 0 where
  pub low : 1 ≤ m
  pub high : m ≤ p
  pub same : Same k p m
  pub bound : (n : ℕ) → 1 ≤ n → Same k p n → m ≤ n

-- The imbalance never rises with the price, and changes its sign once. A kept price is like the last before the change or like the first behind it, and where
-- kept prices have both signs, the two that decide are neighbours.
pub record SignChange (k : Schedule) : Type 0 where
  pub monotone : Monotone k
  pub never_rises : (m n : ℕ) → m ≤ n → imbalance k n ≤ℤ imbalance k m
  pub place : ℕ
  pub crossing : Crossing k place
  pub before : (m : ℕ) → Kept k m → m ≤ place → Same k place m
  pub behind : (m : ℕ) → Kept k m → place < m → Same k (place + 1) m
  pub neighbours : (a b : ℕ) → Highest k (Positive k) a → Lowest k (Negative k) b → b ≡ a + 1
