-- Which prices of a book trade. Assumes nothing.
use Rattle.std.specs.Prelude.{◌≡◌, ℕ, ◌<◌, ◌≤◌}
use Rattle.rules.specs.Schedule.{Schedule, volume}

-- of the admissible prices, just those from low to high trade
pub record Crossed (k : Schedule) (low high : ℕ) : Type 0 where
  pub one : 1 ≤ low
  pub order : low ≤ high
  pub within : high ≤ k.top
  pub below : (m : ℕ) → m < low → k.sold m ≡ 0
  pub above : (m : ℕ) → high < m → m ≤ k.top → k.bought m ≡ 0
  pub trades : (m : ℕ) → low ≤ m → m ≤ high → 0 < volume k m
