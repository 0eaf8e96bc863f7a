-- What private functions promise one another; no caller needs it. Assumes nothing.
use Rattle.std.specs.Prelude.{◌≡◌, ℕ, ◌+◌, ◌-◌, ◌<◌, ◌≤◌, min, ◌⊎◌}
use Rattle.rules.specs.Schedule.{Schedule, Admissible, volume, size}
use Rattle.price.specs.declared.quantities.Quantities.{Quantities}

-- what is bought and what is sold, by volume and size
abbrev pub volume_of : Quantities → ℕ
volume_of at = min at.bought at.sold

abbrev pub size_of : Quantities → ℕ
size_of at = (at.bought - at.sold) + (at.sold - at.bought)

-- what a price trades, and nothing at one that is not admissible
pub record TradedAt (k : Schedule) (m : ℕ) (at : Quantities) : Type 0 where
  pub volume_is : Admissible k m → volume_of at ≡ volume k m
  pub size_is : 0 < volume_of at → size_of at ≡ size k m
  pub price : 0 < volume_of at → Admissible k m

-- the next price trades more, or as much at an imbalance that is no larger
abbrev pub GoesUp : Quantities → Quantities → Type 0
GoesUp here next = (volume_of here < volume_of next) ⊎ ((volume_of here ≡ volume_of next) × (size_of next ≤ size_of here))

-- it trades less, or as much at a larger imbalance
abbrev pub Stays : Quantities → Quantities → Type 0
Stays here next = (volume_of next < volume_of here) ⊎ ((volume_of next ≡ volume_of here) × (size_of here < size_of next))
