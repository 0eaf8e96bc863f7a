-- The ranges of an order's limit and quantity. Assumes nothing.
use Rattle.std.specs.Prelude.{ℕ, ◌≤◌, Bool, ◌&&◌, nat_le}

abbrev pub InLimit : ℕ → Type 0
InLimit limit = (1 ≤ limit) × (limit ≤ 10000000)

abbrev pub InQuantity : ℕ → Type 0
InQuantity quantity = (1 ≤ quantity) × (quantity ≤ 6858)

-- the same as a test of both
abbrev pub in_range : ℕ → ℕ → Bool
in_range limit quantity = (nat_le 1 limit && nat_le limit 10000000) && (nat_le 1 quantity && nat_le quantity 6858)
