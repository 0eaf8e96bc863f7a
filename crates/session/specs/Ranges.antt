-- The ranges of a session's tick and of a price. Assumes nothing.
use Rattle.std.specs.Prelude.{ℕ, ◌≤◌, Bool, ◌&&◌, nat_le}

-- from 1 on, and at most so much
abbrev pub Within : ℕ → ℕ → Type 0
Within most n = (1 ≤ n) × (n ≤ most)

abbrev pub InTick : ℕ → Type 0
InTick tick = Within 1000 tick

abbrev pub InPrice : ℕ → Type 0
InPrice price = Within 10000000 price

-- the same as tests
abbrev pub within : ℕ → ℕ → Bool
within most n = nat_le 1 n && nat_le n most

abbrev pub is_tick : ℕ → Bool
is_tick tick = within 1000 tick

abbrev pub is_price : ℕ → Bool
is_price price = within 10000000 price
