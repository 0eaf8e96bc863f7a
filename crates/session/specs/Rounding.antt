-- The rounding of a mean, which is a sum over a weight, to a multiple of a unit. Assumes nothing.
use Rattle.std.specs.Prelude.{◌≡◌, ℕ, ◌+◌, ◌*◌, ◌/◌, ◌^◌, ◌<◌, ◌≤◌, cond, Some, None, Option, ◌==◌, nat_lt}

-- A price is the multiple of the unit that is nearest to the mean. The mean lies at most half a unit below the price, and less
-- than half a unit above it: from half a unit on, the next multiple is the price. Both are multiplied out by twice the weight.
pub record Nearest (unit sum weight price : ℕ) : Type 0 where
  pub multiples : ℕ
  pub multiple : price ≡ multiples * unit
  pub below : 2 * (price * weight) ≤ 2 * sum + unit * weight
  pub above : 2 * sum < 2 * (price * weight) + unit * weight

-- it is so many units
abbrev pub units : ℕ → ℕ → ℕ → ℕ
units unit sum weight = (2 * sum + unit * weight) / (2 * (unit * weight))

abbrev pub nearest : ℕ → ℕ → ℕ → ℕ
nearest unit sum weight = units unit sum weight * unit

-- what the function answers: none without a unit or a weight, or of 64 bits and more
abbrev pub rounded_answer : ℕ → ℕ → ℕ → Option ℕ
rounded_answer unit sum weight = cond (unit * weight == 0) None (cond (nat_lt (nearest unit sum weight) (2 ^ 64)) (Some (nearest unit sum weight)) None)
