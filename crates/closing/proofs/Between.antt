-- A mean of prices rounds to a price again: the nearest multiple of the tick lies between any two multiples that the mean lies between. Assumes nothing.
use Rattle.std.proofs.Common.{◌≡◌, ℕ, ◌+◌, ◌*◌, ◌/◌, ◌<◌, ◌≤◌, sym, ap, ⊎_elim, mul-le-mul_right, add-mul, mul-pos, le-div_iff_mul-le, div-mul-le_self, arith}
use Rattle.std.proofs.lemmas.Bool.{cases_lt}
use Rattle.session.specs.Rounding.{Nearest, nearest}
use Rattle.session.proofs.Nearness.{nearness}
use Rattle.session.specs.Judgements.{OnTick}

pub near : (tick sum weight : ℕ) → 1 ≤ tick → 0 < weight → Nearest tick sum weight (nearest tick sum weight)
near tick sum weight some weighed = nearness tick sum weight (λ none. omega (arith, none, mul-pos {m = tick} {n = weight} some weighed))

module _ (tick sum weight price : ℕ) (some : 1 ≤ tick) (weighed : 0 < weight) (near : Nearest tick sum weight price) where
  -- one multiple more is a tick more, weighed
  step : (less more : ℕ) → less < more → less * tick * weight + tick * weight ≤ more * tick * weight
  step less more h =
      let on = mul-le-mul_right {m = less * tick + tick} {n = more * tick} weight (omega (arith, add-mul less 1 tick, mul-le-mul_right {m = less + 1} {n = more} tick (omega arith))) in
      omega (arith, on, add-mul (less * tick) tick weight)

  is : near.multiples * tick * weight ≡ price * weight
  is = sym (ap (λ p. p * weight) near.multiple)

  pub not_above : (ticks : ℕ) → sum ≤ ticks * tick * weight → price ≤ ticks * tick
  not_above ticks high =
      ⊎_elim (λ less. absurd (omega (arith, step ticks near.multiples less, is, high, near.below, mul-pos {m = tick} {n = weight} some weighed)))
      (λ more. omega (arith, near.multiple, mul-le-mul_right {m = near.multiples} {n = ticks} tick more))
      (cases_lt ticks near.multiples)

  pub not_below : (ticks : ℕ) → ticks * tick * weight ≤ sum → ticks * tick ≤ price
  not_below ticks low =
      ⊎_elim (λ less. absurd (omega (arith, step near.multiples ticks less, is, low, near.above, mul-pos {m = tick} {n = weight} some weighed)))
      (λ more. omega (arith, near.multiple, mul-le-mul_right {m = ticks} {n = near.multiples} tick more))
      (cases_lt near.multiples ticks)

-- the most ticks of a price
abbrev pub top : ℕ → ℕ
top tick = 10000000 / tick

-- a price that passed is at least one tick, and at most the highest multiple
pub in_bounds : (tick price : ℕ) → 1 ≤ tick → OnTick tick price → (1 * tick ≤ price) × (price ≤ top tick * tick)
in_bounds tick price some on =
    let low : 1 ≤ on.ticks = ⊎_elim (λ none. absurd (omega (arith, on.legal.0, on.exact, mul-le-mul_right {m = on.ticks} {n = 0} tick (omega arith)))) (λ h. h) (cases_lt on.ticks 1) in
    let high : on.ticks ≤ top tick = (le-div_iff_mul-le {k = tick} {x = on.ticks} {y = 10000000} some).1 (omega (arith, on.exact, on.legal.1)) in
    (omega (arith, on.exact, mul-le-mul_right {m = 1} {n = on.ticks} tick low), omega (arith, on.exact, mul-le-mul_right {m = on.ticks} {n = top tick} tick high))

-- the mean of prices that passed rounds to such a price
pub mean_on_tick : (tick sum weight price : ℕ) → 1 ≤ tick → 0 < weight → Nearest tick sum weight price → 1 * tick * weight ≤ sum → sum ≤ top tick * tick * weight → OnTick tick price
mean_on_tick tick sum weight price some weighed near low high =
    record {
      legal = (omega (arith, some, not_below tick sum weight price some weighed near 1 low), omega (arith, div-mul-le_self 10000000 tick, not_above tick sum weight price some weighed near (top tick) high));
      ticks = near.multiples;
      exact = near.multiple;
    }
