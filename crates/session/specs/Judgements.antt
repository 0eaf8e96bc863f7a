-- Judging a price: first by its range, then by the tick. Assumes nothing.
use Rattle.std.specs.Prelude.{◌≡◌, ℕ, ◌*◌, ◌/◌, ◌%◌, cond, Some, None, Ok, Err, Option, Result, ◌==◌, ◌≢◌}
use Rattle.session.specs.declared.judgements.PriceRefusal.{PriceRefusal}
use Rattle.session.specs.declared.judgements.PriceRefusal.TheVariants.{PriceRange, OffTick}
use Rattle.session.specs.Ranges.{InPrice, is_price}

-- the number of each refusal
abbrev pub price_numbered : PriceRefusal → ℕ
price_numbered PriceRange = 5
price_numbered OffTick = 6

-- a price that passes is answered in ticks
unfoldable pub price_judged : ℕ → ℕ → Result ℕ PriceRefusal
price_judged tick price = cond (is_price price) (cond (price % tick == 0) (Ok (price / tick)) (Err OffTick)) (Err PriceRange)

-- in range, and a whole multiple of the tick
pub record OnTick (tick price : ℕ) : Type 0 where
  pub legal : InPrice price
  pub ticks : ℕ
  pub exact : price ≡ ticks * tick

-- what passed is in range and exactly so many ticks; what is off the tick is no multiple of it
abbrev pub Judged : ℕ → ℕ → Result ℕ PriceRefusal → Type 0
Judged tick price (Ok ticks) = InPrice price × (price ≡ ticks * tick)
Judged tick price (Err PriceRange) = InPrice price → ⊥
Judged tick price (Err OffTick) = InPrice price × ((multiples : ℕ) → price ≢ multiples * tick)

-- a judgement without its answer
abbrev pub passed : {X E : Type 0} → Result X E → Result (Unit {0}) E
passed (Ok x) = Ok tt
passed (Err why) = Err why

-- an absent price passes
abbrev pub given_judged : ℕ → Option ℕ → Result (Unit {0}) PriceRefusal
given_judged tick None = Ok tt
given_judged tick (Some price) = passed (price_judged tick price)

-- a larger judgement goes on after what passed, and ends at the first refusal
abbrev pub onward : {X Y E : Type 0} → Result X E → Result Y E → Result Y E
onward (Ok x) next = next
onward (Err why) next = Err why

-- a price judged as a part of it, by what it calls the refusals of a price
abbrev pub passed_as : {X E : Type 0} → (PriceRefusal → E) → Result X PriceRefusal → Result (Unit {0}) E
passed_as called (Ok x) = Ok tt
passed_as called (Err why) = Err (called why)
