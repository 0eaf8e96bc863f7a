-- What a source draws. Assumes nothing.
use Rattle.std.specs.Prelude.{ℕ, ◌+◌, ◌*◌, ◌/◌, ◌%◌, ◌^◌, max, cond, nat_eq}
use Rattle.book.specs.declared.orders.Side.{Side}
use Rattle.book.specs.declared.orders.Side.TheVariants.{Buy, Sell}

-- the state that follows another, in 64 bits
abbrev pub state_after : ℕ → ℕ
state_after state = (state * 6364136223846793005 + 1442695040888963407) % 2 ^ 64

-- the number below a bound that is drawn with a state, by its high bits; 0 below 0
abbrev pub number_drawn : ℕ → ℕ → ℕ
number_drawn bound state = state / 2 ^ 33 % max bound 1

-- the side that is drawn with a state
abbrev pub side_drawn : ℕ → Side
side_drawn state = cond (nat_eq (number_drawn 2 state) 0) Buy Sell
