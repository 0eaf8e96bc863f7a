-- What the fronts of the two sides are still to trade; no caller needs it. Assumes nothing.
use Rattle.std.specs.Prelude.{◌≡◌, ℕ, ◌≤◌, List, [], ◌∷◌, length, drop, Option, MatchOption}
use Rattle.note.specs.declared.trades.Trade.{Trade}
use Rattle.book.specs.declared.orders.Side.{Side}
use Rattle.book.specs.declared.orders.Side.TheVariants.{Buy, Sell}
use Rattle.book.specs.Meaning.{Order}
use Rattle.book.specs.Ranks.{ranked}
use Rattle.rules.specs.Trades.{Fill, fills, listed, pairs}
use Rattle.engine.specs.declared.fronts.Front.{Front}
use Rattle.engine.specs.declared.fronts.Fronts.{Fronts}

-- what is open at the front, and then what is left, laid over the orders behind it
abbrev pub fills_from : Side → List Order → Front → List Fill
fills_from s os c = listed c.number c.«open» (fills c.left (drop c.rank (ranked s os)))

abbrev pub At : Side → List Order → Front → Type 0
At s os c = c.rank ≤ length (ranked s os)

-- the front r stands for the same fills as c, and has the first of them open
pub record Refilled (s : Side) (os : List Order) (c r : Front) : Type 0 where
  pub same : fills_from s os c ≡ fills_from s os r
  pub placed : At s os r
  pub ended : r.«open» ≡ 0 → fills_from s os r ≡ []

abbrev pub trades_left : List Order → Fronts → List Trade
trades_left os p = pairs (fills_from Buy os p.buys) (fills_from Sell os p.sells)

abbrev pub Placed : List Order → Fronts → Type 0
Placed os p = At Buy os p.buys × At Sell os p.sells

-- the next trade, after which the fronts are p'; or none is left
pub record Next (os : List Order) (p : Fronts) (r : Option Trade) (p' : Fronts) : Type 0 where
  pub placed : Placed os p'
  pub trade : MatchOption r (trades_left os p ≡ []) (λ t. trades_left os p ≡ t ∷ trades_left os p')

-- nothing is traded yet
abbrev pub starting : ℕ → Fronts
starting v = record { buys = record { rank = 0; number = 0; «open» = 0; left = v }; sells = record { rank = 0; number = 0; «open» = 0; left = v } }
