-- Orders that hold the trades cut from them; no user of the auction needs it. Assumes nothing.
use Rattle.std.specs.Prelude.{◌≡◌, ℕ, ◌<◌, ◌≤◌, List, [], ◌∷◌, Some}
use Rattle.note.specs.declared.trades.Trade.{Trade}
use Rattle.book.specs.declared.orders.Side.{Side}
use Rattle.book.specs.declared.orders.Side.TheVariants.{Buy, Sell}
use Rattle.book.specs.Meaning.{Order, find_in}
use Rattle.rules.specs.Rivals.{Each}
use Rattle.rules.specs.Trades.{settle}

-- the order n is live, on the side s, and holds q
pub record Holds (s : Side) (os : List Order) (n q : ℕ) : Type 0 where
  pub order : Order
  pub found : find_in os n ≡ Some order
  pub side : order.side ≡ s
  pub enough : q ≤ order.quantity

-- each trade in turn is of a buy and a sell that hold it
abbrev pub Fits : List Order → List Trade → Type 0
Fits os [] = Unit {0}
Fits os (t ∷ ts) = Holds Buy os t.buy t.quantity × Holds Sell os t.sell t.quantity × Fits (settle os t) ts

-- and none is of 0
abbrev pub Cuttable : List Order → List Trade → Type 0
Cuttable os ts = Fits os ts × Each (λ t. 0 < t.quantity) ts
