-- How a volume is laid over each side in rank, the trades that the two sides then make, and what the trades leave. Assumes nothing.
use Rattle.std.specs.Prelude.{ℕ, zero, suc, ◌+◌, ◌-◌, min, cond, List, [], ◌∷◌, length, ◌==◌}
use Rattle.note.specs.declared.trades.Trade.{Trade}
use Rattle.book.specs.declared.orders.Side.{Side}
use Rattle.book.specs.declared.orders.Side.TheVariants.{Buy, Sell}
use Rattle.book.specs.Meaning.{Order, is_side, cut_in}
use Rattle.book.specs.Ranks.{ranked}

-- what an order is still to trade
pub record Fill : Type 0 where
  pub number : ℕ
  pub quantity : ℕ

abbrev pub fill : ℕ → ℕ → Fill
fill n q = record { number = n; quantity = q }

-- a fill of q for the order n, before the others; one of 0 is not listed
abbrev pub listed : ℕ → ℕ → List Fill → List Fill
listed n q fs = cond (q == 0) fs (fill n q ∷ fs)

-- the volume v laid over orders in rank: each has the smaller of what it holds and what is left
unfoldable pub fills : ℕ → List Order → List Fill
fills v [] = []
fills v (o ∷ os) = listed o.number (min v o.quantity) (fills (v - o.quantity) os)

-- the trade of two fills: the smaller of the two
abbrev pub front : Fill → Fill → Trade
front b s = record { buy = b.number; sell = s.number; quantity = min b.quantity s.quantity }

-- the first fill of each side trades, then what is left of the two and the others, at most k times
unfoldable pub pairs_by : ℕ → List Fill → List Fill → List Trade
pairs_by zero bs ss = []
pairs_by (suc k) [] ss = []
pairs_by (suc k) (b ∷ bs) [] = []
pairs_by (suc k) (b ∷ bs) (s ∷ ss) =
    front b s ∷ pairs_by k (listed b.number (b.quantity - (front b s).quantity) bs) (listed s.number (s.quantity - (front b s).quantity) ss)

-- each trade ends a fill, so that there are fewer trades than fills
abbrev pub pairs : List Fill → List Fill → List Trade
pairs bs ss = pairs_by (length bs + length ss) bs ss

-- the trades of the volume v over live orders
abbrev pub trades_at : ℕ → List Order → List Trade
trades_at v os = pairs (fills v (ranked Buy os)) (fills v (ranked Sell os))

-- a trade is cut from both of its orders
abbrev pub settle : List Order → Trade → List Order
settle os t = cut_in (cut_in os t.buy t.quantity) t.sell t.quantity

unfoldable pub after_trades : List Order → List Trade → List Order
after_trades os [] = os
after_trades os (t ∷ ts) = after_trades (settle os t) ts

-- a quantity on the side t, as far as it counts for the side s
abbrev pub counted : Side → Side → ℕ → ℕ
counted s t q = cond (is_side s t) q 0

-- the total of the quantities of a side's orders
unfoldable pub resting : Side → List Order → ℕ
resting s [] = 0
resting s (o ∷ os) = counted s o.side o.quantity + resting s os
