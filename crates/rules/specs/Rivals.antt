-- What fills are, a rival's or the auction's own. Assumes nothing.
use Rattle.std.specs.Prelude.{◌≡◌, ℕ, ◌+◌, ◌<◌, ◌≤◌, true, cond, ◌||◌, ◌⊎◌, List, [], ◌∷◌, ◌==◌}
use Rattle.note.specs.declared.trades.Trade.{Trade}
use Rattle.book.specs.declared.orders.Side.{Side}
use Rattle.book.specs.declared.orders.Side.TheVariants.{Buy, Sell}
use Rattle.book.specs.Meaning.{Order, meets}
use Rattle.book.specs.Ranks.{before}
use Rattle.rules.specs.Schedule.{Schedule, Admissible}

-- an order is one of the live ones
abbrev pub In : Order → List Order → Type 0
In o [] = ⊥
In o (x ∷ xs) = (o ≡ x) ⊎ In o xs

-- a live order of a side has the number, and its limit meets the price: a buy's is at least m, a sell's at most m
pub record LiveAt (s : Side) (os : List Order) (m n : ℕ) : Type 0 where
  pub order : Order
  pub live : In order os
  pub number : order.number ≡ n
  pub side : order.side ≡ s
  pub limit : meets s m order.limit ≡ true

-- something is so of each item
abbrev pub Each : {X : Type 0} → (X → Type 0) → List X → Type 0
Each P [] = Unit {0}
Each P (x ∷ xs) = P x × Each P xs

-- what the order of a number trades
unfoldable pub traded : List Trade → ℕ → ℕ
traded [] n = 0
traded (t ∷ ts) n = cond (t.buy == n || t.sell == n) t.quantity 0 + traded ts n

-- what is traded in all
unfoldable pub total : List Trade → ℕ
total [] = 0
total (t ∷ ts) = t.quantity + total ts

-- Fills at a price of m ticks: each trade between a live buy and a live sell whose limits meet it, and no order's trades above
-- its quantity.
pub record Fills (os : List Order) (m : ℕ) (ts : List Trade) : Type 0 where
  pub buys : Each (λ t. LiveAt Buy os m t.buy) ts
  pub sells : Each (λ t. LiveAt Sell os m t.sell) ts
  pub within : (o : Order) → In o os → traded ts o.number ≤ o.quantity

-- A side is filled in rank: where an order trades, each order of its side that goes before it trades all that it holds.
abbrev pub InRank : Side → List Order → List Trade → Type 0
InRank s os ts =
    (x y : Order) → In x os → In y os → x.side ≡ s → y.side ≡ s → before s x y ≡ true → 0 < traded ts y.number → traded ts x.number ≡ x.quantity

-- all fills of the orders at any admissible price total at most so much
abbrev pub NoRivalAbove : List Order → Schedule → ℕ → Type 0
NoRivalAbove os k most = (n : ℕ) (ts : List Trade) → Admissible k n → Fills os n ts → total ts ≤ most
