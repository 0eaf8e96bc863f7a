-- The ranking of a side's orders. Assumes nothing.
use Rattle.std.specs.Prelude.{◌≡◌, ℕ, zero, suc, ◌+◌, ◌<◌, Bool, cond, ◌&&◌, ◌||◌, ◌⊎◌, List, [], ◌∷◌, length, None, Some, Option, ◌==◌, nat_lt}
use Rattle.std.specs.List.{slice_get}
use Rattle.ranking.specs.Runs.{sorted}
use Rattle.book.specs.declared.orders.Side.{Side}
use Rattle.book.specs.declared.orders.Side.TheVariants.{Buy, Sell}
use Rattle.book.specs.Meaning.{Order, Book, is_side, found}

-- a better limit: higher for a buy, lower for a sell
abbrev pub better : Side → ℕ → ℕ → Bool
better Buy a b = nat_lt b a
better Sell a b = nat_lt a b

-- an order goes before another if its limit is better, or equal with a lower number
abbrev pub before : Side → Order → Order → Bool
before s x y = better s x.limit y.limit || (x.limit == y.limit && nat_lt x.number y.number)

-- by number alone
abbrev pub earlier : Order → Order → Bool
earlier x y = nat_lt x.number y.number

-- the orders of a side
unfoldable pub of_side : Side → List Order → List Order
of_side s [] = []
of_side s (o ∷ os) = let others = of_side s os in cond (is_side s o.side) (o ∷ others) others

-- and these in rank
abbrev pub ranked : Side → List Order → List Order
ranked s os = sorted (before s) (of_side s os)

-- the item at a place that is counted from 1; none at 0 or past the last
abbrev pub at_place : {X : Type 0} → List X → ℕ → Option X
at_place xs zero = None
at_place xs (suc k) = slice_get xs k

abbrev pub rank_of : Book → Side → ℕ → Option Order
rank_of m s k = at_place (ranked s m.orders) k

-- x is of y's side and goes before it
abbrev pub ahead : Order → Order → Bool
ahead x y = is_side y.side x.side && before y.side x y

-- how many of the orders are, and do
unfoldable pub counted : List Order → Order → ℕ
counted [] y = 0
counted (x ∷ xs) y = cond (ahead x y) 1 0 + counted xs y

-- The order at place k of a side is live, of the side, and k - 1 orders of the side go before it; where there is none, k is 0 or past the
-- side's last.
abbrev pub StandsAt : Book → Side → ℕ → Option Order → Type 0
StandsAt m s k None = (k ≡ 0) ⊎ (length (of_side s m.orders) < k)
StandsAt m s k (Some o) = (found m o.number ≡ Some o) × (o.side ≡ s) × (counted m.orders o + 1 ≡ k)
