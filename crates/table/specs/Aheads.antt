-- What a table keeps beside each order: how many of its side go before it. Assumes nothing.
use Rattle.std.specs.Prelude.{ℕ, ◌+◌, ◌-◌, min, cond, ◌&&◌, List, [], ◌∷◌, map, Some, None, Option, ◌==◌}
use Rattle.book.specs.declared.orders.Side.{Side}
use Rattle.book.specs.Meaning.{Order, order_of, is_side}
use Rattle.book.specs.Ranks.{ahead, counted}
use Rattle.table.specs.declared.row.Row.{Row}

-- how many orders go before each of the orders
abbrev pub aheads_of : List Order → List ℕ
aheads_of os = map (counted os) os

-- one more, if a word holds it
abbrev pub raised : ℕ → ℕ
raised h = min (h + 1) 18446744073709551615

-- and one less
abbrev pub lowered : ℕ → ℕ
lowered h = h - 1

-- a row with its count moved, if o goes before its order
abbrev pub shifted : (ℕ → ℕ) → Order → Row → Row
shifted moved o x = record { live = x.live; ahead = cond (ahead o (order_of x.live)) (moved x.ahead) x.ahead }

-- the first order of a side with a count
unfoldable pub first_at : Side → ℕ → List Order → List ℕ → Option Order
first_at s a [] hs = None
first_at s a (o ∷ os) [] = None
first_at s a (o ∷ os) (h ∷ hs) = let others = first_at s a os hs in cond (is_side s o.side && h == a) (Some o) others
