-- What a ladder means: the orders of its two runs, by number. Assumes nothing.
use Rattle.std.specs.Prelude.{◌≡◌, ℕ, cond, ◌⊎◌, List, ◌++◌, map, is_ok, Result}
use Rattle.ranking.specs.Runs.{placed, sorted}
use Rattle.book.specs.declared.orders.Side.{Side}
use Rattle.book.specs.declared.refusals.BookRefusal.{BookRefusal}
use Rattle.book.specs.declared.sides.Buys.{Buys}
use Rattle.book.specs.declared.sides.Sells.{Sells}
use Rattle.book.specs.declared.sides.SideOrder.{SideOrder}
use Rattle.book.specs.Meaning.{Order, Book, order_of, is_side, find_in, cut_in, cut_judged}
use Rattle.book.specs.Ranks.{before, earlier}

abbrev pub orders_of : {S : Type 0} → List (SideOrder S) → List Order
orders_of run = map (λ x. order_of x.live) run

-- the orders of both runs, by number
abbrev pub merged : List Order → List Order → List Order
merged buys sells = sorted earlier (buys ++ sells)

abbrev pub ladder_book : ℕ → ℕ → List (SideOrder Buys) → List (SideOrder Sells) → Book
ladder_book places last buys sells = record { places = places; last = last; orders = merged (orders_of buys) (orders_of sells) }

-- an order among those of a side, in rank, if it is of that side
abbrev pub joined : Side → Order → List Order → List Order
joined s o os = cond (is_side s o.side) (placed (before s) o os) os

-- both runs after a cut: that of the first in which the number stands
pub record CutBoth (buys sells buys' sells' : List Order) (n q : ℕ) (r : Result (Unit {0}) BookRefusal) : Type 0 where
  pub answer : r ≡ cut_judged (find_in (buys ++ sells) n) q
  pub whole : buys' ++ sells' ≡ cond (is_ok r) (cut_in (buys ++ sells) n q) (buys ++ sells)
  pub first : (buys' ≡ buys) ⊎ (buys' ≡ cut_in buys n q)
  pub second : (sells' ≡ sells) ⊎ (sells' ≡ cut_in sells n q)
