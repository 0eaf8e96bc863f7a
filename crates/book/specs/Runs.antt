-- What is asked of one run of orders. Assumes nothing.
use Rattle.std.specs.Prelude.{◌≡◌, ℕ, ◌+◌, Bool, true, ◌&&◌, List, [], ◌∷◌, ◌++◌, take, drop, Some, None, Ok, Err, Option, Result}
use Rattle.std.specs.Option.{option_map}
use Rattle.book.specs.declared.orders.Side.{Side}
use Rattle.book.specs.declared.refusals.BookRefusal.{BookRefusal}
use Rattle.book.specs.Meaning.{Order, is_side, find_in, cut_judged}

-- the first order of the number stands at place i, counted from 0
pub record Stands (os : List Order) (n i : ℕ) : Type 0 where
  pub order : Order
  pub split : os ≡ take i os ++ order ∷ drop (i + 1) os
  pub number : order.number ≡ n
  pub first : find_in (take i os) n ≡ None

-- the answer of a cut, or none if the run has no order of the number
abbrev pub run_cut : List Order → ℕ → ℕ → Option (Result (Unit {0}) BookRefusal)
run_cut os n q = option_map (λ o. cut_judged (Some o) q) (find_in os n)

-- an accepted cut changes the run
abbrev pub run_after : Option (Result (Unit {0}) BookRefusal) → List Order → List Order → List Order
run_after None new old = old
run_after (Some (Ok _)) new old = new
run_after (Some (Err why)) new old = old

-- every order is of the side
unfoldable pub all_of : Side → List Order → Bool
all_of s [] = true
all_of s (o ∷ os) = is_side s o.side && all_of s os

-- the order that may be there, as a list
abbrev pub those : Option Order → List Order
those None = []
those (Some o) = o ∷ []
