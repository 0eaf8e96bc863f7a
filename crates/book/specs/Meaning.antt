-- What a book means, and for each operation what it answers and what the book means afterwards. Assumes nothing.
use Rattle.std.specs.Prelude.{◌≡◌, ℕ, ◌+◌, ◌-◌, ◌≤◌, Bool, true, false, cond, ◌&&◌, ◌||◌, List, [], ◌∷◌, ◌++◌, length, Some, None, Ok, Err, Option, Result, ◌==◌, nat_le, nat_lt}
use Rattle.std.specs.Option.{option_map}
use Rattle.std.specs.Result.{result_unwrap_or}
use Rattle.book.specs.declared.orders.Side.{Side}
use Rattle.book.specs.declared.orders.Side.TheVariants.{Buy, Sell}
use Rattle.book.specs.declared.orders.Body.{Body}
use Rattle.book.specs.declared.orders.Live.{Live}
use Rattle.book.specs.declared.refusals.BookRefusal.{BookRefusal}
use Rattle.book.specs.declared.refusals.BookRefusal.TheVariants.{UnknownOrder, CutRange, Full, NumbersSpent}
use Rattle.book.specs.Ranges.{in_range}

-- a live order, in plain numbers
pub record Order : Type 0 where
  pub number : ℕ
  pub side : Side
  pub limit : ℕ
  pub quantity : ℕ

abbrev pub under : ℕ → Body → Order
under n body = record { number = n; side = body.side; limit = body.limit; quantity = body.quantity }

abbrev pub order_of : Live → Order
order_of live = under live.number live.body

abbrev pub seen : Option Live → Option Order
seen o = option_map order_of o

-- its places, the last number that it gave out, and its live orders by number
pub record Book : Type 0 where
  pub places : ℕ
  pub last : ℕ
  pub orders : List Order

abbrev pub fresh : ℕ → Book
fresh places = record { places = places; last = 0; orders = [] }

-- the numbers of the orders rise, from above `low` up to `high`
unfoldable pub rising : ℕ → List Order → ℕ → Bool
rising low [] high = nat_le low high
rising low (o ∷ os) high = nat_lt low o.number && rising o.number os high

-- every order's limit and quantity are in range
unfoldable pub ranged : List Order → Bool
ranged [] = true
ranged (o ∷ os) = in_range o.limit o.quantity && ranged os

-- what is so of every book
pub record Sound (m : Book) : Type 0 where
  pub few : m.places ≤ 256
  pub room : length m.orders ≤ m.places
  pub given : m.last ≤ 60000
  pub rises : rising 0 m.orders m.last ≡ true
  pub in_ranges : ranged m.orders ≡ true

-- a refused call leaves the book as it was
abbrev pub unless_refused : {T : Type 0} → Result T BookRefusal → Book → Book → Book
unless_refused (Ok x) new old = new
unless_refused (Err why) new old = old

-- Entry: refused if the live orders are as many as the places, then if the last number is 60,000.

-- by the places, the last number and how many orders are live: the number that is given out, and the last one then
abbrev pub number_answer : ℕ → ℕ → ℕ → Result ℕ BookRefusal
number_answer places last live = cond (live == places) (Err Full) (cond (last == 60000) (Err NumbersSpent) (Ok (last + 1)))

abbrev pub number_after : ℕ → ℕ → ℕ → ℕ
number_after places last live = result_unwrap_or (number_answer places last live) last

unfoldable pub enter_answer : Book → Result ℕ BookRefusal
enter_answer m = number_answer m.places m.last (length m.orders)

-- an order gets the last number plus 1 and stands at the end
abbrev pub with_order : Book → Side → ℕ → ℕ → Book
with_order m side limit quantity =
    record { places = m.places; last = m.last + 1; orders = m.orders ++ record { number = m.last + 1; side = side; limit = limit; quantity = quantity } ∷ [] }

abbrev pub entered : Book → Body → Book
entered m body = with_order m body.side body.limit body.quantity

unfoldable pub enter_after : Book → Body → Book
enter_after m body = unless_refused (enter_answer m) (entered m body) m

-- Finding: the live order of a number, or none.

unfoldable pub find_in : List Order → ℕ → Option Order
find_in [] n = None
find_in (o ∷ os) n = cond (o.number == n) (Some o) (find_in os n)

abbrev pub found : Book → ℕ → Option Order
found m n = find_in m.orders n

-- Cut: refused if no live order has the number, then if the cut is 0 or more than the order holds.

abbrev pub cut_judged : Option Order → ℕ → Result (Unit {0}) BookRefusal
cut_judged None q = Err UnknownOrder
cut_judged (Some o) q = cond (q == 0 || nat_lt o.quantity q) (Err CutRange) (Ok tt)

unfoldable pub cut_answer : Book → ℕ → ℕ → Result (Unit {0}) BookRefusal
cut_answer m n q = cut_judged (found m n) q

-- what is left of an order after a cut: at 0 it leaves
abbrev pub left_of : Order → ℕ → List Order
left_of o q = cond (o.quantity == q) [] (record { number = o.number; side = o.side; limit = o.limit; quantity = o.quantity - q } ∷ [])

unfoldable pub cut_in : List Order → ℕ → ℕ → List Order
cut_in [] n q = []
cut_in (o ∷ os) n q = let others = cut_in os n q in cond (o.number == n) (left_of o q ++ os) (o ∷ others)

abbrev pub cut : Book → ℕ → ℕ → Book
cut m n q = record { places = m.places; last = m.last; orders = cut_in m.orders n q }

unfoldable pub cut_after : Book → ℕ → ℕ → Book
cut_after m n q = unless_refused (cut_answer m n q) (cut m n q) m

-- At a limit: the quantity of a side's orders that would trade at it.

abbrev pub is_side : Side → Side → Bool
is_side Buy Buy = true
is_side Buy Sell = false
is_side Sell Buy = false
is_side Sell Sell = true

-- a buy trades at its limit and below, a sell at its limit and above
abbrev pub meets : Side → ℕ → ℕ → Bool
meets Buy m limit = nat_le m limit
meets Sell m limit = nat_le limit m

abbrev pub part_of : Side → ℕ → Order → ℕ
part_of s m o = cond (is_side s o.side && meets s m o.limit) o.quantity 0

unfoldable pub quantity_at : Side → ℕ → List Order → ℕ
quantity_at s m [] = 0
quantity_at s m (o ∷ os) = part_of s m o + quantity_at s m os

abbrev pub bought_at : Book → ℕ → ℕ
bought_at b m = quantity_at Buy m b.orders

abbrev pub sold_at : Book → ℕ → ℕ
sold_at b m = quantity_at Sell m b.orders
