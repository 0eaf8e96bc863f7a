-- What each price would trade: the quantity bought and the quantity sold at it. Assumes nothing.
use Rattle.std.specs.Prelude.{◌≡◌, ℕ, ◌+◌, ◌-◌, ◌*◌, ◌<◌, ◌≤◌, min, List, ℤ, pos, ◌-ℤ◌, ◌<ℤ◌, unsigned_abs}
use Rattle.session.specs.Openings.{ceiling}
use Rattle.session.specs.Rounding.{nearest}
use Rattle.book.specs.declared.orders.Side.TheVariants.{Buy, Sell}
use Rattle.book.specs.Meaning.{Order, Book, quantity_at}

-- prices are counted in ticks, and admissible from 1 to the top
pub record Schedule : Type 0 where
  pub bought : ℕ → ℕ
  pub sold : ℕ → ℕ
  pub top : ℕ

-- of live orders
abbrev pub schedule : List Order → ℕ → Schedule
schedule os top = record { bought = λ m. quantity_at Buy m os; sold = λ m. quantity_at Sell m os; top = top }

-- of a book in a session of a tick and a scarcity price
abbrev pub offered : Book → ℕ → ℕ → Schedule
offered b tick scarcity = schedule b.orders (ceiling tick scarcity)

pub record Admissible (k : Schedule) (m : ℕ) : Type 0 where
  pub low : 1 ≤ m
  pub high : m ≤ k.top

-- what trades at a price: the smaller of what is bought and what is sold
abbrev pub volume : Schedule → ℕ → ℕ
volume k m = min (k.bought m) (k.sold m)

-- bought minus sold, with its sign
abbrev pub imbalance : Schedule → ℕ → ℤ
imbalance k m = pos (k.bought m) -ℤ pos (k.sold m)

-- the imbalance without its sign
abbrev pub size : Schedule → ℕ → ℕ
size k m = (k.bought m - k.sold m) + (k.sold m - k.bought m)

-- its sign
abbrev pub Positive : Schedule → ℕ → Type 0
Positive k m = k.sold m < k.bought m

abbrev pub Negative : Schedule → ℕ → Type 0
Negative k m = k.bought m < k.sold m

abbrev pub Zero : Schedule → ℕ → Type 0
Zero k m = k.bought m ≡ k.sold m

-- size and sign are those of the imbalance
pub record Signed (k : Schedule) (m : ℕ) : Type 0 where
  pub size_is : size k m ≡ unsigned_abs (imbalance k m)
  pub positive : (Positive k m → pos 0 <ℤ imbalance k m) × (pos 0 <ℤ imbalance k m → Positive k m)
  pub negative : (Negative k m → imbalance k m <ℤ pos 0) × (imbalance k m <ℤ pos 0 → Negative k m)
  pub zero : (Zero k m → imbalance k m ≡ pos 0) × (imbalance k m ≡ pos 0 → Zero k m)

-- the mean of two prices, to the nearest tick and half a tick upward
abbrev pub mean : ℕ → ℕ → ℕ
mean a b = nearest 1 (a + b) 2

-- which is, in money, the mean of the two prices to the nearest multiple of the tick
abbrev pub MeansInMoney : ℕ → Type 0
MeansInMoney tick = (a b : ℕ) → mean a b * tick ≡ nearest tick (a * tick + b * tick) 2

-- in a session a price of m ticks is admissible just if it is at least one tick and, in money, at most the scarcity price
pub record InMoney (tick scarcity : ℕ) (k : Schedule) (m : ℕ) : Type 0 where
  pub only : Admissible k m → (1 ≤ m) × (m * tick ≤ scarcity)
  pub all : 1 ≤ m → m * tick ≤ scarcity → Admissible k m
