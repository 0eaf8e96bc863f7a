-- The best order of each side, and what trades between the two. Assumes nothing.
use Rattle.std.specs.Prelude.{ℕ, min, cond, Some, None, Option, nat_le}
use Rattle.book.specs.declared.orders.Side.{Side}
use Rattle.book.specs.Meaning.{Order, Book}
use Rattle.book.specs.Ranks.{rank_of}

-- the order at the first place of a side
abbrev pub best_of : Book → Side → Option Order
best_of m s = rank_of m s 1

-- a buy and a sell trade if the buy's limit is at least the sell's: the smaller quantity
abbrev pub between : Option Order → Option Order → ℕ
between None sell = 0
between (Some buy) None = 0
between (Some buy) (Some sell) = cond (nat_le sell.limit buy.limit) (min buy.quantity sell.quantity) 0
