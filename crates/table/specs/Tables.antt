-- What an arrival table means. Assumes nothing.
use Rattle.std.specs.Prelude.{ℕ, List, map}
use Rattle.book.specs.Meaning.{Order, Book, order_of}
use Rattle.table.specs.declared.row.Row.{Row}

abbrev pub orders_of : List Row → List Order
orders_of rows = map (λ x. order_of x.live) rows

abbrev pub aheads_in : List Row → List ℕ
aheads_in rows = map (λ x. x.ahead) rows

abbrev pub table_book : ℕ → ℕ → List Row → Book
table_book places last rows = record { places = places; last = last; orders = orders_of rows }
