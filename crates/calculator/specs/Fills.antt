-- A book filled with plain orders. Assumes nothing.
use Rattle.std.specs.Prelude.{cond, List, [], ◌∷◌}
use Rattle.book.specs.Meaning.{Book, enter_answer, with_order, unless_refused}
use Rattle.book.specs.Ranges.{in_range}
use Rattle.calculator.specs.declared.plain.PlainOrder.{PlainOrder}

-- the order gets the next number; one that is out of range, or that the book refuses, is left out
abbrev pub with_plain : Book → PlainOrder → Book
with_plain m o =
    cond (in_range o.limit o.quantity)
    (unless_refused (enter_answer m) (with_order m o.side o.limit o.quantity) m)
    m

-- the orders in turn
unfoldable pub filled : Book → List PlainOrder → Book
filled m [] = m
filled m (o ∷ os) = filled (with_plain m o) os
