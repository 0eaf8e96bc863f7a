use Rattle.std.proofs.Common.{◌≡◌, drop}
use Rattle.calculator.specs.Fills.{filled}
use Rattle.calculator.proofs.plain.fill.Given as goal

abbrev pub invariant-loop-order : goal.invariant-loop-order
invariant-loop-order g l = filled (g.B.OrderBook.meaning l.book) (drop l.order-index l.orders) ≡ filled (g.B.OrderBook.meaning l.initial.book) l.orders
