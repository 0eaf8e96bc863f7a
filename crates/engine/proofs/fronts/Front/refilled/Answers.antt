use Rattle.std.proofs.Common.{sym, arith}
use Rattle.book.specs.Meaning.{order_of}
use Rattle.engine.proofs.Fronting.{rank_small, refill_open, refill_none, refill_some}
use Rattle.engine.proofs.fronts.Front.refilled.Goals as goal

pub returns-then-self-gt-NOTHING : goal.returns-then-self-gt-NOTHING
returns-then-self-gt-NOTHING g c = refill_open _ _ _ c.requires c.then-self-gt-NOTHING.either

pub overflow_add-self : goal.overflow_add-self
overflow_add-self g c = omega (arith, rank_small _ _ _ (g.B.OrderBook.sound c.args.book.now) c.requires)

pub overflow_add-result : goal.overflow_add-result
overflow_add-result g c = omega (arith, rank_small _ _ _ (g.B.OrderBook.sound c.args.book.now) c.requires)

pub returns-in-Some : goal.returns-in-Some
returns-in-Some g c =
    refill_some _ _ c.args.self (order_of c.in-Some.order) _ (omega arith) c.if-self-eq-NOTHING.false (sym c.in-Some.ensures.value) (omega (arith, c.in-Some.order.body.sized)) (omega arith)

pub returns-in-None : goal.returns-in-None
returns-in-None g c = refill_none _ _ c.args.self c.requires (omega arith) (sym c.in-None.ensures.value)
