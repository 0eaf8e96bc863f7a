use Rattle.std.proofs.Common.{length, get_or, sym, ap, ◌∙◌, arith}
use lib.ListN.{length-map}
use Rattle.book.specs.Meaning.{order_of, meets}
use Rattle.ladder.specs.Ladders.{orders_of}
use Rattle.ladder.proofs.Queueing.{summed_more, summed_stop, summed_all}
use Rattle.ladder.proofs.queues.Queue.quantity.Goals as goal

pub returns-then-not-trades_at : goal.returns-then-not-trades_at
returns-then-not-trades_at g c =
    let i = c.loop-order.order-index in
    let item = c.order-item.result in
    let run = c.args.self.now.run.items in
    let is = c.order-item.is ∙ ap (λ l. get_or l i item) c.deref-order-items.ensures.value in
    let stops = ap (λ s. meets s c.args.m item.live.body.limit) (sym c.SIDE.ensures) ∙ sym c.if-not-trades_at.ensures in
    summed_stop (λ x. order_of x.live) run g.S.OneSide.SIDE c.args.m i c.loop-order.sum item (omega (arith, ap length c.deref-order-items.ensures.value)) is c.loop-order.invariant stops

pub loop-order-preserved : goal.loop-order-preserved
loop-order-preserved g c =
    let i = c.loop-order.order-index in
    let item = c.order-item.result in
    let run = c.args.self.now.run.items in
    let is = c.order-item.is ∙ ap (λ l. get_or l i item) c.deref-order-items.ensures.value in
    let trades = ap (λ s. meets s c.args.m item.live.body.limit) (sym c.SIDE.ensures) ∙ sym c.if-not-trades_at.ensures in
    summed_more (λ x. order_of x.live) run g.S.OneSide.SIDE c.args.m i c.loop-order.sum item (omega (arith, ap length c.deref-order-items.ensures.value)) is c.loop-order.invariant trades item.live.body.sized.1

pub returns : goal.returns
returns g c = summed_all g.S.OneSide.SIDE c.args.m (orders_of c.args.self.now.run.items) c.loop-order.order-index c.loop-order.sum (simp length-map (omega (arith, ap length c.deref-order-items.ensures.value))) c.loop-order.invariant
