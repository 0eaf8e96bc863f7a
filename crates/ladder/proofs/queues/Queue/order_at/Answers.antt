use Rattle.std.proofs.Common.{◌-◌, ◌<◌, length, get_or, Some, sym, ap, ◌∙◌, arith}
use lib.ListN.{length-map}
use Rattle.std.proofs.lemmas.List.{get_or-map}
use Rattle.book.specs.Meaning.{order_of}
use Rattle.ladder.specs.Ladders.{orders_of}
use Rattle.ladder.proofs.Queueing.{place_some}
use Rattle.ladder.proofs.queues.Queue.order_at.Goals as goal

pub returns : goal.returns
returns g c =
    let run = c.args.self.now.run.items in
    let k = c.args.k in
    let item = c.in_ok-order.order.now in
    let held = c.in_ok-checked_sub.ensures in
    let looked = c.in_ok-order.ensures.lookup in
    let inside : k - 1 < length run = omega (arith, held.1, looked.3.0, ap length c.deref.ensures.value) in
    let is = looked.1 ∙ ap (λ j. get_or c.deref.result.now j item) held.1 ∙ ap (λ l. get_or l (k - 1) item) c.deref.ensures.value in
    ap Some (ap (λ x. order_of x.live) is ∙ sym (get_or-map (λ x. order_of x.live) run (k - 1) item (order_of item.live) inside)) ∙ place_some (orders_of run) k (order_of item.live) (omega (arith, held.0)) (simp length-map (omega (arith, inside, held.0)))
