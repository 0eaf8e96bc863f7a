use Rattle.std.proofs.Common.{refl, ap, ◌∙◌}
use Rattle.std.proofs.lemmas.List.{with_items_is}
use Rattle.ranking.specs.Runs.{placed, in_rank}
use Rattle.ranking.proofs.Placing.{rank_placed}
use Rattle.book.specs.Meaning.{order_of}
use Rattle.book.specs.Ranks.{before}
use Rattle.book.specs.Runs.{all_of}
use Rattle.book.proofs.Turns.{irreflexive, transitive}
use Rattle.ladder.specs.Ladders.{orders_of}
use Rattle.ladder.proofs.Keeping.{map_placed, all_placed}
use Rattle.ladder.proofs.queues.Queue.push.Goals as goal

pub returns-clause-orders : goal.returns-clause-orders
returns-clause-orders g c =
    let b = c.args.self.now in
    let side = g.S.OneSide.SIDE in
    let filled = with_items_is c.push_reserved.new.self c.settle_last.new.run (c.settle_last.auto.run ∙ c.deref_mut.ensures.len) in
    let settled = c.settle_last.ensures.placed b.run.items c.new.result (c.deref_mut.ensures.value ∙ c.push_reserved.ensures.items) in
    let orders = ap orders_of (filled ∙ settled) ∙ map_placed _ (before side) (λ x. order_of x.live) (λ x y. refl) c.new.result b.run.items ∙ ap (λ l. placed (before side) (order_of l) (orders_of b.run.items)) c.new.ensures in
    orders

pub invariant_of-self : goal.invariant_of-self
invariant_of-self g c =
    let b = c.args.self.now in
    let side = g.S.OneSide.SIDE in
    let filled = with_items_is c.push_reserved.new.self c.settle_last.new.run (c.settle_last.auto.run ∙ c.deref_mut.ensures.len) in
    let settled = c.settle_last.ensures.placed b.run.items c.new.result (c.deref_mut.ensures.value ∙ c.push_reserved.ensures.items) in
    let orders = ap orders_of (filled ∙ settled) ∙ map_placed _ (before side) (λ x. order_of x.live) (λ x y. refl) c.new.result b.run.items ∙ ap (λ l. placed (before side) (order_of l) (orders_of b.run.items)) c.new.ensures in
    record {
      ranked = ap (in_rank (before side)) orders ∙ rank_placed (before side) (irreflexive side) (transitive side) (order_of c.args.live) (orders_of b.run.items) b.ranked;
      sided = ap (all_of side) orders ∙ all_placed side (order_of c.args.live) (orders_of b.run.items) c.requires.side b.sided;
    }
