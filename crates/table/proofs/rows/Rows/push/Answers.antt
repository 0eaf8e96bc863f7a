use Rattle.std.proofs.Common.{rules, ap, ◌∙◌, map, arith}
use lib.ListN.{length-map}
use Rattle.std.proofs.lemmas.List.{with_items_is}
use Rattle.book.specs.Meaning.{order_of}
use Rattle.book.specs.Ranks.{counted}
use Rattle.table.specs.Aheads.{raised, shifted}
use Rattle.table.specs.Tables.{orders_of}
use Rattle.table.proofs.Moving.{entered_orders, entered_counts}
use Rattle.table.proofs.rows.Rows.push.Goals as goal

pub invariant_of-self : goal.invariant_of-self
invariant_of-self c =
    let b = c.args.self.now in
    let filled = with_items_is b.run c.shift_behind.new.rows (c.shift_behind.auto.rows ∙ c.deref_mut.ensures.len) in
    let moved = c.shift_behind.ensures raised (λ x y e. search (rules, e)) ∙ ap (map (shifted raised (order_of c.args.live))) c.deref_mut.ensures.value in
    let ahead = c.count_ahead-ahead.ensures ∙ ap (λ l. counted (orders_of l) (order_of c.args.live)) c.deref.ensures.value in
    record { counts = entered_counts c.args.live b.run.items b.counts (simp length-map (omega (arith, c.requires.few, b.run.ok.0))) _ _ c.count_ahead-ahead.result ahead (filled ∙ moved) c.push_reserved.ensures.items }

pub returns-clause-orders : goal.returns-clause-orders
returns-clause-orders c =
    let b = c.args.self.now in
    let filled = with_items_is b.run c.shift_behind.new.rows (c.shift_behind.auto.rows ∙ c.deref_mut.ensures.len) in
    let moved = c.shift_behind.ensures raised (λ x y e. search (rules, e)) ∙ ap (map (shifted raised (order_of c.args.live))) c.deref_mut.ensures.value in
    let ahead = c.count_ahead-ahead.ensures ∙ ap (λ l. counted (orders_of l) (order_of c.args.live)) c.deref.ensures.value in
    entered_orders c.args.live b.run.items b.counts (simp length-map (omega (arith, c.requires.few, b.run.ok.0))) _ _ c.count_ahead-ahead.result ahead (filled ∙ moved) c.push_reserved.ensures.items
