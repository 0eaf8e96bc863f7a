use Rattle.std.proofs.Common.{rules, ap, ◌∙◌, map, arith}
use Rattle.std.proofs.lemmas.List.{with_items_is}
use Rattle.book.specs.Meaning.{order_of}
use Rattle.table.specs.Aheads.{lowered, shifted}
use Rattle.table.proofs.Moving.{left_orders, left_counts}
use Rattle.table.proofs.rows.Rows.take_out.Goals as goal

pub invariant_of-self : goal.invariant_of-self
invariant_of-self c =
    let b = c.args.self.now in
    let row = c.remove-row.result in
    let filled = with_items_is c.remove-row.new.self c.shift_behind.new.rows (c.shift_behind.auto.rows ∙ c.deref_mut.ensures.len) in
    let moved = c.shift_behind.ensures lowered (λ x y e. search (rules, e)) ∙ ap (map (shifted lowered (order_of row.live))) (c.deref_mut.ensures.value ∙ c.remove-row.ensures.items) in
    record { counts = left_counts b.run.items b.counts c.args.i row (omega (arith, c.requires, b.run.ok.0)) c.remove-row.ensures.value _ (filled ∙ moved) }

pub returns-clause-orders : goal.returns-clause-orders
returns-clause-orders c =
    let b = c.args.self.now in
    let row = c.remove-row.result in
    let filled = with_items_is c.remove-row.new.self c.shift_behind.new.rows (c.shift_behind.auto.rows ∙ c.deref_mut.ensures.len) in
    let moved = c.shift_behind.ensures lowered (λ x y e. search (rules, e)) ∙ ap (map (shifted lowered (order_of row.live))) (c.deref_mut.ensures.value ∙ c.remove-row.ensures.items) in
    left_orders b.run.items b.counts c.args.i row (omega (arith, c.requires, b.run.ok.0)) c.remove-row.ensures.value _ (filled ∙ moved)
