use Rattle.std.proofs.Common.{get_or, set, sym, ap, ◌∙◌, arith}
use Rattle.std.proofs.lemmas.List.Edits.{map_over_more}
use Rattle.book.specs.Meaning.{order_of}
use Rattle.book.specs.Ranks.{ahead}
use Rattle.table.specs.Aheads.{shifted}
use Rattle.table.proofs.Moving.{moves, stays}
use Rattle.table.proofs.counts.shift_behind.Goals.{then-goes_ahead, else-goes_ahead}
use Rattle.table.proofs.counts.shift_behind.Goals as goal

pub loop-row-preserved : goal.loop-row-preserved
loop-row-preserved g c = λ f is.
    let o = order_of c.args.live.now in
    let i = c.loop-row.row-index in
    let rows = c.loop-row.rows in
    let x = get_or rows i c.row-item.result in
    let more = map_over_more (shifted f o) c.args.rows.now rows i x (omega arith) (c.loop-row.invariant f is) (ap (get_or rows i) c.row-item.is) in
    elim c.if-goes_ahead.branch [
      | then-goes_ahead w ↦ w.rows-is ∙ ap (set rows i) (moves f o x (sym {b = ahead o (order_of x.live)} w.if-goes_ahead.ensures) w.moved-row.result (is x.ahead w.moved-row.result w.moved-row.ensures)) ∙ more
      | else-goes_ahead w ↦ w.rows-is ∙ ap (set rows i) (stays f o x (sym {b = ahead o (order_of x.live)} w.if-goes_ahead.ensures)) ∙ more
    ]
