use Rattle.std.proofs.Common.{◌≡◌, ℕ, ◌<◌, List, Option, Ok, Err, ap, sym, ◌∙◌, length, subst, refl, vec_items}
use Rattle.std.proofs.lemmas.Result.{err_from_is_err_and}
use Rattle.book.specs.declared.orders.Live.{Live}
use Rattle.book.specs.Meaning.{order_of, seen}
use Rattle.book.specs.Runs.{Stands, those}
use Rattle.book.proofs.Standing.{cut_found, cut_less, cut_whole}
use Rattle.table.specs.declared.row.Row.{Row}
use Rattle.table.specs.Tables.{orders_of}
use Rattle.table.proofs.Moving.{map_removed, kept_counts}
use Rattle.table.proofs.rows.Rows.cut.Goals as goal

-- the row stands at its place in the run that is behind the loan
abbrev place : (n i : ℕ) {run now : List Row} → now ≡ run → (i < length now) × Stands (orders_of now) n i → (i < length run) × Stands (orders_of run) n i
place n i is told = subst (λ l. (i < length l) × Stands (orders_of l) n i) is told

pub returns-in_err-live-clause-answer : goal.returns-in_err-live-clause-answer
returns-in_err-live-clause-answer c =
    let told = place c.args.number c.in-Some.i c.deref.ensures.value c.in-Some.ensures in
    let p = err_from_is_err_and c.from_residual.result c.from_residual.ensures.1 in
    rw (p.1, p.2) (cut_found (λ (x : Row). order_of x.live) (vec_items c.args.self.now.run) c.args.number c.args.quantity c.in-Some.i c.index.result.now told.0 c.index.ensures told.1 (Err c.in_err-live.field-0.0) c.in_err-live.ensures)

pub invariant_of-self : goal.invariant_of-self
invariant_of-self c =
    let told = place c.args.number c.in-Some.i c.deref.ensures.value c.in-Some.ensures in
    let left = sym (ap (λ (o : Option Live). those (seen o)) c.in-Some-2.is) ∙ c.in_ok-live.ensures.1 in
    record { counts = kept_counts c.args.self.now.run.items c.args.self.now.counts c.in-Some.i c.index.result.now told.0 c.index.ensures _ c.args.quantity c.in-Some-2.live left refl }

pub returns-in-Some-2 : goal.returns-in-Some-2
returns-in-Some-2 c =
    let run = vec_items c.args.self.now.run in
    let told = place c.args.number c.in-Some.i c.deref.ensures.value c.in-Some.ensures in
    let left = sym (ap (λ (o : Option Live). those (seen o)) c.in-Some-2.is) ∙ c.in_ok-live.ensures.1 in
    record {
      answer = cut_found (λ (x : Row). order_of x.live) run c.args.number c.args.quantity c.in-Some.i c.index.result.now told.0 c.index.ensures told.1 (Ok tt) c.in_ok-live.ensures.0;
      orders = cut_less (λ (x : Row). order_of x.live) run c.args.number c.args.quantity c.in-Some.i c.index.result.now told.0 c.index.ensures told.1 (record { live = c.in-Some-2.live; ahead = c.index.result.now.ahead }) left;
      capacity = refl;
    }

pub returns-in-None-clause-answer : goal.returns-in-None-clause-answer
returns-in-None-clause-answer c =
    let told = place c.args.number c.in-Some.i c.deref.ensures.value c.in-Some.ensures in
    cut_found (λ (x : Row). order_of x.live) (vec_items c.args.self.now.run) c.args.number c.args.quantity c.in-Some.i c.index.result.now told.0 c.index.ensures told.1 (Ok tt) c.in_ok-live.ensures.0

pub returns-in-None-clause-orders : goal.returns-in-None-clause-orders
returns-in-None-clause-orders c =
    let run = vec_items c.args.self.now.run in
    let told = place c.args.number c.in-Some.i c.deref.ensures.value c.in-Some.ensures in
    let left = sym (ap (λ (o : Option Live). those (seen o)) c.in-None.is) ∙ c.in_ok-live.ensures.1 in
    c.take_out.ensures.orders ∙ sym (map_removed (λ (x : Row). order_of x.live) run c.in-Some.i) ∙ cut_whole (λ (x : Row). order_of x.live) run c.args.number c.args.quantity c.in-Some.i c.index.result.now told.0 c.index.ensures told.1 left
