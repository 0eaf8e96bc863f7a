use Rattle.std.proofs.Common.{◌≡◌, suc, sym, ap, ◌∙◌, subst, arith}
use Rattle.book.specs.Ranks.{ranked, at_place, StandsAt}
use Rattle.book.proofs.Listing.{rising_apart}
use Rattle.book.proofs.Places.{stands_at}
use Rattle.table.specs.Aheads.{first_at}
use Rattle.table.specs.Tables.{orders_of, aheads_in, table_book}
use Rattle.table.proofs.Counted.{rank_first}
use Rattle.table.proofs.table_books.TableOrderBook.rank.Goals as goal

pub returns : goal.returns
returns c =
    let b = c.args.self.now in
    let os = orders_of b.rows.run.items in
    let s = c.args.side in
    let j = c.in_ok-checked_sub.field-0 in
    let k : suc j ≡ c.args.k = let held = c.in_ok-checked_sub.ensures in omega (arith, held.0, held.1) in
    let value = c.order_behind.ensures ∙ ap (λ l. first_at s j (orders_of l) (aheads_in l)) c.deref.ensures.value ∙ ap (first_at s j os) b.rows.counts ∙ rank_first s os (rising_apart 0 os b.intake.last b.rises) j ∙ ap (at_place (ranked s os)) k in
    let m = table_book b.intake.places b.intake.last b.rows.run.items in
    record { value = value; place = subst (StandsAt m s c.args.k) (sym value) (stands_at m s c.args.k b.rises) }
