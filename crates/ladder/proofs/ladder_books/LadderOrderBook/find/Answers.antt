use Rattle.std.proofs.Common.{sym, ap, ◌∙◌}
use Rattle.book.specs.Meaning.{order_of, find_in}
use Rattle.book.proofs.Standing.{find_past}
use Rattle.ladder.specs.Ladders.{orders_of}
use Rattle.ladder.proofs.Keeping.{found_first}
use Rattle.ladder.proofs.Merging.{merged_find}
use Rattle.ladder.proofs.ladder_books.LadderOrderBook.find.Goals as goal

pub returns-in-Some : goal.returns-in-Some
returns-in-Some c =
    let b = c.args.self.now in
    let buys = orders_of b.buys.run.items in
    let sells = orders_of b.sells.run.items in
    let n = c.args.number in
    let bought = sym (c.in-Some.ensures ∙ ap (λ l. find_in (orders_of l) n) c.deref.ensures.value) in
    sym (merged_find buys sells b.intake.last b.rises n ∙ found_first buys sells n (order_of c.in-Some.live) bought)

pub returns-in-None : goal.returns-in-None
returns-in-None c =
    let b = c.args.self.now in
    let buys = orders_of b.buys.run.items in
    let sells = orders_of b.sells.run.items in
    let n = c.args.number in
    let unbought = sym (c.in-None.ensures ∙ ap (λ l. find_in (orders_of l) n) c.deref.ensures.value) in
    c.find_in-in-None.ensures ∙ ap (λ l. find_in (orders_of l) n) c.deref-in-None.ensures.value ∙ sym (merged_find buys sells b.intake.last b.rises n ∙ find_past buys sells n unbought)
