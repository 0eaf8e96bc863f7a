use Rattle.std.proofs.Common.{sym, ap, ◌∙◌, subst}
use Rattle.book.specs.Ranks.{ranked, at_place, StandsAt}
use Rattle.book.proofs.Places.{stands_at}
use Rattle.ladder.specs.Ladders.{orders_of, merged, ladder_book}
use Rattle.ladder.proofs.Merging.{merged_buys, merged_sells}
use Rattle.ladder.proofs.ladder_books.LadderOrderBook.rank.Goals as goal

pub returns-in-Buy : goal.returns-in-Buy
returns-in-Buy c =
    let b = c.args.self.now in
    let buys = orders_of b.buys.run.items in
    let sells = orders_of b.sells.run.items in
    let k = c.args.k in
    let m = ladder_book b.intake.places b.intake.last b.buys.run.items b.sells.run.items in
    let value = c.order_at.ensures ∙ ap (λ l. at_place l k) (sym (merged_buys buys sells b.intake.last b.rises b.buys.sided b.sells.sided b.buys.ranked)) ∙ ap (λ s. at_place (ranked s (merged buys sells)) k) (sym c.in-Buy.is) in
    record { value = value; place = subst (StandsAt m c.args.side k) (sym value) (stands_at m c.args.side k b.rises) }

pub returns-in-Sell : goal.returns-in-Sell
returns-in-Sell c =
    let b = c.args.self.now in
    let buys = orders_of b.buys.run.items in
    let sells = orders_of b.sells.run.items in
    let k = c.args.k in
    let m = ladder_book b.intake.places b.intake.last b.buys.run.items b.sells.run.items in
    let value = c.order_at-in-Sell.ensures ∙ ap (λ l. at_place l k) (sym (merged_sells buys sells b.intake.last b.rises b.buys.sided b.sells.sided b.sells.ranked)) ∙ ap (λ s. at_place (ranked s (merged buys sells)) k) (sym c.in-Sell.is) in
    record { value = value; place = subst (StandsAt m c.args.side k) (sym value) (stands_at m c.args.side k b.rises) }
