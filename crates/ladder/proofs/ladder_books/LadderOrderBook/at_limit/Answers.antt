use Rattle.std.proofs.Common.{sym, ◌∙◌}
use Rattle.ladder.specs.Ladders.{orders_of}
use Rattle.ladder.proofs.Merging.{merged_bought, merged_sold}
use Rattle.ladder.proofs.ladder_books.LadderOrderBook.at_limit.Goals as goal

pub returns : goal.returns
returns c =
    let b = c.args.self.now in
    let buys = orders_of b.buys.run.items in
    let sells = orders_of b.sells.run.items in
    let m = c.args.m in
    record {
      bought = c.quantity.ensures ∙ sym (merged_bought buys sells b.intake.last b.rises b.buys.sided b.sells.sided m);
      sold = c.quantity-2.ensures ∙ sym (merged_sold buys sells b.intake.last b.rises b.buys.sided b.sells.sided m);
    }
