use Rattle.std.proofs.Common.{min, [], length, ap, ◌∙◌, arith}
use Rattle.book.specs.Meaning.{rising}
use Rattle.book.proofs.Makes.{book_is}
use Rattle.ladder.specs.Ladders.{orders_of, merged}
use Rattle.ladder.proofs.Keeping.{kept_none, fresh_ladder}
use Rattle.ladder.proofs.ladders.Ladder.new.Goals as goal

pub invariant_of-result : goal.invariant_of-result
invariant_of-result c =
    let buys = c.in_ok-buys.buys.run in
    let sells = c.in_ok-sells.sells.run in
    let bought = c.in_ok-buys.ensures in
    let sold = c.in_ok-sells.ensures in
    record {
      fits = omega (arith, buys.ok.0, sells.ok.0, ap length bought.0, ap length sold.0);
      buy_room = bought.1;
      sell_room = sold.1;
      rises = ap (λ n. rising 0 (merged (orders_of buys.items) (orders_of sells.items)) n) c.new-intake.ensures.last ∙ ap (λ l. rising 0 (merged (orders_of l) (orders_of sells.items)) 0) bought.0 ∙ ap (λ l. rising 0 (merged [] (orders_of l)) 0) sold.0 ∙ (kept_none c.new-intake.result.places).rises;
    }

pub returns : goal.returns
returns c =
    let made = c.new-intake.ensures in
    let orders = ap (λ l. merged (orders_of l) (orders_of c.in_ok-sells.sells.run.items)) c.in_ok-buys.ensures.0 ∙ ap (λ l. merged [] (orders_of l)) c.in_ok-sells.ensures.0 in
    book_is (made.places ∙ ap (λ n. min n 256) c.min.ensures) made.last orders ∙ fresh_ladder (min (min c.args.buy_places c.args.sell_places) 256)
