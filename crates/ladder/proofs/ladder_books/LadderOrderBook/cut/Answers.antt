use Rattle.std.proofs.Common.{◌≤◌, sym, ◌∙◌, subst}
use Rattle.book.specs.Meaning.{find_in}
use Rattle.book.proofs.Standing.{unjudged}
use Rattle.ladder.specs.Ladders.{orders_of}
use Rattle.ladder.proofs.Keeping.{cut_buy, cut_second, kept_cut, cut_went}
use Rattle.ladder.proofs.Owning.{ladder_kept, vector_fits}
use Rattle.ladder.proofs.ladder_books.LadderOrderBook.cut.Goals as goal

pub invariant_of-self : goal.invariant_of-self
invariant_of-self c =
    let b = c.args.self.now in
    let n = c.args.number in
    let q = c.args.quantity in
    let old_buys = orders_of b.buys.run.items in
    let old_sells = orders_of b.sells.run.items in
    let buys = c.cut.new.self.run in
    let told = c.in-Some.ensures in
    let both = cut_buy old_buys old_sells n q (orders_of buys.items) c.in-Some.answer told.answer told.after in
    let kept = kept_cut b.intake.places b.intake.last old_buys old_sells (ladder_kept b) (orders_of buys.items) old_sells n q c.in-Some.answer both in
    record {
      fits = vector_fits b.intake.places _ _ buys.items b.sells.run.items buys.ok.0 b.sells.run.ok.0 kept.fits;
      buy_room = subst (λ cap. b.intake.places ≤ cap) (sym told.capacity) b.buy_room;
      sell_room = b.sell_room;
      rises = kept.rises;
    }

pub returns-in-Some : goal.returns-in-Some
returns-in-Some c =
    let b = c.args.self.now in
    let n = c.args.number in
    let q = c.args.quantity in
    let old_buys = orders_of b.buys.run.items in
    let old_sells = orders_of b.sells.run.items in
    let buys = c.cut.new.self.run in
    let told = c.in-Some.ensures in
    let both = cut_buy old_buys old_sells n q (orders_of buys.items) c.in-Some.answer told.answer told.after in
    let went = cut_went b.intake.places b.intake.last old_buys old_sells (ladder_kept b) (orders_of buys.items) old_sells n q c.in-Some.answer both in
    record { answer = went.answer; after = went.after }

pub invariant_of-self-2 : goal.invariant_of-self-2
invariant_of-self-2 c =
    let b = c.args.self.now in
    let n = c.args.number in
    let q = c.args.quantity in
    let old_buys = orders_of b.buys.run.items in
    let old_sells = orders_of b.sells.run.items in
    let buys = c.cut.new.self.run in
    let sells = c.cut-2.new.self.run in
    let first = c.in_default.ensures in
    let none = unjudged (find_in old_buys n) q first.answer in
    let both = cut_second old_buys old_sells n q (orders_of buys.items) (orders_of sells.items) none first.after c.cut-2.result c.cut-2.ensures.answer c.cut-2.ensures.after in
    let kept = kept_cut b.intake.places b.intake.last old_buys old_sells (ladder_kept b) (orders_of buys.items) (orders_of sells.items) n q _ both in
    record {
      fits = vector_fits b.intake.places _ _ buys.items sells.items buys.ok.0 sells.ok.0 kept.fits;
      buy_room = subst (λ cap. b.intake.places ≤ cap) (sym first.capacity) b.buy_room;
      sell_room = subst (λ cap. b.intake.places ≤ cap) (sym c.cut-2.ensures.capacity) b.sell_room;
      rises = kept.rises;
    }

pub returns : goal.returns
returns c =
    let b = c.args.self.now in
    let n = c.args.number in
    let q = c.args.quantity in
    let old_buys = orders_of b.buys.run.items in
    let old_sells = orders_of b.sells.run.items in
    let buys = c.cut.new.self.run in
    let sells = c.cut-2.new.self.run in
    let first = c.in_default.ensures in
    let none = unjudged (find_in old_buys n) q first.answer in
    let both = cut_second old_buys old_sells n q (orders_of buys.items) (orders_of sells.items) none first.after c.cut-2.result c.cut-2.ensures.answer c.cut-2.ensures.after in
    let went = cut_went b.intake.places b.intake.last old_buys old_sells (ladder_kept b) (orders_of buys.items) (orders_of sells.items) n q _ both in
    record { answer = c.unwrap_or.ensures ∙ went.answer; after = went.after }
