use Rattle.std.proofs.Common.{◌≡◌, ◌+◌, ◌<◌, ◌≤◌, [], ◌∷◌, ◌++◌, length, sym, refl, ap, ◌∙◌, subst, arith}
use lib.ListN.{length-map}
use Rattle.std.proofs.lemmas.Result.{err_from_is_err_and}
use Rattle.book.specs.declared.orders.Side.TheVariants.{Buy, Sell}
use Rattle.book.specs.Meaning.{under, is_side, number_answer, rising}
use Rattle.book.proofs.Makes.{number_given, number_kept, number_refused, enter_refused, enter_taken, book_is}
use Rattle.ladder.specs.Ladders.{orders_of, merged, ladder_book}
use Rattle.ladder.proofs.Keeping.{joined_own, joined_other, now_entered, kept_entered}
use Rattle.ladder.proofs.Owning.{ladder_kept, ladder_length, vector_fits}
use Rattle.ladder.proofs.ladder_books.LadderOrderBook.enter.Goals as goal

pub returns-in_err-number : goal.returns-in_err-number
returns-in_err-number c =
    let b = c.args.self.now in
    let m = ladder_book b.intake.places b.intake.last b.buys.run.items b.sells.run.items in
    let why = c.in_err-number.field-0.0 in
    let told = c.in_err-number.ensures in
    let count : c.len.result + c.len-2.result ≡ length m.orders = omega (arith, c.len.ensures, c.len-2.ensures, ladder_length b) in
    let p = err_from_is_err_and c.from_residual.result c.from_residual.ensures.1 in
    let went = enter_refused m c.args.body why (told.answer ∙ ap (number_answer m.places m.last) count) in
    let now = book_is told.places (told.last ∙ number_refused m.places m.last (c.len.result + c.len-2.result) why told.answer) refl in
    record { answer = rw (p.1, p.2) went.answer; after = now ∙ went.after }

pub invariant_of-self-in-Buy : goal.invariant_of-self-in-Buy
invariant_of-self-in-Buy c =
    let b = c.args.self.now in
    let old_buys = orders_of b.buys.run.items in
    let old_sells = orders_of b.sells.run.items in
    let n = c.in_ok-number.number in
    let told = c.in_ok-number.ensures in
    let given = number_given b.intake.places b.intake.last (c.len.result + c.len-2.result) n told.answer in
    let o = under n c.args.body in
    let buys = c.push.new.self.run in
    let bought = c.push.ensures.orders ∙ joined_own Buy o old_buys (ap (is_side Buy) c.in-Buy.is) in
    let sold = joined_other Sell o old_sells (ap (is_side Sell) c.in-Buy.is) in
    let room : length old_buys + length old_sells < b.intake.places = simp length-map (omega (arith, given.0, c.len.ensures, c.len-2.ensures, b.fits, b.buys.run.ok.0, b.sells.run.ok.0)) in
    let last = told.last ∙ number_kept b.intake.places b.intake.last (c.len.result + c.len-2.result) n told.answer ∙ given.2 in
    let kept = kept_entered b.intake.places b.intake.last old_buys old_sells (ladder_kept b) o given.2 (orders_of buys.items) (orders_of b.sells.run.items) bought sold room in
    record {
      fits = omega (arith, told.places, vector_fits b.intake.places _ _ buys.items b.sells.run.items buys.ok.0 b.sells.run.ok.0 kept.fits);
      buy_room = subst (λ cap. c.number.new.self.places ≤ cap) (sym c.push.ensures.capacity) (omega (arith, told.places, b.buy_room));
      sell_room = omega (arith, told.places, b.sell_room);
      rises = ap (λ k. rising 0 (merged (orders_of buys.items) (orders_of b.sells.run.items)) k) last ∙ kept.rises;
    }

pub invariant_of-self-in-Sell : goal.invariant_of-self-in-Sell
invariant_of-self-in-Sell c =
    let b = c.args.self.now in
    let old_buys = orders_of b.buys.run.items in
    let old_sells = orders_of b.sells.run.items in
    let n = c.in_ok-number.number in
    let told = c.in_ok-number.ensures in
    let given = number_given b.intake.places b.intake.last (c.len.result + c.len-2.result) n told.answer in
    let o = under n c.args.body in
    let sells = c.push-in-Sell.new.self.run in
    let bought = joined_other Buy o old_buys (ap (is_side Buy) c.in-Sell.is) in
    let sold = c.push-in-Sell.ensures.orders ∙ joined_own Sell o old_sells (ap (is_side Sell) c.in-Sell.is) in
    let room : length old_buys + length old_sells < b.intake.places = simp length-map (omega (arith, given.0, c.len.ensures, c.len-2.ensures, b.fits, b.buys.run.ok.0, b.sells.run.ok.0)) in
    let last = told.last ∙ number_kept b.intake.places b.intake.last (c.len.result + c.len-2.result) n told.answer ∙ given.2 in
    let kept = kept_entered b.intake.places b.intake.last old_buys old_sells (ladder_kept b) o given.2 (orders_of b.buys.run.items) (orders_of sells.items) bought sold room in
    record {
      fits = omega (arith, told.places, vector_fits b.intake.places _ _ b.buys.run.items sells.items b.buys.run.ok.0 sells.ok.0 kept.fits);
      buy_room = omega (arith, told.places, b.buy_room);
      sell_room = subst (λ cap. c.number.new.self.places ≤ cap) (sym c.push-in-Sell.ensures.capacity) (omega (arith, told.places, b.sell_room));
      rises = ap (λ k. rising 0 (merged (orders_of b.buys.run.items) (orders_of sells.items)) k) last ∙ kept.rises;
    }

pub returns-in-Buy : goal.returns-in-Buy
returns-in-Buy c =
    let b = c.args.self.now in
    let old_buys = orders_of b.buys.run.items in
    let old_sells = orders_of b.sells.run.items in
    let n = c.in_ok-number.number in
    let told = c.in_ok-number.ensures in
    let given = number_given b.intake.places b.intake.last (c.len.result + c.len-2.result) n told.answer in
    let o = under n c.args.body in
    let buys = c.push.new.self.run in
    let bought = c.push.ensures.orders ∙ joined_own Buy o old_buys (ap (is_side Buy) c.in-Buy.is) in
    let sold = joined_other Sell o old_sells (ap (is_side Sell) c.in-Buy.is) in
    let m = ladder_book b.intake.places b.intake.last b.buys.run.items b.sells.run.items in
    let last = told.last ∙ number_kept m.places m.last (c.len.result + c.len-2.result) n told.answer ∙ given.2 in
    let count : c.len.result + c.len-2.result ≡ length m.orders = omega (arith, c.len.ensures, c.len-2.ensures, ladder_length b) in
    let went = enter_taken m c.args.body n (told.answer ∙ ap (number_answer m.places m.last) count) in
    let orders = now_entered m.places m.last old_buys old_sells (ladder_kept b) o given.2 (orders_of buys.items) (orders_of b.sells.run.items) bought sold ∙ ap (λ k. m.orders ++ under k c.args.body ∷ []) given.2 in
    let now = book_is told.places last orders in
    record { answer = went.answer; after = now ∙ went.after }

pub returns-in-Sell : goal.returns-in-Sell
returns-in-Sell c =
    let b = c.args.self.now in
    let old_buys = orders_of b.buys.run.items in
    let old_sells = orders_of b.sells.run.items in
    let n = c.in_ok-number.number in
    let told = c.in_ok-number.ensures in
    let given = number_given b.intake.places b.intake.last (c.len.result + c.len-2.result) n told.answer in
    let o = under n c.args.body in
    let sells = c.push-in-Sell.new.self.run in
    let bought = joined_other Buy o old_buys (ap (is_side Buy) c.in-Sell.is) in
    let sold = c.push-in-Sell.ensures.orders ∙ joined_own Sell o old_sells (ap (is_side Sell) c.in-Sell.is) in
    let m = ladder_book b.intake.places b.intake.last b.buys.run.items b.sells.run.items in
    let last = told.last ∙ number_kept m.places m.last (c.len.result + c.len-2.result) n told.answer ∙ given.2 in
    let count : c.len.result + c.len-2.result ≡ length m.orders = omega (arith, c.len.ensures, c.len-2.ensures, ladder_length b) in
    let went = enter_taken m c.args.body n (told.answer ∙ ap (number_answer m.places m.last) count) in
    let orders = now_entered m.places m.last old_buys old_sells (ladder_kept b) o given.2 (orders_of b.buys.run.items) (orders_of sells.items) bought sold ∙ ap (λ k. m.orders ++ under k c.args.body ∷ []) given.2 in
    let now = book_is told.places last orders in
    record { answer = went.answer; after = now ∙ went.after }
