use Rattle.std.proofs.Common.{◌≡◌, ◌+◌, ◌≤◌, [], ◌∷◌, ◌++◌, length, sym, refl, ap, ◌∙◌, subst, arith}
use lib.ListN.{length-map}
use Rattle.std.proofs.lemmas.Result.{err_from_is_err_and}
use Rattle.book.specs.Meaning.{under, number_answer, rising}
use Rattle.book.proofs.Listing.{rising_push}
use Rattle.book.proofs.Makes.{number_given, number_kept, number_refused, enter_refused, enter_taken, book_is}
use Rattle.table.specs.Tables.{orders_of, table_book}
use Rattle.table.proofs.Tabling.{pushed_length}
use Rattle.table.proofs.table_books.TableOrderBook.enter.Goals as goal

pub returns-in_err-number : goal.returns-in_err-number
returns-in_err-number c =
    let b = c.args.self.now in
    let m = table_book b.intake.places b.intake.last b.rows.run.items in
    let why = c.in_err-number.field-0.0 in
    let told = c.in_err-number.ensures in
    let count : c.len.result ≡ length m.orders = simp length-map (omega (arith, c.len.ensures, b.rows.run.ok.0)) in
    let p = err_from_is_err_and c.from_residual.result c.from_residual.ensures.1 in
    let went = enter_refused m c.args.body why (told.answer ∙ ap (number_answer m.places m.last) count) in
    let now = book_is told.places (told.last ∙ number_refused m.places m.last c.len.result why told.answer) refl in
    record { answer = rw (p.1, p.2) went.answer; after = now ∙ went.after }

pub invariant_of-self-2 : goal.invariant_of-self-2
invariant_of-self-2 c =
    let b = c.args.self.now in
    let n = c.in_ok-number.number in
    let told = c.in_ok-number.ensures in
    let run = c.push.new.self.run in
    let given = number_given b.intake.places b.intake.last c.len.result n told.answer in
    let last = told.last ∙ number_kept b.intake.places b.intake.last c.len.result n told.answer in
    let longer : length run.items ≡ length b.rows.run.items + 1 = pushed_length b.rows.run.items run.items (under n c.args.body) c.push.ensures.orders in
    record {
      fits = omega (arith, longer, run.ok.0, b.rows.run.ok.0, b.fits, given.0, c.len.ensures, told.places);
      room = subst (λ cap. c.number.new.self.places ≤ cap) (sym c.push.ensures.capacity) (omega (arith, b.room, told.places));
      rises = ap (λ l. rising 0 l c.number.new.self.last) c.push.ensures.orders ∙ ap (rising 0 _) last ∙ rising_push 0 (orders_of b.rows.run.items) b.intake.last (under n c.args.body) b.rises (omega (arith, given.2));
    }

pub returns : goal.returns
returns c =
    let b = c.args.self.now in
    let m = table_book b.intake.places b.intake.last b.rows.run.items in
    let n = c.in_ok-number.number in
    let told = c.in_ok-number.ensures in
    let count : c.len.result ≡ length m.orders = simp length-map (omega (arith, c.len.ensures, b.rows.run.ok.0)) in
    let given = number_given m.places m.last c.len.result n told.answer in
    let went = enter_taken m c.args.body n (told.answer ∙ ap (number_answer m.places m.last) count) in
    let last = told.last ∙ number_kept m.places m.last c.len.result n told.answer ∙ given.2 in
    let orders = c.push.ensures.orders ∙ ap (λ k. m.orders ++ under k c.args.body ∷ []) given.2 in
    let now = book_is told.places last orders in
    record { answer = went.answer; after = now ∙ went.after }
