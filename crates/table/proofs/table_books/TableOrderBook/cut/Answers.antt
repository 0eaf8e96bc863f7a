use Rattle.std.proofs.Common.{◌≤◌, sym, subst}
use Rattle.table.specs.Tables.{orders_of}
use Rattle.table.proofs.Tabling.{cut_fits, cut_rises, cut_went}
use Rattle.table.proofs.table_books.TableOrderBook.cut.Goals as goal

pub invariant_of-self : goal.invariant_of-self
invariant_of-self c =
    let b = c.args.self.now in
    let run = c.cut.new.self.run in
    let kept = c.cut.ensures in
    let fits = cut_fits b.intake.places b.rows.run.len run.len b.rows.run.items run.items c.args.number c.args.quantity c.cut.result b.rows.run.ok.0 run.ok.0 b.fits kept.orders in
    let rises = cut_rises b.intake.last (orders_of b.rows.run.items) (orders_of run.items) c.args.number c.args.quantity c.cut.result b.rises kept.orders in
    let room = subst (λ cap. b.intake.places ≤ cap) (sym kept.capacity) b.room in
    record { fits = fits; room = room; rises = rises }

pub returns : goal.returns
returns c =
    let b = c.args.self.now in
    let went = cut_went b.intake.places b.intake.last (orders_of b.rows.run.items) (orders_of c.cut.new.self.run.items) c.args.number c.args.quantity c.cut.result c.cut.ensures.answer c.cut.ensures.orders in
    record { answer = went.answer; after = went.after }
