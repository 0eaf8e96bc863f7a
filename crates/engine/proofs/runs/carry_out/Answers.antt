use Rattle.std.proofs.Common.{length, Ok, Err, vec_items, refl}
use Rattle.std.proofs.lemmas.Result.{err_from_is_err_and}
use Rattle.engine.proofs.Carrying.{carried_as, entry_same, cut_same, withdrawal_same, indication_same}
use Rattle.engine.proofs.runs.carry_out.Goals as goal

pub returns-in_ok-number-in-Entry : goal.returns-in_ok-number-in-Entry
returns-in_ok-number-in-Entry g c =
    let told = c.in_ok-number-in-Entry.ensures in
    let all = carried_as _ _ _ _ c.args.register.now (vec_items c.args.log.now) (entry_same c.args.session.tick c.args.session.scarcity (length c.args.register.now) (g.B.OrderBook.meaning c.args.book.now) c.args.call c.in-Entry.side c.in-Entry.quantity c.in-Entry.price c.in-Entry.is) refl told.answer told.after in
    record { reply = all.reply; after = all.after; register = all.register; log = all.logged; capacity = refl; within = tt }

pub returns-in_err-number-in-Entry : goal.returns-in_err-number-in-Entry
returns-in_err-number-in-Entry g c =
    let told = c.in_err-number-in-Entry.ensures in
    let p = err_from_is_err_and c.from_residual.result c.from_residual.ensures.1 in
    let all = carried_as _ _ _ _ c.args.register.now (vec_items c.args.log.now) (entry_same c.args.session.tick c.args.session.scarcity (length c.args.register.now) (g.B.OrderBook.meaning c.args.book.now) c.args.call c.in-Entry.side c.in-Entry.quantity c.in-Entry.price c.in-Entry.is) refl told.answer told.after in
    record { reply = rw (p.1, p.2) all.reply; after = all.after; register = all.register; log = all.logged; capacity = refl; within = rw p.1 tt }

pub returns-in_ok-cut-in-Cut : goal.returns-in_ok-cut-in-Cut
returns-in_ok-cut-in-Cut g c =
    let told = c.in_ok-cut-in-Cut.ensures in
    let all = carried_as _ _ _ _ c.args.register.now (vec_items c.args.log.now) (cut_same c.args.session.tick c.args.session.scarcity (length c.args.register.now) (g.B.OrderBook.meaning c.args.book.now) c.args.call c.in-Cut.number c.in-Cut.quantity c.in-Cut.is) refl told.answer told.after in
    record { reply = all.reply; after = all.after; register = all.register; log = all.logged; capacity = refl; within = tt }

pub returns-in_err-cut-in-Cut : goal.returns-in_err-cut-in-Cut
returns-in_err-cut-in-Cut g c =
    let told = c.in_err-cut-in-Cut.ensures in
    let p = err_from_is_err_and c.from_residual-in_err-cut-in-Cut.result c.from_residual-in_err-cut-in-Cut.ensures.1 in
    let all = carried_as _ _ _ _ c.args.register.now (vec_items c.args.log.now) (cut_same c.args.session.tick c.args.session.scarcity (length c.args.register.now) (g.B.OrderBook.meaning c.args.book.now) c.args.call c.in-Cut.number c.in-Cut.quantity c.in-Cut.is) refl told.answer told.after in
    record { reply = rw (p.1, p.2) all.reply; after = all.after; register = all.register; log = all.logged; capacity = refl; within = rw p.1 tt }

pub returns-in_ok-withdrawal-in-Withdrawal : goal.returns-in_ok-withdrawal-in-Withdrawal
returns-in_ok-withdrawal-in-Withdrawal g c =
    let told = c.in_ok-withdrawal-in-Withdrawal.ensures in
    let all = carried_as _ _ _ _ c.args.register.now (vec_items c.args.log.now) (withdrawal_same c.args.session.tick c.args.session.scarcity (length c.args.register.now) (g.B.OrderBook.meaning c.args.book.now) c.args.call c.in-Withdrawal.number c.in-Withdrawal.is) refl told.answer told.after in
    record { reply = all.reply; after = all.after; register = all.register; log = all.logged; capacity = refl; within = tt }

pub returns-in_err-withdrawal-in-Withdrawal : goal.returns-in_err-withdrawal-in-Withdrawal
returns-in_err-withdrawal-in-Withdrawal g c =
    let told = c.in_err-withdrawal-in-Withdrawal.ensures in
    let p = err_from_is_err_and c.from_residual-in_err-withdrawal-in-Withdrawal.result c.from_residual-in_err-withdrawal-in-Withdrawal.ensures.1 in
    let all = carried_as _ _ _ _ c.args.register.now (vec_items c.args.log.now) (withdrawal_same c.args.session.tick c.args.session.scarcity (length c.args.register.now) (g.B.OrderBook.meaning c.args.book.now) c.args.call c.in-Withdrawal.number c.in-Withdrawal.is) refl told.answer told.after in
    record { reply = rw (p.1, p.2) all.reply; after = all.after; register = all.register; log = all.logged; capacity = refl; within = rw p.1 tt }

pub returns-in_ok-told-in-Indication : goal.returns-in_ok-told-in-Indication
returns-in_ok-told-in-Indication g c =
    let all = carried_as _ _ _ _ c.args.register.now (vec_items c.args.log.now) (indication_same c.args.session.tick c.args.session.scarcity (length c.args.register.now) (g.B.OrderBook.meaning c.args.book.now) c.args.call (Ok c.in_ok-told-in-Indication.told) c.in_ok-told-in-Indication.ensures.answer c.in-Indication.is) refl refl refl in
    record { reply = all.reply; after = all.after; register = all.register; log = all.logged; capacity = refl; within = tt }

pub returns-in_err-told-in-Indication : goal.returns-in_err-told-in-Indication
returns-in_err-told-in-Indication g c =
    let p = err_from_is_err_and c.from_residual-in_err-told-in-Indication.result c.from_residual-in_err-told-in-Indication.ensures.1 in
    let all = carried_as _ _ _ _ c.args.register.now (vec_items c.args.log.now) (indication_same c.args.session.tick c.args.session.scarcity (length c.args.register.now) (g.B.OrderBook.meaning c.args.book.now) c.args.call (Err c.in_err-told-in-Indication.field-0.0) c.in_err-told-in-Indication.ensures.answer c.in-Indication.is) refl refl refl in
    record { reply = rw (p.1, p.2) all.reply; after = all.after; register = all.register; log = all.logged; capacity = refl; within = rw p.1 tt }
