use Rattle.std.proofs.Common.{◌-◌, arith, length-take}
use Rattle.std.proofs.lemmas.Result.{err_from_is_err_and}
use Rattle.note.proofs.Answering.{no_note, stored}
use Rattle.note.proofs.reader.NoteReader.read.Goals as goal

pub returns-in_err-heading-clause-exact : goal.returns-in_err-heading-clause-exact
returns-in_err-heading-clause-exact c =
    let p = err_from_is_err_and c.from_residual.result c.from_residual.ensures.1 in
    rw (p.1, p.2) (no_note c.args.self c.args.register.now _ c.in_err-heading.ensures)

pub returns-clause-exact : goal.returns-clause-exact
returns-clause-exact c =
    let long = length-take (c.in_ok-heading.heading.count - 0) c.args.register.now in
    stored c.in_ok-heading.ensures _ (omega arith) c.in_ok-store_trades.ensures _
