use Rattle.std.proofs.Common.{◌+◌, ◌-◌, sym, ◌∙◌, arith}
use Rattle.std.proofs.lemmas.Result.{err_from_is_err_and}
use Rattle.note.proofs.Trading.{pass_none, pass_more, pass_refused}
use Rattle.note.proofs.reader.NoteReader.pass_trades.Goals as goal

pub returns-in_err-trade : goal.returns-in_err-trade
returns-in_err-trade c =
    let p = err_from_is_err_and c.from_residual.result c.from_residual.ensures.1 in
    rw (p.1, p.2) (sym (c.loop-i.invariant ∙ pass_refused (c.args.count - c.loop-i._i) (c.args.count - (c.loop-i._i + 1)) _ (omega arith) c.in_err-trade.ensures))

pub loop-i-preserved : goal.loop-i-preserved
loop-i-preserved c = c.loop-i.invariant ∙ pass_more (c.args.count - c.loop-i._i) (c.args.count - (c.loop-i._i + 1)) _ (omega arith) c.in_ok-trade.ensures

pub returns : goal.returns
returns c = sym (c.loop-i.invariant ∙ pass_none (c.args.count - c.loop-i._i) _ (omega arith))
