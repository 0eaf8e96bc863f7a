use Rattle.std.proofs.Common.{◌<◌, ◌≤◌, length, ap, ◌∙◌, arith}
use Rattle.std.proofs.lemmas.Result.{err_from_is_err_and, IfOk-from_err}
use Rattle.rules.specs.Trades.{trades_at}
use Rattle.rules.proofs.Fitting.{trades_few}
use Rattle.engine.specs.Messages.{uncrossing_reply}
use Rattle.engine.proofs.Asking.{err_at}
use Rattle.engine.proofs.Settlement.{found, volume_cuttable, written_cuttable, outcome_none, outcome_short, outcome_done, by_outcome, crossed_none, crossed_done}
use Rattle.engine.proofs.uncrossings.uncrossing.Goals as goal

pub returns-in_err-told : goal.returns-in_err-told
returns-in_err-told g c =
    let m = g.B.OrderBook.meaning c.args.book.now in
    let xs = c.args.register.now in
    let p = err_from_is_err_and c.from_residual.result c.from_residual.ensures.1 in
    let none = outcome_none m c.args.session.tick c.args.session.scarcity (length xs) c.in_err-told.field-0.0 c.in_err-told.ensures.answer in
    let all = by_outcome _ _ _ _ _ _ none (crossed_none m c.in_err-told.field-0.0 xs) in
    record {
      answer = ap (λ r. uncrossing_reply r xs) (err_at _ _ _ p.1 p.2) ∙ all.answer;
      after = all.after;
      register = all.register;
      count = IfOk-from_err c.from_residual.result _ c.from_residual.ensures.0;
    }

pub returns-then-count-register : goal.returns-then-count-register
returns-then-count-register g c =
    let m = g.B.OrderBook.meaning c.args.book.now in
    let xs = c.args.register.now in
    let told = c.in_ok-told.told in
    let here = found m c.args.session.tick c.args.session.scarcity told c.in_ok-told.ensures.answer in
    let many : length xs < length (trades_at told.volume m.orders) = omega (arith, c.count_trades-count.ensures, c.if-count-register.true) in
    let short = outcome_short m c.args.session.tick c.args.session.scarcity (length xs) told here many in
    let all = by_outcome _ _ _ _ _ _ short (crossed_none m _ xs) in
    record { answer = all.answer; after = all.after; register = all.register; count = tt }

pub settle_trades-requires : goal.settle_trades-requires
settle_trades-requires g c =
    let m = g.B.OrderBook.meaning c.args.book.now in
    let told = c.in_ok-told.told in
    let here = found m c.args.session.tick c.args.session.scarcity told c.in_ok-told.ensures.answer in
    written_cuttable m.orders (trades_at told.volume m.orders) c.args.register.now _ _ c.count_trades-count.ensures c.write_trades.ensures (volume_cuttable m _ _ 0 told here (g.B.OrderBook.sound c.args.book.now))

pub returns : goal.returns
returns g c =
    let m = g.B.OrderBook.meaning c.args.book.now in
    let xs = c.args.register.now in
    let told = c.in_ok-told.told in
    let sound = g.B.OrderBook.sound c.args.book.now in
    let here = found m c.args.session.tick c.args.session.scarcity told c.in_ok-told.ensures.answer in
    let ts = trades_at told.volume m.orders in
    let few : length ts ≤ length xs = omega (arith, c.count_trades-count.ensures, c.if-count-register.false) in
    let done = outcome_done m c.args.session.tick c.args.session.scarcity (length xs) told here few in
    let all = by_outcome _ _ _ _ _ _ done (crossed_done m _ told ts xs c.write_trades.new.register c.count_trades-count.result c.count_trades-count.ensures c.write_trades.ensures c.settle_trades.ensures) in
    record {
      answer = all.answer;
      after = all.after;
      register = all.register;
      count = (omega (arith, c.if-count-register.false, c.write_trades.auto.register), omega (arith, c.count_trades-count.ensures, trades_few told.volume m.orders), omega (arith, c.count_trades-count.ensures, trades_few told.volume m.orders, sound.room, sound.few));
    }
