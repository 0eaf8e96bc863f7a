use Rattle.std.proofs.Common.{[], length, vec_items, sym, subst, arith}
use Rattle.engine.proofs.Running.{Going, going_starts, going_next, going_ends}
use Rattle.engine.proofs.runs.run.Goals as goal

pub loop-call-init : goal.loop-call-init
loop-call-init g c =
    let answers = c.in_ok-answers.ensures in
    let trades = c.in_ok-trades.ensures in
    let room = c.in-Some.ensures in
    let m = g.B.OrderBook.meaning c.args.book.now in
    let start = going_starts c.args.session.tick c.args.session.scarcity (length c.args.register.now) m c.args.register.now c.args.calls.now (g.B.OrderBook.sound c.args.book.now).rises in
    let one = subst (λ l. Going c.args.session.tick c.args.session.scarcity (length c.args.register.now) m c.args.register.now c.args.calls.now l [] m c.args.register.now 0) (sym answers.items) start in
    let two = subst (λ l. Going c.args.session.tick c.args.session.scarcity (length c.args.register.now) m c.args.register.now c.args.calls.now (vec_items c.in_ok-answers.answers) l m c.args.register.now 0) (sym trades.items) one in
    (omega (arith, answers.capacity), omega (arith, answers.len), omega (arith, trades.capacity, room), two)

pub loop-call-preserved : goal.loop-call-preserved
loop-call-preserved g c =
    let step = c.carry_out-answer.ensures in
    let pushed = c.push_reserved.ensures in (
      omega (arith, pushed.capacity, c.loop-call.invariant.0),
      omega (arith, pushed.len, c.loop-call.invariant.1),
      omega (arith, step.capacity, c.loop-call.invariant.2),
      going_next c.args.session.tick c.args.session.scarcity (length c.args.register.now) (length c.loop-call.register) _ _ c.args.calls.now _ _ _ _ _ _ _ _ c.loop-call.call-index _ _ c.carry_out-answer.result c.loop-call.auto.register c.loop-call-test.true c.carry_out-answer.new.log.ok.0 step.reply step.after step.register step.log step.within pushed.items c.loop-call.invariant.3,
    )

pub returns : goal.returns
returns g c = going_ends _ _ _ _ _ _ _ _ _ _ (g.B.OrderBook.sound c.args.book.now).rises c.loop-call-test.false c.loop-call.invariant.3
