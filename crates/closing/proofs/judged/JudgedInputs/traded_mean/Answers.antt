use Rattle.std.proofs.Common.{arith}
use Rattle.closing.proofs.Totals.{trades_fit}
use Rattle.closing.proofs.judged.JudgedInputs.traded_mean.Goals as goal

pub total_of-totals-requires : goal.total_of-totals-requires
total_of-totals-requires c =
    let fit = trades_fit c.args.self in
    record { worth_fits = omega (arith, fit.below, fit.few); contracts_fit = omega (arith, fit.few) }

pub mean-requires : goal.mean-requires
mean-requires c =
    let fit = trades_fit c.args.self in
    record { weighed = omega (arith, fit.some); priced = omega (arith, fit.below) }
