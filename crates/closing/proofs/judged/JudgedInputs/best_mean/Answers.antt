use Rattle.std.proofs.Common.{arith}
use Rattle.closing.proofs.Legal.{legal_of, given_at}
use Rattle.closing.proofs.judged.JudgedInputs.best_mean.Goals as goal

pub mean-requires-clause-priced : goal.mean-requires-clause-priced
mean-requires-clause-priced c =
    let legal = legal_of c.args.self in
    omega (arith, (given_at _ c.in_ok-buy.buy _ legal.buy c.in_ok-buy.was).legal.1, (given_at _ c.in_ok-sell.sell _ legal.sell c.in_ok-sell.was).legal.1)
