use Rattle.std.proofs.Common.{rules}
use Rattle.rules.proofs.Curves.{monotone}
use Rattle.price.proofs.Turns.{crossing_found}
use Rattle.price.proofs.markets.Market.crossing.Goals as goal

pub returns-clause-crossing : goal.returns-clause-crossing
returns-clause-crossing g c =
    crossing_found _ (monotone _ _) _ _ c.args.self.now.crossed _ c.lowest-behind.ensures.least c.lowest-behind.ensures.most
    (λ lt. let at = c.lowest-behind.ensures.at lt in search rules)
    (λ lt. let before = c.lowest-behind.ensures.before lt in search rules)
