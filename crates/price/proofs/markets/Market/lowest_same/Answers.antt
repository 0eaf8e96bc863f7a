use Rattle.std.proofs.Common.{rules}
use Rattle.rules.proofs.Curves.{monotone}
use Rattle.price.proofs.Turns.{lowest_found}
use Rattle.price.proofs.markets.Market.lowest_same.Goals as goal

pub returns : goal.returns
returns g c =
    lowest_found _ (monotone _ _) _ _ c.args.self.now.crossed _ _ c.requires.high c.lowest.ensures.least c.lowest.ensures.most
    (λ lt. let at = c.lowest.ensures.at lt in search rules)
    (λ lt same. let before = c.lowest.ensures.before lt in search rules)
