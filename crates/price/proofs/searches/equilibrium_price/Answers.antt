use Rattle.std.proofs.Common.{min, ap, ◌∙◌}
use Rattle.price.proofs.Bounds.{apart, crossed, answered}
use Rattle.price.proofs.searches.equilibrium_price.Goals as goal

pub returns-then-least-most : goal.returns-then-least-most
returns-then-least-most g c =
    apart _ _ _ c.in_ok-buy.buy c.in_ok-sell.sell c.in_ok-buy.ensures.value c.in_ok-sell.ensures.value (c.min-most.ensures ∙ ap (min c.in_ok-buy.buy.body.limit) c.ceiling.ensures) c.if-least-most.true

pub invariant_of-market-clause-crossed : goal.invariant_of-market-clause-crossed
invariant_of-market-clause-crossed g c =
    crossed _ _ _ c.in_ok-buy.buy c.in_ok-sell.sell c.in_ok-buy.ensures.value c.in_ok-sell.ensures.value c.min-most.ensures c.if-least-most.false

pub returns : goal.returns
returns g c =
    answered _ _ _ c.in_ok-buy.buy c.in_ok-sell.sell c.in_ok-buy.ensures.value c.in_ok-sell.ensures.value (c.min-most.ensures ∙ ap (min c.in_ok-buy.buy.body.limit) c.ceiling.ensures) _ c.price.ensures
