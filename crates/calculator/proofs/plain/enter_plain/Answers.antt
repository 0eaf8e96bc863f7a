use Rattle.calculator.proofs.Filling.{body_entered}
use Rattle.calculator.proofs.plain.enter_plain.Goals as goal

pub returns-in-Some : goal.returns-in-Some
returns-in-Some g c =
    let told = c.in-Some.ensures in
    body_entered _ _ c.in-Some.body c.args.order told.0 told.1 told.2 told.3 c.enter.ensures.after
