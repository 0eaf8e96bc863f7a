use Rattle.std.proofs.Common.{◌≡◌, rules, IfSome, sym, subst}
use Rattle.session.specs.Rounding.{Nearest, rounded_answer}
use Rattle.session.proofs.Nearness.{answer_near}
use Rattle.session.proofs.rounding.rounded.Goals as goal

pub returns-clause-nearest : goal.returns-clause-nearest
returns-clause-nearest c =
    let is : c.ok.result ≡ rounded_answer c.args.unit c.args.sum c.args.weight = search rules in
    subst (λ r. IfSome r (λ price. Nearest c.args.unit c.args.sum c.args.weight price)) (sym is) (answer_near c.args.unit c.args.sum c.args.weight)
