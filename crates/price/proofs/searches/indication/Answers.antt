use Rattle.std.proofs.Common.{arith}
use Rattle.std.proofs.lemmas.Grind.{common_steps}
use Rattle.price.proofs.Outcomes.{by_answer}
use Rattle.price.proofs.searches.indication.Goals as goal

pub returns-in_err-m-clause-indicated : goal.returns-in_err-m-clause-indicated
returns-in_err-m-clause-indicated g c = by_answer _ _ _ c.args.session.ticked.0 _ (grind (arith, common_steps))

pub returns-clause-indicated : goal.returns-clause-indicated
returns-clause-indicated g c = by_answer _ _ _ c.args.session.ticked.0 _ (grind (arith, common_steps))
