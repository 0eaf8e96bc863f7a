use Rattle.std.proofs.Common.{◌≡◌, rules, arith}
use Rattle.std.specs.Option.{ok_or}
use Rattle.closing.specs.declared.refusals.ClosingRefusal.TheVariants.{NoCriterion}
use Rattle.closing.specs.Criteria.{first_price}
use Rattle.closing.proofs.Closed.{grounds, priced}
use Rattle.closing.proofs.closings.closing_price.Goals as goal

first : (c : goal.After-ok_or) → c.ok_or.result ≡ ok_or (first_price c.args.session.tick c.args.inputs) NoCriterion
first c = search rules

pub returns-clause-grounds : goal.returns-clause-grounds
returns-clause-grounds c = grounds c.args.session.tick c.args.inputs (omega arith) (omega arith) c.in_ok-judged.ensures.answer c.ok_or.result (first c)

pub returns-clause-priced : goal.returns-clause-priced
returns-clause-priced c = priced c.args.session.tick c.args.inputs (omega arith) (omega arith) c.in_ok-judged.ensures.answer c.ok_or.result (first c)
