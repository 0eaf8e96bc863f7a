use Rattle.std.proofs.Common.{rules}
use Rattle.registration.proofs.Accepting.{exact}
use Rattle.registration.proofs.verdicts.verdict.Goals as goal

pub returns-in_err-judge-clause-exactly : goal.returns-in_err-judge-clause-exactly
returns-in_err-judge-clause-exactly c = exact c.args.session.tick c.args.session.scarcity c.args.asked c.from_residual.result (search rules)

pub returns-clause-exactly : goal.returns-clause-exactly
returns-clause-exactly c = exact c.args.session.tick c.args.session.scarcity c.args.asked c.decide.result (search rules)
