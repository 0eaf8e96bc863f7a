use Rattle.std.proofs.Common.{arith}
use Rattle.closing.proofs.Legal.{survey_high}
use Rattle.closing.proofs.judged.JudgedInputs.survey_median.Goals as goal

pub mean-requires-clause-priced : goal.mean-requires-clause-priced
mean-requires-clause-priced c = omega (arith, survey_high c.args.self _ _ _ c.from.ensures (omega arith), survey_high c.args.self _ _ _ c.from-2.ensures (omega arith))
