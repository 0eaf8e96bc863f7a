use Rattle.std.proofs.Common.{length, ap, ◌∙◌}
use Rattle.feed.proofs.Scripting.{reading_ends}
use Rattle.feed.proofs.scripts.read_script.Goals as goal

pub returns-in_default : goal.returns-in_default
returns-in_default c = reading_ends _ _ _ _ _ _ (c.in_default.ensures.answer.0 ∙ ap length c.loop-read.invariant.1) c.loop-read.invariant.0
