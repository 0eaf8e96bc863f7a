use Rattle.std.proofs.Common.{sym, subst}
use Rattle.feed.specs.Steps.{terms_of}
use Rattle.feed.specs.Playing.{Silent}
use Rattle.feed.proofs.Playing.{silent, each_answered, answered}
use Rattle.feed.proofs.plays.play.Goals as goal

pub carry_out-requires : goal.carry_out-requires
carry_out-requires g c = subst (λ cs. Silent (terms_of c.in_ok-script.script.session) cs) (sym c.deref.ensures.value) (silent _ _ _ _ c.in_ok-script.ensures)

pub answer_lines-requires-clause-asked : goal.answer_lines-requires-clause-asked
answer_lines-requires-clause-asked g c = each_answered _ _ _ _ _ _ _ _ _ _ _ _ _ c.deref-2.ensures.value c.deref.ensures.value c.deref-3.ensures.value c.in_ok-script.ensures c.in_ok-journal.ensures.0 c.in_ok-journal.ensures.1 c.in_ok-journal.ensures.2

pub returns : goal.returns
returns g c = answered _ _ _ _ _ _ _ _ _ _ _ _ _ c.deref-2.ensures.value c.deref.ensures.value c.deref-3.ensures.value c.in_ok-script.ensures c.in_ok-journal.ensures.0 c.in_ok-journal.ensures.1 c.in_ok-journal.ensures.2 _ c.answer_lines.ensures.told c.answer_lines.ensures.placed
