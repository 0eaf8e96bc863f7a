use Rattle.std.proofs.Common.{ap, ◌∙◌}
use Rattle.ranking.specs.Runs.{in_rank}
use Rattle.book.specs.Ranks.{before}
use Rattle.book.specs.Runs.{all_of}
use Rattle.ladder.specs.Ladders.{orders_of}
use Rattle.ladder.proofs.Queueing.{none_ranked, none_sided}
use Rattle.ladder.proofs.queues.Queue.new.Goals as goal

pub invariant_of-result : goal.invariant_of-result
invariant_of-result g c =
    let none = c.in_ok-run.ensures.items in
    let side = g.S.OneSide.SIDE in
    record { ranked = ap (λ l. in_rank (before side) (orders_of l)) none ∙ none_ranked side; sided = ap (λ l. all_of side (orders_of l)) none ∙ none_sided side }
