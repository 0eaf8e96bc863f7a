use Rattle.std.proofs.Common.{◌≡◌, refl, true}
use Rattle.ranking.specs.Runs.{in_rank}
use Rattle.book.specs.Meaning.{cut_in}
use Rattle.book.specs.Ranks.{before}
use Rattle.book.specs.Runs.{all_of}
use Rattle.book.proofs.Listing.{all_cut}
use Rattle.book.proofs.Turns.{rank_cut}
use Rattle.ladder.specs.Ladders.{orders_of}
use Rattle.ladder.proofs.Queueing.{after_run}
use Rattle.ladder.proofs.queues.Queue.cut.Goals as goal

pub invariant_of-self : goal.invariant_of-self
invariant_of-self g c =
    let b = c.args.self.now in
    let side = g.S.OneSide.SIDE in
    let os = orders_of b.run.items in
    record {
      ranked = after_run (λ l. in_rank (before side) l ≡ true) c.cut_in.result (cut_in os c.args.number c.args.quantity) os c.cut_in.ensures.after (rank_cut (before side) (λ o z k. refl) (λ o z k. refl) c.args.number c.args.quantity os b.ranked) b.ranked;
      sided = after_run (λ l. all_of side l ≡ true) c.cut_in.result (cut_in os c.args.number c.args.quantity) os c.cut_in.ensures.after (all_cut side c.args.number c.args.quantity os b.sided) b.sided;
    }
