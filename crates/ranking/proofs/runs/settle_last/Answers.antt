use Rattle.std.proofs.Common.{length, refl, ap, ◌∙◌, arith}
use Rattle.ranking.specs.Runs.{in_rank}
use Rattle.ranking.proofs.Placing.{settled, rank_placed}
use Rattle.ranking.proofs.runs.settle_last.Goals as goal

pub returns : goal.returns
returns g c =
    let before = g.T.Ranked.before in
    let laws = g.met.T.Ranked in
    let done = settled before c.args.run.now _ _ c.rotate_right.new.self c.place_of-place.result c.index-run-len.result c.index-run-len.is refl c.place_of-place.ensures.value refl c.rotate_right.ensures.after in
    record {
      placed = done;
      empty = λ is. absurd (omega (arith, ap length is));
      ranked = λ xs x is t. ap (in_rank before) (done xs x is) ∙ rank_placed before laws.irreflexive laws.transitive x xs t;
    }
