use Rattle.std.proofs.Common.{rules, not}
use Rattle.std.proofs.lemmas.List.Sorted.{answers_always}
use Rattle.ranking.proofs.Placing.{rank_told}
use Rattle.ranking.proofs.runs.is_in_rank.Goals as goal

pub returns : goal.returns
returns g c =
    let laws = g.met.T.Ranked in
    let told = c.is_sorted_by.ensures.cases (λ x y. not (g.T.Ranked.before y x)) (answers_always _ _ _ (λ f a r f' called. search (rules, called))) in
    rank_told g.T.Ranked.before g.T.Ranked.price g.T.Ranked.number laws.transitive laws.level_price laws.level_number laws.alike c.args.run.now c.is_sorted_by.result told
