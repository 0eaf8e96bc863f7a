use Rattle.std.proofs.Common.{rules, ◌≡◌, ℕ, ◌≤◌, length, not, cond, ltb, Some, None, ap, ◌∙◌, arith}
use Rattle.std.specs.Option.{unwrap_or}
use Rattle.std.proofs.lemmas.Iterator.{YieldsList-from_slice}
use Rattle.std.proofs.lemmas.Iterator.Search.{position_from_yields_List}
use Rattle.std.proofs.lemmas.List.Sums.{prefix_len-le-length}
use Rattle.ranking.proofs.runs.place_of.Goals as goal

first_or_last : (i n : ℕ) → i ≤ n → unwrap_or (cond (ltb i n) (Some i) None) n ≡ i
first_or_last i n h = grind arith

pub returns : goal.returns
returns g c =
    let told = position_from_yields_List {v = λ y. y.now} (g.T.Ranked.before c.args.item.now) _ _ _ c.position.ensures.ran (YieldsList-from_slice c.args.run.now c.iter.ensures.rest) (λ x b q k. search rules) in
    let bound = prefix_len-le-length (λ y. not (g.T.Ranked.before c.args.item.now y)) c.args.run.now in
    let is = c.unwrap_or.ensures ∙ ap (λ r. unwrap_or r (length c.args.run.now)) told ∙ first_or_last _ _ bound in
    record { within = rw is bound; value = is }
