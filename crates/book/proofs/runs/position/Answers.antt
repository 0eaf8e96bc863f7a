use Rattle.std.proofs.Common.{rules}
use Rattle.std.proofs.lemmas.Iterator.{YieldsList-from_slice}
use Rattle.std.proofs.lemmas.Iterator.Search.{position_from_yields_List}
use Rattle.book.proofs.Standing.{has, searched}
use Rattle.book.proofs.runs.position.Goals as goal

pub returns : goal.returns
returns g c =
    let order = g.H.Holds.order in
    let told = position_from_yields_List {v = λ y. y.now} (has order c.args.number) _ _ _ c.position.ensures.ran (YieldsList-from_slice c.args.run.now c.iter.ensures.rest) (λ x b q k. search (rules, k)) in
    searched order c.args.number c.args.run.now c.position.result told
