use Rattle.std.proofs.Common.{Some, sym, ap, ◌∙◌}
use lib.ListN.{length-map}
use Rattle.std.proofs.lemmas.List.{get_or-map}
use Rattle.book.proofs.Standing.{stands_found, stands_at}
use Rattle.book.proofs.runs.find_in.Goals as goal

pub returns : goal.returns
returns g c =
    let order = g.H.Holds.order in
    let run = c.args.run.now in
    let told = c.in_ok-i.ensures in
    let item = c.index-run-i.result in
    let at = stands_at told.1 (simp length-map told.0) (order item) in
    let is = get_or-map order run c.in_ok-i.i item (order item) told.0 ∙ ap order (sym c.index-run-i.is) in
    ap Some (c.live.ensures ∙ sym is ∙ at) ∙ sym (stands_found told.1)
