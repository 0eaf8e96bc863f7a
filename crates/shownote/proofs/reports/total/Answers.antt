use Rattle.std.proofs.Common.{◌≡◌, ◌∙◌, sum_by, rules}
use Rattle.note.specs.declared.trades.Trade.{Trade}
use Rattle.shownote.proofs.Totals.{sum_of_contracts}
use Rattle.shownote.proofs.reports.total.Goals as goal

pub returns : goal.returns
returns c =
    let is : c.sum.result ≡ sum_by (λ (t : Trade). t.quantity) c.args.trades.now = search rules in
    is ∙ sum_of_contracts c.args.trades.now
