use Rattle.std.proofs.Common.{◌≡◌, ◌∙◌, length, sum_by, rules, arith, tests}
use Rattle.std.proofs.lemmas.Iterator.{YieldsList-from_slice}
use Rattle.std.proofs.lemmas.Iterator.Adapters.{fits_from_length, at_most_from_yields_List}
use Rattle.note.specs.declared.trades.Trade.{Trade}
use Rattle.note.specs.Notes.{trade_bytes}
use Rattle.note.proofs.Listing.{sum_of_bytes}
use Rattle.note.proofs.writer.trades_len.Goals as goal

pub returns-clause-value : goal.returns-clause-value
returns-clause-value c =
    let is : c.sum.result ≡ sum_by (λ (t : Trade). length (trade_bytes t)) c.args.trades.now = search rules in
    is ∙ sum_of_bytes c.args.trades.now

pub returns-clause-bound : goal.returns-clause-bound
returns-clause-bound c =
    let whole = c.sum.ensures.runs tt in
    let below = fits_from_length _ _ 255 3826 (at_most_from_yields_List (YieldsList-from_slice c.args.trades.now cc) c.requires) c.map.ensures.closure (omega arith) (λ x r q k. search (rules, tests)) whole.0 whole.0.seen whole.1 in
    omega (arith, whole.3, below)
