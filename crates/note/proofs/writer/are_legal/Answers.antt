use Rattle.std.proofs.Common.{◌∙◌, rules, tests}
use Rattle.std.proofs.lemmas.Iterator.{YieldsList-from_slice}
use Rattle.std.proofs.lemmas.Iterator.Search.{all_from_yields_List}
use Rattle.note.specs.Notes.{is_trade}
use Rattle.note.proofs.Listing.{all_legal}
use Rattle.note.proofs.writer.are_legal.Goals as goal

pub returns : goal.returns
returns c =
    let trades = c.args.trades.now in
    all_from_yields_List is_trade _ _ c.all.result c.all.ensures.ran (YieldsList-from_slice trades cc) (λ x b q k. search (rules, tests)) ∙ all_legal trades
