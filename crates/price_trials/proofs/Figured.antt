-- The worked figures, by computing. Assumes nothing.
use Rattle.std.proofs.Common.{refl}
use Rattle.note.proofs.Figures.{note_figures}
use Rattle.book.specs.Meaning.{quantity_at}
use Rattle.rules.specs.Trades.{fills, pairs_by}
use Rattle.trading.specs.Replies.{outcome}
use Rattle.ranking.specs.Runs.{placed, sorted}
use Rattle.book.specs.Ranks.{of_side}
use Rattle.rules.specs.Literal.{equilibrium, prices, keep, largest, smallest}
use Rattle.price_trials.specs.Figures.{AuctionFigures}

pub auction_figures : AuctionFigures
unfolding quantity_at equilibrium prices keep largest smallest outcome fills pairs_by placed sorted of_side
auction_figures =
    record {
      empty = refl;
      touching = refl;
      level = refl;
      more_bought = refl;
      more_sold = refl;
      both_signs = refl;
      plateau = refl;
      capped = refl;
      priced_out = refl;
      weighted = refl;
      uncrossing = refl;
      note = note_figures;
    }
