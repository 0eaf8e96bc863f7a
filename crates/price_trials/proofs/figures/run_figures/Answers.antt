use Rattle.price_trials.proofs.Figured.{auction_figures}
use Rattle.price_trials.proofs.figures.run_figures.Goals as goal

pub returns : goal.returns
returns c = auction_figures
