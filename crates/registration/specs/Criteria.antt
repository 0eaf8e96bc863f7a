-- The number of each criterion of a registration. Assumes nothing.
use Rattle.std.specs.Prelude.{ℕ}
use Rattle.registration.specs.declared.bands.Criterion.{Criterion}
use Rattle.registration.specs.declared.bands.Criterion.TheVariants.{BestPrices, LastTrade, Reference}

abbrev pub number_of : Criterion → ℕ
number_of BestPrices = 1
number_of LastTrade = 2
number_of Reference = 3
