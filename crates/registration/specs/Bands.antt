-- The bands that the criteria of a registration draw, a hundredfold, and the first that applies. Assumes nothing.
use Rattle.std.specs.Prelude.{ℕ, ◌*◌, min, Bool, cond, ◌&&◌, Some, None, Option, nat_le}
use Rattle.std.specs.Option.{option_map, option_or}
use Rattle.registration.specs.declared.registrations.BestPrice.{BestPrice}
use Rattle.registration.specs.declared.registrations.Registration.{Registration}
use Rattle.registration.specs.declared.bands.Band.{Band}
use Rattle.registration.specs.declared.bands.Criterion.{Criterion}
use Rattle.registration.specs.declared.bands.Criterion.TheVariants.{BestPrices, LastTrade, Reference}

-- a price lies in a band if a hundred times the price does
abbrev pub holds : Band → ℕ → Bool
holds band price = nat_le band.low (price * 100) && nat_le (price * 100) band.high

-- from 78 to 122 hundredths of a price
abbrev pub around : Criterion → ℕ → Band
around criterion price = record { criterion = criterion; low = price * 78; high = price * 122 }

-- from 89 hundredths of the best buy to 111 hundredths of the best sell
abbrev pub between : ℕ → ℕ → Band
between buy sell = record { criterion = BestPrices; low = buy * 89; high = sell * 111 }

-- 1. both best prices, and a quantity at most the smaller depth
abbrev pub band_of_best : ℕ → Option BestPrice → Option BestPrice → Option Band
band_of_best quantity None sell = None
band_of_best quantity (Some buy) None = None
band_of_best quantity (Some buy) (Some sell) = cond (nat_le quantity (min buy.depth sell.depth)) (Some (between buy.price sell.price)) None

abbrev pub best_band : Registration → Option Band
best_band asked = band_of_best asked.quantity asked.best_buy asked.best_sell

-- 2. else the last trade, 3. else the reference price: a criterion that does not apply leaves it to the next
abbrev pub first_band : Registration → Option Band
first_band asked =
    option_or (best_band asked) (
    option_or (option_map (around LastTrade) asked.last_trade) (
    option_map (around Reference) asked.reference))
