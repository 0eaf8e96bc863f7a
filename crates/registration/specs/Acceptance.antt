-- When a registration is accepted, and by which criterion. Assumes nothing.
use Rattle.std.specs.Prelude.{◌≡◌, ℕ, ◌*◌, ◌≤◌, IfSome, Some, None, Ok, Result}
use Rattle.session.specs.Judgements.{OnTick}
use Rattle.registration.specs.declared.registrations.BestPrice.{BestPrice}
use Rattle.registration.specs.declared.registrations.Registration.{Registration}
use Rattle.registration.specs.declared.bands.Criterion.{Criterion}
use Rattle.registration.specs.declared.refusals.RegistrationRefusal.{RegistrationRefusal}
use Rattle.registration.specs.declared.bands.Criterion.TheVariants.{BestPrices, LastTrade, Reference}

-- the quantity is in range, each price that is given is in range and on the tick, and the price is not above the scarcity price
pub record Legal (tick scarcity : ℕ) (asked : Registration) : Type 0 where
  pub some : 1 ≤ asked.quantity
  pub few : asked.quantity ≤ 1000000
  pub price : OnTick tick asked.price
  pub buy : IfSome asked.best_buy (λ best. OnTick tick best.price)
  pub sell : IfSome asked.best_sell (λ best. OnTick tick best.price)
  pub last : IfSome asked.last_trade (OnTick tick)
  pub reference : IfSome asked.reference (OnTick tick)
  pub capped : asked.price ≤ scarcity

-- the best prices are these, and both sides are as deep as the quantity
pub record Deep (asked : Registration) (buy sell : BestPrice) : Type 0 where
  pub is_buy : asked.best_buy ≡ Some buy
  pub is_sell : asked.best_sell ≡ Some sell
  pub buys : asked.quantity ≤ buy.depth
  pub sells : asked.quantity ≤ sell.depth

-- the first criterion does not apply
abbrev pub NotDeep : Registration → Type 0
NotDeep asked = (buy sell : BestPrice) → Deep asked buy sell → ⊥

-- the price lies from 78 to 122 hundredths of another
abbrev pub Near : ℕ → ℕ → Type 0
Near other price = (other * 78 ≤ price * 100) × (price * 100 ≤ other * 122)

-- the criterion is the first that applies, and the price lies in its band
abbrev pub Within : Registration → Criterion → Type 0
Within asked BestPrices = (buy : BestPrice) × (sell : BestPrice) × Deep asked buy sell × (buy.price * 89 ≤ asked.price * 100) × (asked.price * 100 ≤ sell.price * 111)
Within asked LastTrade = (last : ℕ) × NotDeep asked × (asked.last_trade ≡ Some last) × Near last asked.price
Within asked Reference = (reference : ℕ) × NotDeep asked × (asked.last_trade ≡ None) × (asked.reference ≡ Some reference) × Near reference asked.price

pub record Accepted (tick scarcity : ℕ) (asked : Registration) (criterion : Criterion) : Type 0 where
  pub legal : Legal tick scarcity asked
  pub within : Within asked criterion

-- accepted by a criterion if it is so, and only then
abbrev pub Exactly : ℕ → ℕ → Registration → Result Criterion RegistrationRefusal → Type 0
Exactly tick scarcity asked r = (criterion : Criterion) → (r ≡ Ok criterion → Accepted tick scarcity asked criterion) × (Accepted tick scarcity asked criterion → r ≡ Ok criterion)
