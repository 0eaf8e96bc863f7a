-- What is so of a closing price, by the criterion that gave it. Assumes nothing.
use Rattle.std.specs.Prelude.{◌≡◌, ℕ, ◌+◌, ◌-◌, ◌*◌, ◌/◌, ◌<◌, ◌≤◌, false, List, length, Some, None, All, count_by, nat_le}
use Rattle.session.specs.Rounding.{Nearest}
use Rattle.ranking.specs.declared.surveys.SurveyPrice.{SurveyPrice}
use Rattle.closing.specs.declared.inputs.PricedTrade.{PricedTrade}
use Rattle.closing.specs.declared.inputs.ClosingInputs.{ClosingInputs}
use Rattle.closing.specs.Criteria.{worth_of, contracts_of, of_today, of_last, of_best, price_at}

-- The mean by quantity is worth over contracts. What is at most every trade's price is at most the mean, what is at least every
-- trade's price is at least the mean, and the price is the multiple of the tick that is nearest to it.
pub record WeightedMean (tick : ℕ) (trades : List PricedTrade) (price : ℕ) : Type 0 where
  pub low : (least : ℕ) → All (λ trade. least ≤ trade.price) trades → least * contracts_of trades ≤ worth_of trades
  pub high : (most : ℕ) → All (λ trade. trade.price ≤ most) trades → worth_of trades ≤ most * contracts_of trades
  pub near : Nearest tick (worth_of trades) (contracts_of trades) price

-- at least half of the survey's prices are at most this one, and at least half are at least this one
pub record Halves (survey : List SurveyPrice) (price : ℕ) : Type 0 where
  pub at_most : length survey ≤ 2 * count_by (λ item. nat_le item.price price) survey
  pub at_least : length survey ≤ 2 * count_by (λ item. nat_le price item.price) survey

-- the two prices in the middle of a survey in rank, which are one in an odd count
abbrev pub lower_middle : List SurveyPrice → ℕ
lower_middle survey = price_at survey ((length survey - 1) / 2)

abbrev pub upper_middle : List SurveyPrice → ℕ
upper_middle survey = price_at survey (length survey / 2)

-- the price halves the survey, and so do the two in the middle; it is the multiple of the tick that is nearest to their mean
pub record Median (tick : ℕ) (survey : List SurveyPrice) (price : ℕ) : Type 0 where
  pub of_lower : Halves survey (lower_middle survey)
  pub of_upper : Halves survey (upper_middle survey)
  pub near : Nearest tick (lower_middle survey + upper_middle survey) 2 price
  pub of_price : Halves survey price

-- the first criterion that serves, with what it says of the price; those before it do not serve
pub data ClosedBy (tick : ℕ) (inputs : ClosingInputs) (price : ℕ) : Type 0 where
  by_today : inputs.out_of_market ≡ false → inputs.today ≡ Some price → ClosedBy tick inputs price
  by_last : of_today inputs ≡ None → inputs.out_of_market ≡ false → (age : ℕ) → 1 ≤ age → age ≤ 5 → inputs.last ≡ Some (record { price = price; age = age }) → ClosedBy tick inputs price
  by_trades : of_today inputs ≡ None → of_last inputs ≡ None → 3 ≤ length inputs.trades.now → WeightedMean tick inputs.trades.now price → ClosedBy tick inputs price
  by_best : of_today inputs ≡ None → of_last inputs ≡ None → length inputs.trades.now < 3 → (buy sell : ℕ) → inputs.best_buy ≡ Some buy → inputs.best_sell ≡ Some sell → buy ≤ sell → sell ≤ buy + 5000 → Nearest tick (buy + sell) 2 price → ClosedBy tick inputs price
  by_survey : of_today inputs ≡ None → of_last inputs ≡ None → length inputs.trades.now < 3 → of_best tick inputs ≡ None → 5 ≤ length inputs.survey.now → Median tick inputs.survey.now price → ClosedBy tick inputs price
