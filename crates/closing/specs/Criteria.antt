-- The criteria for a closing price: each gives a price if it serves, and the first that serves gives the closing price. Assumes nothing.
use Rattle.std.specs.Prelude.{ℕ, ◌+◌, ◌-◌, ◌*◌, ◌/◌, ◌%◌, Bool, cond, ◌&&◌, List, map, sum_by, length, Some, None, Option, Result, ◌==◌, nat_le, slice_index}
use Rattle.std.specs.Option.{ok_or, option_or}
use Rattle.session.specs.Ranges.{within}
use Rattle.session.specs.Rounding.{nearest}
use Rattle.ranking.specs.declared.surveys.SurveyPrice.{SurveyPrice}
use Rattle.closing.specs.declared.inputs.PricedTrade.{PricedTrade}
use Rattle.closing.specs.declared.inputs.LastPrice.{LastPrice}
use Rattle.closing.specs.declared.inputs.ClosingInputs.{ClosingInputs}
use Rattle.closing.specs.declared.refusals.ClosingRefusal.{ClosingRefusal}
use Rattle.closing.specs.declared.refusals.ClosingRefusal.TheVariants.{NoCriterion}
use Rattle.session.specs.Judgements.{onward}
use Rattle.closing.specs.Judging.{judged_inputs}

-- 1. today's auction price, unless marked as out of the market
abbrev pub of_today : ClosingInputs → Option ℕ
of_today inputs = cond inputs.out_of_market None inputs.today

-- 2. the last closing auction's price, if it is 1 to 5 business days old, unless marked
abbrev pub of_aged : Option LastPrice → Option ℕ
of_aged None = None
of_aged (Some last) = cond (within 5 last.age) (Some last.price) None

abbrev pub of_last : ClosingInputs → Option ℕ
of_last inputs = cond inputs.out_of_market None (of_aged inputs.last)

-- what trades come to: the sum of each price times its quantity, and the sum of the quantities
abbrev pub worth_of : List PricedTrade → ℕ
worth_of trades = sum_by (λ trade. trade.price * trade.quantity) trades

abbrev pub contracts_of : List PricedTrade → ℕ
contracts_of trades = sum_by (λ trade. trade.quantity) trades

-- 3. the mean price weighted by quantity, if there are three trades or more
abbrev pub of_trades : ℕ → ClosingInputs → Option ℕ
of_trades tick inputs = cond (nat_le 3 (length inputs.trades.now)) (Some (nearest tick (worth_of inputs.trades.now) (contracts_of inputs.trades.now))) None

-- a sell that is not below the buy, and at most 5,000 above it
abbrev pub is_narrow : ℕ → ℕ → Bool
is_narrow buy sell = nat_le buy sell && nat_le (sell - buy) 5000

abbrev pub mean_of_best : ℕ → Option ℕ → Option ℕ → Option ℕ
mean_of_best tick None sell = None
mean_of_best tick (Some buy) None = None
mean_of_best tick (Some buy) (Some sell) = cond (is_narrow buy sell) (Some (nearest tick (buy + sell) 2)) None

-- 4. the mean of best buy and best sell, if these are narrow
abbrev pub of_best : ℕ → ClosingInputs → Option ℕ
of_best tick inputs = mean_of_best tick inputs.best_buy inputs.best_sell

-- the price at a place of the survey, counted from 0
abbrev pub price_at : List SurveyPrice → ℕ → ℕ
price_at survey k = slice_index (map (λ item. item.price) survey) k

-- the price in the middle; of an even count, the mean of the two in the middle
abbrev pub median : ℕ → List SurveyPrice → ℕ → ℕ
median tick survey count = cond (count % 2 == 1) (price_at survey (count / 2)) (nearest tick (price_at survey (count / 2 - 1) + price_at survey (count / 2)) 2)

-- 5. the median of five survey prices or more
abbrev pub of_survey : ℕ → ClosingInputs → Option ℕ
of_survey tick inputs = cond (nat_le 5 (length inputs.survey.now)) (Some (median tick inputs.survey.now (length inputs.survey.now))) None

-- the price of the first criterion that serves: one that does not leaves it to the next
abbrev pub first_price : ℕ → ClosingInputs → Option ℕ
first_price tick inputs =
    option_or (of_today inputs) (
    option_or (of_last inputs) (
    option_or (of_trades tick inputs) (
    option_or (of_best tick inputs) (
    of_survey tick inputs))))

-- the closing price: everything is judged first, and refused at the end if no criterion serves
abbrev pub closing_answer : ℕ → ClosingInputs → Result ℕ ClosingRefusal
closing_answer tick inputs = onward (judged_inputs tick inputs) (ok_or (first_price tick inputs) NoCriterion)
