-- What a closing price refuses: the lists, then each item in the order named. Assumes nothing.
use Rattle.std.specs.Prelude.{ℕ, Bool, cond, ◌&&◌, List, [], ◌∷◌, length, Ok, Err, nat_le}
use Rattle.std.specs.Option.{option_map}
use Rattle.ranking.specs.declared.surveys.SurveyPrice.{SurveyPrice}
use Rattle.ranking.specs.Runs.{in_rank}
use Rattle.ranking.specs.Surveys.{survey_before}
use Rattle.closing.specs.declared.inputs.PricedTrade.{PricedTrade}
use Rattle.closing.specs.declared.inputs.ClosingInputs.{ClosingInputs}
use Rattle.closing.specs.declared.refusals.ClosingRefusal.TheVariants.{QuantityRange, ClosingLists}
use Rattle.session.specs.Ranges.{within}
use Rattle.session.specs.Judgements.{onward}
use Rattle.closing.specs.Refusals.{Judgement, judged_price, judged_given}

-- a trade's contracts
abbrev pub is_quantity : ℕ → Bool
is_quantity quantity = within 6858 quantity

abbrev pub judged_quantity : ℕ → Judgement
judged_quantity quantity = cond (is_quantity quantity) (Ok tt) (Err QuantityRange)

-- a trade: its quantity, then its price
abbrev pub judged_trade : ℕ → PricedTrade → Judgement
judged_trade tick trade = onward (judged_quantity trade.quantity) (judged_price tick trade.price)

abbrev pub judged_survey : ℕ → SurveyPrice → Judgement
judged_survey tick item = judged_price tick item.price

-- each item of a list in turn
unfoldable pub judged_each : {X : Type 0} → (X → Judgement) → List X → Judgement
judged_each judged [] = Ok tt
judged_each judged (x ∷ xs) = onward (judged x) (judged_each judged xs)

-- lists that are short enough, and a survey in rank
abbrev pub are_lists : List PricedTrade → List SurveyPrice → Bool
are_lists trades survey = nat_le (length trades) 1024 && nat_le (length survey) 64 && in_rank survey_before survey

abbrev pub judged_lists : List PricedTrade → List SurveyPrice → Judgement
judged_lists trades survey = cond (are_lists trades survey) (Ok tt) (Err ClosingLists)

-- the lists, and then each item in the order named, whether a criterion uses it or not
abbrev pub judged_inputs : ℕ → ClosingInputs → Judgement
judged_inputs tick inputs =
    onward (judged_lists inputs.trades.now inputs.survey.now) (
    onward (judged_given tick inputs.today) (
    onward (judged_given tick (option_map (λ last. last.price) inputs.last)) (
    onward (judged_each (judged_trade tick) inputs.trades.now) (
    onward (judged_given tick inputs.best_buy) (
    onward (judged_given tick inputs.best_sell) (
    judged_each (judged_survey tick) inputs.survey.now))))))
