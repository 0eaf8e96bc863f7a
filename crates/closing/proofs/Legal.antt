-- What is so of everything that a closing price is given, once it is judged. Assumes nothing.
use Rattle.std.proofs.Common.{◌≡◌, ℕ, ◌<◌, ◌≤◌, true, ◌&&◌, leb, List, [], ◌∷◌, length, get_or, IfSome, Some, Ok, Option, All, subst, arith}
use Rattle.std.specs.Option.{option_map}
use Rattle.std.proofs.lemmas.Bool.{and_parts, leb-true}
use Rattle.std.proofs.lemmas.List.Elements.{All-nil, All-cons, All-get_or}
use Rattle.session.specs.Judgements.{OnTick}
use Rattle.session.proofs.Judging.{within_so, both_passed, test_passed, price_on_tick, given_found}
use Rattle.ranking.specs.Runs.{in_rank}
use Rattle.ranking.specs.Surveys.{survey_before}
use Rattle.ranking.specs.declared.surveys.SurveyPrice.{SurveyPrice}
use Rattle.closing.specs.declared.inputs.PricedTrade.{PricedTrade}
use Rattle.closing.specs.declared.inputs.ClosingInputs.{ClosingInputs}
use Rattle.closing.specs.Refusals.{Judgement, of_price, judged_price, judged_given}
use Rattle.closing.specs.Judging.{is_quantity, judged_quantity, judged_trade, judged_survey, judged_each, are_lists, judged_lists, judged_inputs}
use Rattle.closing.specs.declared.judged.JudgedInputs.{JudgedInputs}

-- of a trade
pub record Sound (tick : ℕ) (trade : PricedTrade) : Type 0 where
  pub some : 1 ≤ trade.quantity
  pub few : trade.quantity ≤ 6858
  pub on_tick : OnTick tick trade.price

sound : (tick : ℕ) (trade : PricedTrade) → judged_trade tick trade ≡ Ok tt → Sound tick trade
sound tick trade is =
    let parts = both_passed (judged_quantity trade.quantity) (judged_price tick trade.price) tt is in
    let range = within_so 6858 trade.quantity (test_passed (is_quantity trade.quantity) tt tt _ parts.0).0 in
    record { some = range.0; few = range.1; on_tick = price_on_tick of_price tick trade.price parts.1 }

-- of each item of a list
each : {X : Type 0} (judged : X → Judgement) (P : X → Type 0) → ((x : X) → judged x ≡ Ok tt → P x) → (xs : List X) → judged_each judged xs ≡ Ok tt → All P xs
unfolding judged_each
each judged P tells [] is = All-nil P
each judged P tells (x ∷ xs) is =
    let parts = both_passed (judged x) (judged_each judged xs) tt is in
    All-cons P x xs (tells x parts.0) (each judged P tells xs parts.1)

pub record Legal (tick : ℕ) (inputs : ClosingInputs) : Type 0 where
  pub few_trades : length inputs.trades.now ≤ 1024
  pub few_prices : length inputs.survey.now ≤ 64
  pub ranked : in_rank survey_before inputs.survey.now ≡ true
  pub today : IfSome inputs.today (OnTick tick)
  pub last : IfSome (option_map (λ last. last.price) inputs.last) (OnTick tick)
  pub trades : All (Sound tick) inputs.trades.now
  pub buy : IfSome inputs.best_buy (OnTick tick)
  pub sell : IfSome inputs.best_sell (OnTick tick)
  pub survey : All (λ item. OnTick tick item.price) inputs.survey.now

pub legal : (tick : ℕ) (inputs : ClosingInputs) → judged_inputs tick inputs ≡ Ok tt → Legal tick inputs
legal tick inputs is =
    let a = both_passed (judged_lists inputs.trades.now inputs.survey.now) _ tt is in
    let b = both_passed (judged_given tick inputs.today) _ tt a.1 in
    let c = both_passed (judged_given tick (option_map (λ last. last.price) inputs.last)) _ tt b.1 in
    let d = both_passed (judged_each (judged_trade tick) inputs.trades.now) _ tt c.1 in
    let e = both_passed (judged_given tick inputs.best_buy) _ tt d.1 in
    let f = both_passed (judged_given tick inputs.best_sell) _ tt e.1 in
    let lists = and_parts (leb (length inputs.trades.now) 1024 && leb (length inputs.survey.now) 64) (in_rank survey_before inputs.survey.now) (test_passed (are_lists inputs.trades.now inputs.survey.now) tt tt _ a.0).0 in
    let short = and_parts (leb (length inputs.trades.now) 1024) (leb (length inputs.survey.now) 64) lists.0 in
    record {
      few_trades = leb-true (length inputs.trades.now) 1024 short.0;
      few_prices = leb-true (length inputs.survey.now) 64 short.1;
      ranked = lists.1;
      today = given_found of_price tick inputs.today b.0;
      last = given_found of_price tick (option_map (λ last. last.price) inputs.last) c.0;
      trades = each (judged_trade tick) (Sound tick) (sound tick) inputs.trades.now d.0;
      buy = given_found of_price tick inputs.best_buy e.0;
      sell = given_found of_price tick inputs.best_sell f.0;
      survey = each (judged_survey tick) (λ item. OnTick tick item.price) (λ item j. price_on_tick of_price tick item.price j) inputs.survey.now f.1;
    }

pub legal_of : (judged : JudgedInputs) → Legal judged.session.tick judged.inputs
legal_of judged = legal judged.session.tick judged.inputs judged.judged

-- a price that is there
pub given_at : (tick price : ℕ) (o : Option ℕ) → IfSome o (OnTick tick) → o ≡ Some price → OnTick tick price
given_at tick price o on there = subst (λ x. IfSome x (OnTick tick)) there on

-- a price of the survey
pub survey_high : (judged : JudgedInputs) (k price : ℕ) (d : SurveyPrice) → price ≡ (get_or judged.inputs.survey.now k d).price → k < length judged.inputs.survey.now → price ≤ 10000000
survey_high judged k price d is inside = omega (arith, is, (All-get_or (λ item. OnTick judged.session.tick item.price) judged.inputs.survey.now k d inside (legal_of judged).survey).legal.1)
