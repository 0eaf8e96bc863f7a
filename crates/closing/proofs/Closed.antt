-- The price of the first criterion that serves, by what that criterion says of it. Assumes nothing.
use Rattle.std.proofs.Common.{◌≡◌, ℕ, suc, ◌+◌, ◌-◌, ◌*◌, ◌/◌, ◌%◌, ◌<◌, ◌≤◌, Bool, true, false, cond, eqb, leb, length, IfOk, Some, None, Ok, Option, Result, sym, refl, ap, ◌∙◌, subst, ⊎_elim, arith}
use Rattle.std.specs.Option.{ok_or, option_map, option_or}
use Rattle.std.proofs.lemmas.Option.{cond_some}
use Rattle.std.proofs.lemmas.List.Elements.{All-weaker, All-get_or, All-map}
use Rattle.std.proofs.lemmas.List.{length-map}
use Rattle.std.proofs.lemmas.Result.{IfOk-weaker}
use Rattle.std.proofs.lemmas.Bool.{and_parts, leb-true, leb-false, eqb-true, eqb-false, cases_Bool}
use Rattle.session.specs.Judgements.{OnTick}
use Rattle.session.specs.Ranges.{within}
use Rattle.session.proofs.Judging.{within_so}
use Rattle.session.specs.Rounding.{Nearest, nearest}
use Rattle.ranking.specs.declared.surveys.SurveyPrice.{SurveyPrice}
use Rattle.closing.specs.declared.inputs.LastPrice.{LastPrice}
use Rattle.closing.specs.declared.inputs.ClosingInputs.{ClosingInputs}
use Rattle.closing.specs.declared.refusals.ClosingRefusal.{ClosingRefusal}
use Rattle.closing.specs.declared.refusals.ClosingRefusal.TheVariants.{NoCriterion}
use Rattle.closing.specs.Judging.{judged_inputs}
use Rattle.closing.specs.Criteria.{worth_of, contracts_of, of_today, of_aged, of_last, of_trades, is_narrow, mean_of_best, of_best, price_at, median, of_survey, first_price}
use Rattle.closing.specs.Grounds.{Halves, lower_middle, upper_middle, ClosedBy, by_today, by_last, by_trades, by_best, by_survey}
use Rattle.closing.proofs.Legal.{Legal, Sound, legal, given_at}
use Rattle.closing.proofs.Totals.{legal_fit, worth_above, worth_below}
use Rattle.closing.proofs.Between.{near, top, in_bounds, not_above, not_below, mean_on_tick}
use Rattle.closing.proofs.Halving.{ascends, halves_at, halves_between}

-- a test that gives no price, or what else is there
unmarked : (t : Bool) (o : Option ℕ) (price : ℕ) → cond t None o ≡ Some price → (t ≡ false) × (o ≡ Some price)
unmarked true o price is = absurd cc
unmarked false o price is = (refl, is)

passed_over : (t : Bool) (price : ℕ) → ◌≡◌ {A = Option ℕ} (cond t (Some price) None) None → t ≡ false
passed_over true price is = absurd cc
passed_over false price is = refl

-- a last price that serves
record Aged (o : Option LastPrice) (price : ℕ) : Type 0 where
  age : ℕ
  some : 1 ≤ age
  few : age ≤ 5
  there : o ≡ Some (record { price = price; age = age })

aged : (o : Option LastPrice) (price : ℕ) → of_aged o ≡ Some price → Aged o price
aged None price is = absurd cc
aged (Some last) price is =
    let told = cond_some (within 5 last.age) last.price price is in
    let range = within_so 5 last.age told.0 in
    record { age = last.age; some = range.0; few = range.1; there = subst (λ p. Some last ≡ Some (record { price = p; age = last.age })) told.1 refl }

-- best buy and best sell that give a price
record Narrow (tick : ℕ) (b s : Option ℕ) (price : ℕ) : Type 0 where
  buy : ℕ
  sell : ℕ
  is_buy : b ≡ Some buy
  is_sell : s ≡ Some sell
  up : buy ≤ sell
  few : sell ≤ buy + 5000
  mean : nearest tick (buy + sell) 2 ≡ price

narrow : (tick : ℕ) (b s : Option ℕ) (price : ℕ) → mean_of_best tick b s ≡ Some price → Narrow tick b s price
narrow tick None s price is = absurd cc
narrow tick (Some buy) None price is = absurd cc
narrow tick (Some buy) (Some sell) price is =
    let told = cond_some (is_narrow buy sell) (nearest tick (buy + sell) 2) price is in
    let both = and_parts (leb buy sell) (leb (sell - buy) 5000) told.0 in
    record { buy = buy; sell = sell; is_buy = refl; is_sell = refl; up = leb-true buy sell both.0; few = omega (arith, leb-true buy sell both.0, leb-true (sell - buy) 5000 both.1); mean = told.1 }

-- the nearest multiple to a mean of two prices
module _ (tick lower upper price : ℕ) (some : 1 ≤ tick) (few : tick ≤ 1000) (low : OnTick tick lower) (high : OnTick tick upper) (is : nearest tick (lower + upper) 2 ≡ price) where
  pub near_two : Nearest tick (lower + upper) 2 price
  near_two = subst (λ p. Nearest tick (lower + upper) 2 p) is (near tick (lower + upper) 2 some (omega arith))

  pub two_on_tick : OnTick tick price
  two_on_tick =
      let a = in_bounds tick lower some low in
      let b = in_bounds tick upper some high in
      mean_on_tick tick (lower + upper) 2 price some (omega arith) near_two (omega (arith, a.0, b.0)) (omega (arith, a.1, b.1))

  pub two_between : lower ≤ upper → (lower ≤ price) × (price ≤ upper)
  two_between up =
      (omega (arith, low.exact, not_below tick (lower + upper) 2 price some (omega arith) near_two low.ticks (omega (arith, low.exact, up))), omega (arith, high.exact, not_above tick (lower + upper) 2 price some (omega arith) near_two high.ticks (omega (arith, high.exact, up))))

module _ (tick : ℕ) (inputs : ClosingInputs) (some : 1 ≤ tick) (few : tick ≤ 1000) (legal : Legal tick inputs) (price : ℕ) where
  -- a price with its grounds
  abbrev Found : Type 0
  Found = ClosedBy tick inputs price × OnTick tick price

  found_today : of_today inputs ≡ Some price → Found
  found_today is =
      let told = unmarked inputs.out_of_market inputs.today price is in
      (by_today told.0 told.1, given_at tick price inputs.today legal.today told.1)

  module _ (not_today : of_today inputs ≡ None) where
    found_last : of_last inputs ≡ Some price → Found
    found_last is =
        let told = unmarked inputs.out_of_market _ price is in
        let last = aged inputs.last price told.1 in
        (by_last not_today told.0 last.age last.some last.few last.there, given_at tick price _ legal.last (ap (option_map (λ x. x.price)) last.there))

    module _ (not_last : of_last inputs ≡ None) where
      found_trades : of_trades tick inputs ≡ Some price → Found
      found_trades is =
          let trades = inputs.trades.now in
          let fit = legal_fit tick inputs legal in
          let told = cond_some (leb 3 (length trades)) (nearest tick (worth_of trades) (contracts_of trades)) price is in
          let three = leb-true 3 (length trades) told.0 in
          let close = subst (λ p. Nearest tick (worth_of trades) (contracts_of trades) p) told.1 (near tick (worth_of trades) (contracts_of trades) some (omega (arith, three, fit.some))) in
          let low = worth_above (1 * tick) trades (All-weaker (Sound tick) (λ trade. 1 * tick ≤ trade.price) (λ trade sound. (in_bounds tick trade.price some sound.on_tick).0) trades legal.trades) in
          let high = worth_below (top tick * tick) trades (All-weaker (Sound tick) (λ trade. trade.price ≤ top tick * tick) (λ trade sound. (in_bounds tick trade.price some sound.on_tick).1) trades legal.trades) in
          (by_trades not_today not_last three (record { low = λ least all. worth_above least trades all; high = λ most all. worth_below most trades all; near = close }), mean_on_tick tick (worth_of trades) (contracts_of trades) price some (omega (arith, three, fit.some)) close low high)

      module _ (not_trades : of_trades tick inputs ≡ None) where
        two : length inputs.trades.now < 3
        two = leb-false 3 (length inputs.trades.now) (passed_over (leb 3 (length inputs.trades.now)) _ not_trades)

        found_best : of_best tick inputs ≡ Some price → Found
        found_best is =
            let told = narrow tick inputs.best_buy inputs.best_sell price is in
            let buy = given_at tick told.buy inputs.best_buy legal.buy told.is_buy in
            let sell = given_at tick told.sell inputs.best_sell legal.sell told.is_sell in
            (by_best not_today not_last two told.buy told.sell told.is_buy told.is_sell told.up told.few (near_two tick told.buy told.sell price some few buy sell told.mean), two_on_tick tick told.buy told.sell price some few buy sell told.mean)

        module _ (not_best : of_best tick inputs ≡ None) (five : 5 ≤ length inputs.survey.now) where
          on_at : (k : ℕ) → k < length inputs.survey.now → OnTick tick (price_at inputs.survey.now k)
          on_at k inside = All-get_or (OnTick tick) _ k 0 (omega (arith, length-map inputs.survey.now (λ (item : SurveyPrice). item.price))) (All-map (OnTick tick) (λ (item : SurveyPrice). item.price) inputs.survey.now legal.survey)

          -- an odd count has one price in the middle
          found_middle : length inputs.survey.now % 2 ≡ 1 → price_at inputs.survey.now (length inputs.survey.now / 2) ≡ price → Found
          found_middle odd is =
              let survey = inputs.survey.now in
              let on = subst (OnTick tick) is (on_at (length survey / 2) (omega arith)) in
              let one : lower_middle survey ≡ upper_middle survey = let same : (length survey - 1) / 2 ≡ length survey / 2 = omega arith in ap (price_at survey) same in
              let of_upper = halves_at survey (length survey / 2) legal.ranked (omega arith) (omega arith) (omega arith) in
              let near : Nearest tick (lower_middle survey + upper_middle survey) 2 price = record { multiples = on.ticks; multiple = on.exact; below = omega (arith, one, is); above = omega (arith, one, is) } in
              (by_survey not_today not_last two not_best five (record { of_lower = subst (Halves survey) (sym one) of_upper; of_upper = of_upper; near = near; of_price = subst (Halves survey) is of_upper }), on)

          -- an even count has two
          found_mean : (length inputs.survey.now % 2 ≡ 1 → ⊥) → nearest tick (price_at inputs.survey.now (length inputs.survey.now / 2 - 1) + price_at inputs.survey.now (length inputs.survey.now / 2)) 2 ≡ price → Found
          found_mean even is =
              let survey = inputs.survey.now in
              let at = length survey / 2 - 1 in
              let next : suc at ≡ length survey / 2 = omega arith in
              let lower = price_at survey at in
              let upper = price_at survey (length survey / 2) in
              let low = on_at at (omega arith) in
              let high = on_at (length survey / 2) (omega arith) in
              let up : lower ≤ upper = subst (λ k. lower ≤ price_at survey k) next (ascends survey at legal.ranked (omega arith)) in
              let of_low = halves_at survey at legal.ranked (omega arith) (omega arith) (omega arith) in
              let of_high = halves_at survey (length survey / 2) legal.ranked (omega arith) (omega arith) (omega arith) in
              let between = two_between tick lower upper price some few low high is up in
              let first : lower ≡ lower_middle survey = let same : at ≡ (length survey - 1) / 2 = omega arith in ap (price_at survey) same in
              let near = subst (λ x. Nearest tick (x + upper) 2 price) first (near_two tick lower upper price some few low high is) in
              (by_survey not_today not_last two not_best five (record { of_lower = subst (Halves survey) first of_low; of_upper = of_high; near = near; of_price = halves_between survey lower upper price of_low of_high between.0 between.1 }), two_on_tick tick lower upper price some few low high is)

        found_survey : of_best tick inputs ≡ None → of_survey tick inputs ≡ Some price → Found
        found_survey not_best is =
            let survey = inputs.survey.now in
            let told = cond_some (leb 5 (length survey)) (median tick survey (length survey)) price is in
            let five = leb-true 5 (length survey) told.0 in
            ⊎_elim
            (λ t. found_middle not_best five (eqb-true (length survey % 2) 1 t) (sym (ap (λ b. cond b (price_at survey (length survey / 2)) (nearest tick (price_at survey (length survey / 2 - 1) + price_at survey (length survey / 2)) 2)) t) ∙ told.1))
            (λ f. found_mean not_best five (eqb-false (length survey % 2) 1 f) (sym (ap (λ b. cond b (price_at survey (length survey / 2)) (nearest tick (price_at survey (length survey / 2 - 1) + price_at survey (length survey / 2)) 2)) f) ∙ told.1))
            (cases_Bool (eqb (length survey % 2) 1))

  -- the first of the five that is a price
  found_among : (a b c d e : Option ℕ) → of_today inputs ≡ a → of_last inputs ≡ b → of_trades tick inputs ≡ c → of_best tick inputs ≡ d → of_survey tick inputs ≡ e → option_or a (option_or b (option_or c (option_or d e))) ≡ Some price → Found
  found_among (Some x) b c d e ia ib ic id ie is = found_today (ia ∙ is)
  found_among None (Some x) c d e ia ib ic id ie is = found_last ia (ib ∙ is)
  found_among None None (Some x) d e ia ib ic id ie is = found_trades ia ib (ic ∙ is)
  found_among None None None (Some x) e ia ib ic id ie is = found_best ia ib ic (id ∙ is)
  found_among None None None None e ia ib ic id ie is = found_survey ia ib ic id (ie ∙ is)

  pub closed : first_price tick inputs ≡ Some price → ClosedBy tick inputs price × OnTick tick price
  closed is = found_among (of_today inputs) (of_last inputs) (of_trades tick inputs) (of_best tick inputs) (of_survey tick inputs) refl refl refl refl refl is

-- what is answered if everything passed
module _ (tick : ℕ) (inputs : ClosingInputs) (some : 1 ≤ tick) (few : tick ≤ 1000) (passed : Ok tt ≡ judged_inputs tick inputs) where
  grounded : (o : Option ℕ) → first_price tick inputs ≡ o → IfOk (ok_or o NoCriterion) (λ price. ClosedBy tick inputs price × OnTick tick price)
  grounded None is = tt
  grounded (Some price) is = closed tick inputs some few (legal tick inputs (sym passed)) price is

  module _ (r : Result ℕ ClosingRefusal) (is : r ≡ ok_or (first_price tick inputs) NoCriterion) where
    both : IfOk r (λ price. ClosedBy tick inputs price × OnTick tick price)
    both = subst (λ v. IfOk v (λ price. ClosedBy tick inputs price × OnTick tick price)) (sym is) (grounded (first_price tick inputs) refl)

    pub grounds : IfOk r (λ price. ClosedBy tick inputs price)
    grounds = IfOk-weaker r _ (λ price. ClosedBy tick inputs price) (λ price told. told.0) both

    pub priced : IfOk r (λ price. OnTick tick price)
    priced = IfOk-weaker r _ (λ price. OnTick tick price) (λ price told. told.1) both
