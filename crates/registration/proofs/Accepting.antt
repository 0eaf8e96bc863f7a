-- A registration is accepted by a criterion exactly if it is legal, not above the scarcity price, and in the band of the first criterion that applies. Assumes nothing.
use Rattle.std.proofs.Common.{◌≡◌, ℕ, ◌*◌, ◌≤◌, min, cond, leb, IfSome, Some, None, Ok, Err, Option, Result, sym, refl, ap, ◌∙◌, subst, arith}
use Rattle.std.specs.Option.{option_map, option_or}
use Rattle.std.proofs.lemmas.Option.{cond_some}
use Rattle.session.specs.Judgements.{OnTick}
use Rattle.std.proofs.lemmas.Bool.{and_parts, and_from, leb-true, le-leb}
use Rattle.session.proofs.Judging.{within_so, so_within, both_passed, passed_both, test_passed, price_on_tick, on_tick_passes, given_found, found_given}
use Rattle.registration.specs.declared.registrations.BestPrice.{BestPrice}
use Rattle.registration.specs.declared.registrations.Registration.{Registration}
use Rattle.registration.specs.declared.bands.Band.{Band}
use Rattle.registration.specs.declared.bands.Criterion.{Criterion}
use Rattle.registration.specs.declared.bands.Criterion.TheVariants.{BestPrices, LastTrade, Reference}
use Rattle.registration.specs.declared.refusals.RegistrationRefusal.{RegistrationRefusal}
use Rattle.registration.specs.declared.refusals.RegistrationRefusal.TheVariants.{QuantityRange, AboveScarcity, OutsideBand}
use Rattle.registration.specs.Refusals.{of_price}
use Rattle.registration.specs.Bands.{holds, around, between, band_of_best, best_band, first_band}
use Rattle.registration.specs.Verdicts.{is_quantity, judged_quantity, judged_price, judged_given, judged_registration, decided, verdict_answer}
use Rattle.registration.specs.Acceptance.{Legal, Deep, NotDeep, Within, Accepted, Exactly}

-- What holds of a part of a value that may be absent.
module _ {X : Type 0} (part : X → ℕ) (P : ℕ → Type 0) where
  found_at : (o : Option X) → IfSome (option_map part o) P → IfSome o (λ x. P (part x))
  found_at None h = tt
  found_at (Some x) h = h

  at_found : (o : Option X) → IfSome o (λ x. P (part x)) → IfSome (option_map part o) P
  at_found None h = tt
  at_found (Some x) h = h

-- What is judged, and what is legal.
module _ (tick scarcity : ℕ) (asked : Registration) where
  legal_from : judged_registration tick scarcity asked ≡ Ok tt → Legal tick scarcity asked
  legal_from is =
      let a = both_passed (judged_quantity asked.quantity) _ tt is in
      let b = both_passed (judged_price tick asked.price) _ tt a.1 in
      let c = both_passed (judged_given tick (option_map (λ best. best.price) asked.best_buy)) _ tt b.1 in
      let d = both_passed (judged_given tick (option_map (λ best. best.price) asked.best_sell)) _ tt c.1 in
      let e = both_passed (judged_given tick asked.last_trade) _ tt d.1 in
      let f = both_passed (judged_given tick asked.reference) _ tt e.1 in
      let range = within_so 1000000 asked.quantity (test_passed (is_quantity asked.quantity) tt tt QuantityRange a.0).0 in
      record {
        some = range.0;
        few = range.1;
        price = price_on_tick of_price tick asked.price b.0;
        buy = found_at (λ best. best.price) (OnTick tick) asked.best_buy (given_found of_price tick _ c.0);
        sell = found_at (λ best. best.price) (OnTick tick) asked.best_sell (given_found of_price tick _ d.0);
        last = given_found of_price tick asked.last_trade e.0;
        reference = given_found of_price tick asked.reference f.0;
        capped = leb-true asked.price scarcity (test_passed (leb asked.price scarcity) tt tt AboveScarcity f.1).0;
      }

  from_legal : Legal tick scarcity asked → judged_registration tick scarcity asked ≡ Ok tt
  from_legal legal =
      passed_both (judged_quantity asked.quantity) _ tt (ap (λ t. cond t (Ok tt) (Err QuantityRange)) (so_within 1000000 asked.quantity (legal.some, legal.few)))
      (passed_both (judged_price tick asked.price) _ tt (on_tick_passes of_price tick asked.price legal.price)
      (passed_both (judged_given tick (option_map (λ best. best.price) asked.best_buy)) _ tt (found_given of_price tick _ (at_found (λ best. best.price) (OnTick tick) asked.best_buy legal.buy))
      (passed_both (judged_given tick (option_map (λ best. best.price) asked.best_sell)) _ tt (found_given of_price tick _ (at_found (λ best. best.price) (OnTick tick) asked.best_sell legal.sell))
      (passed_both (judged_given tick asked.last_trade) _ tt (found_given of_price tick asked.last_trade legal.last)
      (passed_both (judged_given tick asked.reference) _ tt (found_given of_price tick asked.reference legal.reference)
      (ap (λ t. cond t (Ok tt) (Err AboveScarcity)) (le-leb asked.price scarcity legal.capped)))))))

-- What a band decides.
module _ (band : Band) (price : ℕ) where
  in_band : (criterion : Criterion) → decided price (Some band) ≡ Ok criterion → (band.low ≤ price * 100) × (price * 100 ≤ band.high) × (band.criterion ≡ criterion)
  in_band criterion is =
      let told = test_passed (holds band price) band.criterion criterion OutsideBand is in
      let both = and_parts (leb band.low (price * 100)) (leb (price * 100) band.high) told.0 in
      (leb-true band.low (price * 100) both.0, leb-true (price * 100) band.high both.1, cc told.1)

  from_band : band.low ≤ price * 100 → price * 100 ≤ band.high → decided price (Some band) ≡ Ok band.criterion
  from_band low high = ap (λ t. cond t (Ok band.criterion) (Err OutsideBand)) (and_from (leb band.low (price * 100)) (leb (price * 100) band.high) (le-leb band.low (price * 100) low) (le-leb (price * 100) band.high high))

-- The best prices.
module _ (asked : Registration) where
  -- a band of the best prices is drawn by two that are deep enough
  record Drawn (b s : Option BestPrice) (band : Band) : Type 0 where
    buy : BestPrice
    sell : BestPrice
    is_buy : b ≡ Some buy
    is_sell : s ≡ Some sell
    deep : asked.quantity ≤ min buy.depth sell.depth
    is : between buy.price sell.price ≡ band

  drawn : (b s : Option BestPrice) (band : Band) → band_of_best asked.quantity b s ≡ Some band → Drawn b s band
  drawn None s band is = absurd cc
  drawn (Some buy) None band is = absurd cc
  drawn (Some buy) (Some sell) band is =
      let depth = min buy.depth sell.depth in
      let told = cond_some (leb asked.quantity depth) (between buy.price sell.price) band is in
      record { buy = buy; sell = sell; is_buy = refl; is_sell = refl; deep = leb-true asked.quantity depth told.0; is = told.1 }

  is_deep : (buy sell : BestPrice) → Deep asked buy sell → best_band asked ≡ Some (between buy.price sell.price)
  is_deep buy sell deep = rw (deep.is_buy, deep.is_sell) (ap (λ t. cond t (Some (between buy.price sell.price)) None) (le-leb asked.quantity (min buy.depth sell.depth) (omega (arith, deep.buys, deep.sells))))

  deep_from : (band : Band) → best_band asked ≡ Some band → (buy : BestPrice) × (sell : BestPrice) × Deep asked buy sell × (between buy.price sell.price ≡ band)
  deep_from band is =
      let told = drawn asked.best_buy asked.best_sell band is in
      (told.buy, told.sell, record { is_buy = told.is_buy; is_sell = told.is_sell; buys = omega (arith, told.deep); sells = omega (arith, told.deep) }, told.is)

  not_deep : best_band asked ≡ None → NotDeep asked
  not_deep none buy sell deep = let there = is_deep buy sell deep in cc

  none_best : NotDeep asked → (a : Option Band) → best_band asked ≡ a → best_band asked ≡ None
  none_best shallow None is = is
  none_best shallow (Some band) is = let deep = deep_from band is in absurd (shallow deep.0 deep.1 deep.2)

  -- the first of the three that is a band decides
  abbrev choice : Option Band → Option ℕ → Option ℕ → Result Criterion RegistrationRefusal
  choice best last reference = decided asked.price (option_or best (option_or (option_map (around LastTrade) last) (option_map (around Reference) reference)))

  within_from : (criterion : Criterion) (a : Option Band) (l r : Option ℕ) → best_band asked ≡ a → asked.last_trade ≡ l → asked.reference ≡ r → choice a l r ≡ Ok criterion → Within asked criterion
  within_from criterion (Some band) l r ia il ir is =
      let deep = deep_from band ia in
      let told = in_band (between deep.0.price deep.1.price) asked.price criterion (ap (λ x. decided asked.price (Some x)) deep.3 ∙ is) in
      subst (Within asked) told.2 (deep.0, deep.1, deep.2, told.0, told.1)
  within_from criterion None (Some last) r ia il ir is =
      let told = in_band (around LastTrade last) asked.price criterion is in
      subst (Within asked) told.2 (last, not_deep ia, il, (told.0, told.1))
  within_from criterion None None (Some reference) ia il ir is =
      let told = in_band (around Reference reference) asked.price criterion is in
      subst (Within asked) told.2 (reference, not_deep ia, il, ir, (told.0, told.1))
  within_from criterion None None None ia il ir is = absurd cc

  from_within : (criterion : Criterion) → Within asked criterion → decided asked.price (first_band asked) ≡ Ok criterion
  from_within BestPrices w = ap (λ a. choice a asked.last_trade asked.reference) (is_deep w.0 w.1 w.2) ∙ from_band (between w.0.price w.1.price) asked.price w.3 w.4
  from_within LastTrade w =
      ap (λ a. choice a asked.last_trade asked.reference) (none_best w.1 (best_band asked) refl) ∙ ap (λ l. choice None l asked.reference) w.2 ∙ from_band (around LastTrade w.0) asked.price w.3.0 w.3.1
  from_within Reference w =
      ap (λ a. choice a asked.last_trade asked.reference) (none_best w.1 (best_band asked) refl) ∙ ap (λ l. choice None l asked.reference) w.2 ∙ ap (λ r. choice None None r) w.3 ∙ from_band (around Reference w.0) asked.price w.4.0 w.4.1

-- Accepted if it is so, and only then.
module _ (tick scarcity : ℕ) (asked : Registration) (criterion : Criterion) where
  accepted_from : verdict_answer tick scarcity asked ≡ Ok criterion → Accepted tick scarcity asked criterion
  accepted_from is =
      let parts = both_passed (judged_registration tick scarcity asked) _ criterion is in
      record { legal = legal_from tick scarcity asked parts.0; within = within_from asked criterion (best_band asked) asked.last_trade asked.reference refl refl refl parts.1 }

  from_accepted : Accepted tick scarcity asked criterion → verdict_answer tick scarcity asked ≡ Ok criterion
  from_accepted accepted = passed_both (judged_registration tick scarcity asked) _ criterion (from_legal tick scarcity asked accepted.legal) (from_within asked criterion accepted.within)

pub exact : (tick scarcity : ℕ) (asked : Registration) (r : Result Criterion RegistrationRefusal) → r ≡ verdict_answer tick scarcity asked → Exactly tick scarcity asked r
exact tick scarcity asked r is criterion = (λ ok. accepted_from tick scarcity asked criterion (sym is ∙ ok), λ accepted. is ∙ from_accepted tick scarcity asked criterion accepted)
