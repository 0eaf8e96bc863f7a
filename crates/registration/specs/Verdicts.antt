-- The verdict on a registration, with its refusals in their order. Assumes nothing.
use Rattle.std.specs.Prelude.{ℕ, Bool, cond, Some, None, Ok, Err, Option, Result, nat_le}
use Rattle.std.specs.Option.{option_map}
use Rattle.session.specs.Ranges.{within}
use Rattle.session.specs.Judgements.{price_judged, given_judged, onward, passed_as}
use Rattle.registration.specs.declared.registrations.Registration.{Registration}
use Rattle.registration.specs.declared.bands.Band.{Band}
use Rattle.registration.specs.declared.bands.Criterion.{Criterion}
use Rattle.registration.specs.declared.refusals.RegistrationRefusal.{RegistrationRefusal}
use Rattle.registration.specs.declared.refusals.RegistrationRefusal.TheVariants.{QuantityRange, AboveScarcity, OutsideBand, NoBasis}
use Rattle.registration.specs.Refusals.{Judgement, of_price}
use Rattle.registration.specs.Bands.{holds, first_band}

abbrev pub is_quantity : ℕ → Bool
is_quantity quantity = within 1000000 quantity

abbrev pub judged_quantity : ℕ → Judgement
judged_quantity quantity = cond (is_quantity quantity) (Ok tt) (Err QuantityRange)

-- a price by its range, then by the tick; an absent one passes
abbrev pub judged_price : ℕ → ℕ → Judgement
judged_price tick price = passed_as of_price (price_judged tick price)

abbrev pub judged_given : ℕ → Option ℕ → Judgement
judged_given tick price = passed_as of_price (given_judged tick price)

-- not above the scarcity price
abbrev pub judged_scarcity : ℕ → ℕ → Judgement
judged_scarcity scarcity price = cond (nat_le price scarcity) (Ok tt) (Err AboveScarcity)

-- the quantity, each price in the order named, and the scarcity price; depths are not judged
abbrev pub judged_registration : ℕ → ℕ → Registration → Judgement
judged_registration tick scarcity asked =
    onward (judged_quantity asked.quantity) (
    onward (judged_price tick asked.price) (
    onward (judged_given tick (option_map (λ best. best.price) asked.best_buy)) (
    onward (judged_given tick (option_map (λ best. best.price) asked.best_sell)) (
    onward (judged_given tick asked.last_trade) (
    onward (judged_given tick asked.reference) (
    judged_scarcity scarcity asked.price))))))

-- the first band decides
abbrev pub decided : ℕ → Option Band → Result Criterion RegistrationRefusal
decided price None = Err NoBasis
decided price (Some band) = cond (holds band price) (Ok band.criterion) (Err OutsideBand)

-- the verdict: everything is judged first
abbrev pub verdict_answer : ℕ → ℕ → Registration → Result Criterion RegistrationRefusal
verdict_answer tick scarcity asked = onward (judged_registration tick scarcity asked) (decided asked.price (first_band asked))
