-- The number of each refusal of a registration. Assumes nothing.
use Rattle.std.specs.Prelude.{ℕ, Result}
use Rattle.session.specs.declared.judgements.PriceRefusal.{PriceRefusal}
use Rattle.session.specs.Judgements.{price_numbered}
use Rattle.registration.specs.declared.refusals.RegistrationRefusal.{RegistrationRefusal}
use Rattle.registration.specs.declared.refusals.RegistrationRefusal.TheVariants.{QuantityRange, Price, AboveScarcity, OutsideBand, NoBasis}

abbrev pub numbered : RegistrationRefusal → ℕ
numbered QuantityRange = 4
numbered (Price cause) = price_numbered cause
numbered AboveScarcity = 19
numbered OutsideBand = 20
numbered NoBasis = 21

-- a price's refusal keeps its number
abbrev pub of_price : PriceRefusal → RegistrationRefusal
of_price cause = Price cause

-- what judging answers: that it passes, or why not
abbrev pub Judgement : Type 0
Judgement = Result (Unit {0}) RegistrationRefusal
