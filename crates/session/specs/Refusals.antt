-- The number of each refusal of a session. Assumes nothing.
use Rattle.std.specs.Prelude.{ℕ}
use Rattle.session.specs.declared.judgements.PriceRefusal.{PriceRefusal}
use Rattle.session.specs.declared.refusals.SessionRefusal.{SessionRefusal}
use Rattle.session.specs.declared.refusals.SessionRefusal.TheVariants.{SessionRange, QuantityRange, Price, NoVolume, RegisterShort}
use Rattle.session.specs.Judgements.{price_numbered}

abbrev pub numbered : SessionRefusal → ℕ
numbered SessionRange = 3
numbered QuantityRange = 4
numbered (Price cause) = price_numbered cause
numbered NoVolume = 11
numbered RegisterShort = 12

-- a refused price, as a refusal of the session
abbrev pub of_price : PriceRefusal → SessionRefusal
of_price cause = Price cause
