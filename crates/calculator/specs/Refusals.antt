-- The number of each refusal of a plain book. Assumes nothing.
use Rattle.std.specs.Prelude.{ℕ}
use Rattle.calculator.specs.declared.refusals.PlainRefusal.{PlainRefusal}
use Rattle.calculator.specs.declared.refusals.PlainRefusal.TheVariants.{QuantityRange, PriceRange, OffTick, UnknownOrder, CutRange, Full, NoVolume, RegisterShort}

abbrev pub numbered : PlainRefusal → ℕ
numbered QuantityRange = 4
numbered PriceRange = 5
numbered OffTick = 6
numbered UnknownOrder = 7
numbered CutRange = 8
numbered Full = 9
numbered NoVolume = 11
numbered RegisterShort = 12
