-- The number of each refusal of a contribution and of a closing price, and how prices are judged. Assumes nothing.
use Rattle.std.specs.Prelude.{ℕ, Option, Result}
use Rattle.session.specs.declared.judgements.PriceRefusal.{PriceRefusal}
use Rattle.session.specs.Judgements.{price_numbered, price_judged, given_judged, passed_as}
use Rattle.closing.specs.declared.refusals.ClosingRefusal.{ClosingRefusal}
use Rattle.closing.specs.declared.refusals.ClosingRefusal.TheVariants.{QuantityRange, Price, Full, ClosingLists, NoCriterion}

abbrev pub numbered : ClosingRefusal → ℕ
numbered QuantityRange = 4
numbered (Price cause) = price_numbered cause
numbered Full = 9
numbered ClosingLists = 17
numbered NoCriterion = 18

-- a price's refusal keeps its number
abbrev pub of_price : PriceRefusal → ClosingRefusal
of_price cause = Price cause

-- what judging answers: that it passes, or why not
abbrev pub Judgement : Type 0
Judgement = Result (Unit {0}) ClosingRefusal

-- a price is judged by its range, then by the tick
abbrev pub judged_price : ℕ → ℕ → Judgement
judged_price tick price = passed_as of_price (price_judged tick price)

-- an absent price passes
abbrev pub judged_given : ℕ → Option ℕ → Judgement
judged_given tick price = passed_as of_price (given_judged tick price)
