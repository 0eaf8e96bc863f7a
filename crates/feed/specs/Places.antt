-- Which part of a line a refusal blames. Assumes nothing.
use Rattle.std.specs.Prelude.{ℕ, Ok, Err, Result}
use Rattle.lines.specs.declared.refusals.MalformedLine.{MalformedLine}
use Rattle.book.specs.declared.refusals.BookRefusal.TheVariants.{UnknownOrder, CutRange, Full, NumbersSpent}
use Rattle.session.specs.declared.refusals.SessionRefusal.TheVariants.{SessionRange, QuantityRange, Price, NoVolume, RegisterShort}
use Rattle.trading.specs.declared.refusals.Refusal.{Refusal}
use Rattle.trading.specs.declared.refusals.Refusal.TheVariants.{Book as OfBook, Session as OfSession}
use Rattle.feed.specs.declared.faults.Cause.TheVariants.{Malformed, OutOfTurn, Refused}
use Rattle.feed.specs.declared.faults.Fault.{Fault}
use Rattle.feed.specs.declared.places.Places.{Places}

-- the first byte of the field at fault; for 9 to 12 the line's first
abbrev pub place_of : Places → Refusal → ℕ
place_of p (OfBook UnknownOrder) = p.number
place_of p (OfBook CutRange) = p.quantity
place_of p (OfBook Full) = p.start
place_of p (OfBook NumbersSpent) = p.start
place_of p (OfSession SessionRange) = p.terms
place_of p (OfSession QuantityRange) = p.quantity
place_of p (OfSession (Price cause)) = p.price
place_of p (OfSession NoVolume) = p.start
place_of p (OfSession RegisterShort) = p.start

abbrev pub refused_at : Refusal → Places → Fault
refused_at why p = record { cause = Refused why; line = p.line; place = place_of p why }

-- a line that has none of the five forms: where none goes on
abbrev pub malformed_at : MalformedLine → Places → Fault
malformed_at fault p = record { cause = Malformed; line = p.line; place = fault.place }

-- a line out of turn: its first byte
abbrev pub out_of_turn : Places → Fault
out_of_turn p = record { cause = OutOfTurn; line = p.line; place = p.start }

-- a result, whose refusal becomes the fault that it is at these places
abbrev pub placed : {X F : Type 0} → (F → Places → Fault) → Result X F → Places → Result X Fault
placed blamed (Ok x) p = Ok x
placed blamed (Err why) p = Err (blamed why p)
