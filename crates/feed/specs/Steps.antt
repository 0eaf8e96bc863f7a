-- What each line of a feed asks for, or why it is at fault. Assumes nothing.
use Rattle.std.specs.Prelude.{◌≡◌, ℕ, ◌+◌, Bool, true, false, cond, not, ◌&&◌, List, [], ◌∷◌, length, Some, None, Ok, Err, Option, Result}
use Rattle.lines.specs.declared.fields.Field.{Field}
use Rattle.lines.specs.declared.kinds.Line.{Line}
use Rattle.lines.specs.declared.kinds.Line.TheVariants.{Opening as LineOpening, Entry as LineEntry, Cut as LineCut, Withdrawal as LineWithdrawal, Uncrossing as LineUncrossing}
use Rattle.lines.specs.declared.refusals.MalformedLine.{MalformedLine}
use Rattle.lines.specs.Digits.{value as decimal}
use Rattle.lines.specs.Forms.{Legal}
use Rattle.lines.specs.Reading.{message, next_start, Answered}
use Rattle.session.specs.declared.sessions.Session.{Session}
use Rattle.session.specs.declared.refusals.SessionRefusal.TheVariants.{SessionRange}
use Rattle.session.specs.Ranges.{is_tick, is_price}
use Rattle.trading.specs.declared.calls.Call.{Call}
use Rattle.trading.specs.declared.calls.Call.TheVariants.{Entry, Cut, Withdrawal, Uncrossing}
use Rattle.trading.specs.declared.refusals.Refusal.{Refusal}
use Rattle.trading.specs.declared.refusals.Refusal.TheVariants.{Session as OfSession}
use Rattle.feed.specs.declared.faults.Fault.{Fault}
use Rattle.feed.specs.declared.places.Places.{Places}
use Rattle.feed.specs.declared.steps.Step.{Step}
use Rattle.feed.specs.declared.steps.Step.TheVariants.{Opening, Asking}
use Rattle.feed.specs.Places.{refused_at, malformed_at, out_of_turn}

-- Lines, as they are read.

-- a line: its first byte, and what it says or where it is malformed
pub record Read : Type 0 where
  pub start : ℕ
  pub said : Result Line MalformedLine

-- from a position on, the lines are read one after another up to the feed's end
abbrev pub Reads : List ℕ → ℕ → List Read → Type 0
Reads feed from [] = from ≡ length feed
Reads feed from (l ∷ ls) =
    (l.start ≡ from) × Answered feed from (Some l.said) (next_start feed from) × Reads feed (next_start feed from) ls

-- the numbers of a line that is handed out are numbers
abbrev pub Lawful : Result Line MalformedLine → Type 0
Lawful (Ok line) = Legal (message line)
Lawful (Err fault) = Unit {0}

-- Terms and calls.

-- the tick and the scarcity price of the session that is open
pub record Terms : Type 0 where
  pub tick : ℕ
  pub scarcity : ℕ

abbrev pub terms_of : Option Session → Option Terms
terms_of None = None
terms_of (Some s) = Some (record { tick = s.tick; scarcity = s.scarcity })

abbrev pub number : Field → ℕ
number f = decimal f.text.now

-- the tick if that is out of range, else the scarcity price
abbrev pub terms_place : Field → Field → ℕ
terms_place tick scarcity = cond (is_tick (number tick)) scarcity.place tick.place

-- where the parts of a line stand; a part that it has not, at its first byte
abbrev pub at_start : ℕ → ℕ → Places
at_start n start = record { line = n; start = start; terms = start; number = start; quantity = start; price = start }

abbrev pub places_of : ℕ → ℕ → Line → Places
places_of n start (LineOpening tick scarcity) =
    record { line = n; start = start; terms = terms_place tick scarcity; number = start; quantity = start; price = start }
places_of n start (LineEntry side quantity price) =
    record { line = n; start = start; terms = start; number = start; quantity = quantity.place; price = price.place }
places_of n start (LineCut number quantity) =
    record { line = n; start = start; terms = start; number = number.place; quantity = quantity.place; price = start }
places_of n start (LineWithdrawal number) =
    record { line = n; start = start; terms = start; number = number.place; quantity = start; price = start }
places_of n start LineUncrossing = at_start n start

-- Judging.

-- an opening: out of turn after an accepted one, then refused if a number is out of range
abbrev pub opening_judged : Option Terms → Places → ℕ → ℕ → Result Step Fault
opening_judged (Some t) p tick scarcity = Err (out_of_turn p)
opening_judged None p tick scarcity =
    cond (is_tick tick && is_price scarcity) (Ok Opening) (Err (refused_at (OfSession SessionRange) p))

-- the session afterwards: the first that is accepted stays
abbrev pub opened : Option Terms → ℕ → ℕ → Option Terms
opened (Some t) tick scarcity = Some t
opened None tick scarcity = cond (is_tick tick && is_price scarcity) (Some (record { tick = tick; scarcity = scarcity })) None

-- any other message: out of turn before an accepted opening
abbrev pub call_judged : Option Terms → Places → Call → Result Step Fault
call_judged None p c = Err (out_of_turn p)
call_judged (Some t) p c = Ok (Asking c p)

abbrev pub line_judged : Option Terms → Places → Line → Result Step Fault
line_judged t p (LineOpening tick scarcity) = opening_judged t p (number tick) (number scarcity)
line_judged t p (LineEntry side quantity price) = call_judged t p (Entry side (number quantity) (number price))
line_judged t p (LineCut order quantity) = call_judged t p (Cut (number order) (number quantity))
line_judged t p (LineWithdrawal order) = call_judged t p (Withdrawal (number order))
line_judged t p LineUncrossing = call_judged t p Uncrossing

-- the n-th line
abbrev pub judged : Option Terms → ℕ → ℕ → Result Line MalformedLine → Result Step Fault
judged t n start (Err fault) = Err (malformed_at fault (at_start n start))
judged t n start (Ok line) = line_judged t (places_of n start line) line

-- the session after a line
abbrev pub line_opened : Option Terms → Line → Option Terms
line_opened t (LineOpening tick scarcity) = opened t (number tick) (number scarcity)
line_opened t (LineEntry side quantity price) = t
line_opened t (LineCut order quantity) = t
line_opened t (LineWithdrawal order) = t
line_opened t LineUncrossing = t

abbrev pub terms_after : Option Terms → Result Line MalformedLine → Option Terms
terms_after t (Ok line) = line_opened t line
terms_after t (Err fault) = t

-- each line of a list, of which the first is the n-th
unfoldable pub all_judged : Option Terms → ℕ → List Read → List (Result Step Fault)
all_judged t n [] = []
all_judged t n (l ∷ ls) = judged t n l.start l.said ∷ all_judged (terms_after t l.said) (n + 1) ls

-- the session after all, and the calls in it
unfoldable pub terms_after_all : Option Terms → List Read → Option Terms
terms_after_all t [] = t
terms_after_all t (l ∷ ls) = terms_after_all (terms_after t l.said) ls

abbrev pub with_call : Result Step Fault → List Call → List Call
with_call (Ok Opening) cs = cs
with_call (Ok (Asking c p)) cs = c ∷ cs
with_call (Err fault) cs = cs

unfoldable pub calls_of : List (Result Step Fault) → List Call
calls_of [] = []
calls_of (s ∷ ss) = with_call s (calls_of ss)

-- What private functions promise one another; no caller needs it.

-- the session of an opening, or that it is refused
abbrev pub Opens : ℕ → ℕ → Result Session Refusal → Type 0
Opens tick scarcity (Ok s) = ((is_tick tick && is_price scarcity) ≡ true) × (s.tick ≡ tick) × (s.scarcity ≡ scarcity)
Opens tick scarcity (Err why) = ((is_tick tick && is_price scarcity) ≡ false) × (why ≡ OfSession SessionRange)

-- whether a message comes in its turn: an opening before an accepted one, any other after it
abbrev pub is_opening : Line → Bool
is_opening (LineOpening tick scarcity) = true
is_opening (LineEntry side quantity price) = false
is_opening (LineCut order quantity) = false
is_opening (LineWithdrawal order) = false
is_opening LineUncrossing = false

abbrev pub in_turn : Option Terms → Line → Bool
in_turn None line = is_opening line
in_turn (Some t) line = not (is_opening line)

-- a line that comes in its turn asks for a call, or for none if it is an opening
abbrev pub step_of : Places → Result (Option Call) Fault → Result Step Fault
step_of p (Ok None) = Ok Opening
step_of p (Ok (Some c)) = Ok (Asking c p)
step_of p (Err fault) = Err fault
