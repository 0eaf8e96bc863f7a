-- What the reader answers, and where the next line starts. Assumes nothing.
use Rattle.std.specs.Prelude.{◌≡◌, ℕ, suc, ◌+◌, ◌-◌, ◌<◌, ◌≤◌, cond, List, [], ◌∷◌, ◌++◌, length, take, drop, Some, None, Ok, Err, Option, Result, ◌==◌, ◌≢◌}
use Rattle.lines.specs.declared.fields.Field.{Field}
use Rattle.lines.specs.declared.kinds.Line.{Line}
use Rattle.lines.specs.declared.kinds.Line.TheVariants.{Opening, Entry, Cut, Withdrawal, Uncrossing}
use Rattle.lines.specs.declared.refusals.MalformedLine.{MalformedLine}
use Rattle.lines.specs.Forms.{Message, opening, entry, cut, withdrawal, uncrossing, written, Legal, IsLine, CanBecomeLine}

-- how many bytes there are up to the first 0A and with it, or in all if there is none
unfoldable pub line_length : List ℕ → ℕ
line_length [] = 0
line_length (b ∷ bs) = let more = line_length bs in cond (b == 10) 1 (suc more)

-- where the next line starts: just behind the first 0A from a position on, or at the feed's end
abbrev pub next_start : List ℕ → ℕ → ℕ
next_start feed from = from + line_length (drop from feed)

-- the bytes of a feed from one place to another
abbrev pub part : List ℕ → ℕ → ℕ → List ℕ
part feed from to = take (to - from) (drop from feed)

-- a field's digits
abbrev pub digits : Field → List ℕ
digits f = f.text.now

-- the place behind a field
abbrev pub past : Field → ℕ
past f = f.place + length (digits f)

-- a field is the part of the feed at a place
pub record FieldAt (feed : List ℕ) (place : ℕ) (f : Field) : Type 0 where
  pub begins : f.place ≡ place
  pub text : digits f ≡ take (length (digits f)) (drop place feed)

-- what a line says
abbrev pub message : Line → Message
message (Opening tick scarcity) = opening (digits tick) (digits scarcity)
message (Entry side quantity price) = entry side (digits quantity) (digits price)
message (Cut number quantity) = cut (digits number) (digits quantity)
message (Withdrawal number) = withdrawal (digits number)
message Uncrossing = uncrossing

-- the fields of a line stand in order: the first behind the letter and a space, or a side and a space more, the next a space further
abbrev pub Placed : List ℕ → ℕ → Line → Type 0
Placed feed from (Opening tick scarcity) = FieldAt feed (from + 2) tick × FieldAt feed (past tick + 1) scarcity
Placed feed from (Entry side quantity price) = FieldAt feed (from + 4) quantity × FieldAt feed (past quantity + 1) price
Placed feed from (Cut number quantity) = FieldAt feed (from + 2) number × FieldAt feed (past number + 1) quantity
Placed feed from (Withdrawal number) = FieldAt feed (from + 2) number
Placed feed from Uncrossing = Unit {0}

-- a line is handed out: its bytes stand in the feed, with its fields at their places, and no other line's
pub record Handed (feed : List ℕ) (from : ℕ) (line : Line) (to : ℕ) : Type 0 where
  pub legal : Legal (message line)
  pub stands : drop from feed ≡ written (message line) ++ drop to feed
  pub placed : Placed feed from line
  pub only : (other : Message) (rest : List ℕ) → Legal other → drop from feed ≡ written other ++ rest → other ≡ message line

-- a line is refused at the first byte that no form can take, or at the feed's end: the bytes before the place can still
-- become a line, with the byte at the place they cannot, and no line stands there
pub record Refused (feed : List ℕ) (from : ℕ) (place : ℕ) : Type 0 where
  pub starts : from ≤ place
  pub within : place ≤ length feed
  pub could : CanBecomeLine (part feed from place)
  pub cannot : place < length feed → CanBecomeLine (part feed from (place + 1)) → ⊥
  pub none : (line rest : List ℕ) → IsLine line → drop from feed ≢ line ++ rest

-- what is answered of the feed from a position on: nothing at its end, where the reader stays; a line; or where it is refused
abbrev pub Answered : List ℕ → ℕ → Option (Result Line MalformedLine) → ℕ → Type 0
Answered feed from None to = (from ≡ length feed) × (to ≡ from)
Answered feed from (Some (Ok line)) to = Handed feed from line to
Answered feed from (Some (Err fault)) to = (from < length feed) × Refused feed from fault.place
