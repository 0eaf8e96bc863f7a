-- What the private steps of the reader promise. Assumes nothing.
use Rattle.std.specs.Prelude.{◌≡◌, ℕ, ◌+◌, ◌<◌, ◌≤◌, true, false, List, [], ◌∷◌, ◌++◌, length, take, drop, Some, None, Option, slice_index}
use Rattle.lines.specs.declared.fields.Field.{Field}
use Rattle.lines.specs.declared.kinds.Line.{Line}
use Rattle.lines.specs.declared.reader.LineReader.{LineReader}
use Rattle.book.specs.declared.orders.Side.{Side}
use Rattle.lines.specs.Digits.{is_number}
use Rattle.lines.specs.Forms.{letter_of, end, written, Legal, IsLine}
use Rattle.lines.specs.Kinds.{Kind, Opening, Entry, Cut, Withdrawal, Uncrossing}
use Rattle.lines.specs.Reading.{line_length, digits, past, message, FieldAt, Placed}

-- the longest number at the front of the bytes has n of them: 0 if there is none
pub record Leading (bytes : List ℕ) (n : ℕ) : Type 0 where
  pub within : n ≤ length bytes
  pub number : 0 < n → is_number (take n bytes) ≡ true
  pub longest : n < length bytes → is_number (take (n + 1) bytes) ≡ false

-- a field at a place of the reader's feed is a number
pub record NumberAt (reader : LineReader) (place : ℕ) (f : Field) : Type 0 where
  pub number : is_number (digits f) ≡ true
  pub stands : FieldAt reader.feed.now place f

-- the byte that comes next does not make a longer number of these digits
abbrev pub Ended : List ℕ → List ℕ → Type 0
Ended text rest = (b : ℕ) (more : List ℕ) → rest ≡ b ∷ more → is_number (text ++ b ∷ []) ≡ false

-- a part of a line
pub data Part : Type 0 where
  byte : ℕ → Part
  side : Part
  number : Part

-- the bytes are these parts, one behind the other
abbrev pub Fits : List Part → List ℕ → Type 0
Fits [] bytes = bytes ≡ []
Fits (byte b ∷ parts) bytes = (rest : List ℕ) × (bytes ≡ b ∷ rest) × Fits parts rest
Fits (side ∷ parts) bytes = (s : Side) × (rest : List ℕ) × (bytes ≡ letter_of s ++ rest) × Fits parts rest
Fits (number ∷ parts) bytes = (text : List ℕ) × (rest : List ℕ) × (is_number text ≡ true) × (bytes ≡ text ++ rest) × Fits parts rest

-- what follows the letter of a kind
abbrev pub behind : Kind → List Part
behind Opening = byte 32 ∷ (number ∷ (byte 32 ∷ (number ∷ (byte 10 ∷ []))))
behind Entry = byte 32 ∷ (side ∷ (byte 32 ∷ (number ∷ (byte 32 ∷ (number ∷ (byte 10 ∷ []))))))
behind Cut = byte 32 ∷ (number ∷ (byte 32 ∷ (number ∷ (byte 10 ∷ []))))
behind Withdrawal = byte 32 ∷ (number ∷ (byte 10 ∷ []))
behind Uncrossing = byte 10 ∷ []

-- the letter of a kind
abbrev pub letter : Kind → ℕ
letter Opening = 79
letter Entry = 69
letter Cut = 67
letter Withdrawal = 87
letter Uncrossing = 85

-- the bytes that are left to a reader
abbrev pub left : LineReader → List ℕ
left reader = drop reader.position reader.feed.now

-- the reader moved over these bytes of its feed
pub record Moved (before after : LineReader) (read : List ℕ) : Type 0 where
  pub same : after.feed.now ≡ before.feed.now
  pub over : left before ≡ read ++ left after

-- no line ends in these bytes
abbrev pub Unended : List ℕ → Type 0
Unended bytes = (rest : List ℕ) → line_length (bytes ++ rest) ≡ length bytes + line_length rest

-- what was read can still become such bytes, but not with the byte that comes next
pub record Stuck (Whole : List ℕ → Type 0) (read rest : List ℕ) : Type 0 where
  pub could : (more : List ℕ) × Whole (read ++ more)
  pub cannot : (b : ℕ) (tail more : List ℕ) → rest ≡ b ∷ tail → Whole (read ++ b ∷ more) → ⊥
  pub unended : Unended read

-- the reader stopped where such bytes cannot go on
pub record Halted (Whole : List ℕ → Type 0) (before after : LineReader) : Type 0 where
  pub read : List ℕ
  pub moved : Moved before after read
  pub stuck : Stuck Whole read (left after)

-- the byte that comes next
abbrev pub Next : LineReader → Option ℕ → Type 0
Next reader (Some b) = (reader.position < length reader.feed.now) × (slice_index reader.feed.now reader.position ≡ b)
Next reader None = length reader.feed.now ≤ reader.position

-- the reader passed a byte, ..
abbrev pub PassedByte : ℕ → LineReader → LineReader → Option (Unit {0}) → Type 0
PassedByte b before after (Some _) = Moved before after (b ∷ [])
PassedByte b before after None = (parts : List Part) → Halted (Fits (byte b ∷ parts)) before after

-- .. took a side, ..
abbrev pub TookSide : LineReader → LineReader → Option Side → Type 0
TookSide before after (Some s) = Moved before after (32 ∷ letter_of s)
TookSide before after None = (parts : List Part) → Halted (Fits (byte 32 ∷ (side ∷ parts))) before after

-- .. a number as far as it goes, ..
abbrev pub TookNumber : LineReader → LineReader → Option Field → Type 0
TookNumber before after (Some f) = Moved before after (digits f) × NumberAt before before.position f × Ended (digits f) (left after)
TookNumber before after None = (parts : List Part) → Halted (Fits (number ∷ parts)) before after

-- .. a space and a number, ..
abbrev pub TookField : LineReader → LineReader → Option Field → Type 0
TookField before after (Some f) = Moved before after (32 ∷ digits f) × NumberAt before (before.position + 1) f × Ended (digits f) (left after)
TookField before after None = (parts : List Part) → Halted (Fits (byte 32 ∷ (number ∷ parts))) before after

-- .. the last field of a line, ..
abbrev pub TookLastField : LineReader → LineReader → Option Field → Type 0
TookLastField before after (Some f) = Moved before after (32 ∷ (digits f ++ end)) × NumberAt before (before.position + 1) f
TookLastField before after None = Halted (Fits (behind Withdrawal)) before after

-- .. the last two fields, ..
abbrev pub TookFields : LineReader → LineReader → Option (Field × Field) → Type 0
TookFields before after (Some (f, g)) =
    Moved before after (32 ∷ (digits f ++ (32 ∷ (digits g ++ end)))) × NumberAt before (before.position + 1) f × NumberAt before (past f + 1) g
TookFields before after None = Halted (Fits (behind Cut)) before after

-- .. a line, ..
abbrev pub TookLine : LineReader → LineReader → Option Line → Type 0
TookLine before after (Some line) =
    Moved before after (written (message line)) × Legal (message line) × Placed before.feed.now before.position line
TookLine before after None = Halted IsLine before after

-- .. or a line of one kind
abbrev pub TookForm : Kind → LineReader → LineReader → Option Line → Type 0
TookForm kind before after (Some line) = TookLine before after (Some line)
TookForm kind before after None = Halted (Fits (byte (letter kind) ∷ behind kind)) before after
