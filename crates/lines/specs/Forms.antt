-- The five forms of a line. Assumes nothing.
use Rattle.std.specs.Prelude.{◌≡◌, ℕ, true, List, [], ◌∷◌, ◌++◌, codes}
use Rattle.book.specs.declared.orders.Side.{Side}
use Rattle.book.specs.declared.orders.Side.TheVariants.{Buy, Sell}
use Rattle.lines.specs.Digits.{is_number}

-- what a line says: its kind and its fields, each number by its digits
pub data Message : Type 0 where
  opening : (tick scarcity : List ℕ) → Message
  entry : (side : Side) (quantity price : List ℕ) → Message
  cut : (number quantity : List ℕ) → Message
  withdrawal : (number : List ℕ) → Message
  uncrossing : Message

-- a side's letter
abbrev pub letter_of : Side → List ℕ
letter_of Buy = codes "B"
letter_of Sell = codes "S"

-- the byte 0A, which ends a line
abbrev pub end : List ℕ
end = 10 ∷ []

-- the bytes of a line, with the byte that ends it
abbrev pub written : Message → List ℕ
written (opening tick scarcity) = codes "O " ++ (tick ++ (codes " " ++ (scarcity ++ end)))
written (entry side quantity price) = codes "E " ++ (letter_of side ++ (codes " " ++ (quantity ++ (codes " " ++ (price ++ end)))))
written (cut number quantity) = codes "C " ++ (number ++ (codes " " ++ (quantity ++ end)))
written (withdrawal number) = codes "W " ++ (number ++ end)
written uncrossing = codes "U" ++ end

-- its numbers are numbers
abbrev pub Legal : Message → Type 0
Legal (opening tick scarcity) = (is_number tick ≡ true) × (is_number scarcity ≡ true)
Legal (entry side quantity price) = (is_number quantity ≡ true) × (is_number price ≡ true)
Legal (cut number quantity) = (is_number number ≡ true) × (is_number quantity ≡ true)
Legal (withdrawal number) = is_number number ≡ true
Legal uncrossing = Unit {0}

-- the bytes are a line
pub record IsLine (bytes : List ℕ) : Type 0 where
  pub message : Message
  pub legal : Legal message
  pub whole : bytes ≡ written message

-- the bytes can still become a line
pub record CanBecomeLine (bytes : List ℕ) : Type 0 where
  pub more : List ℕ
  pub line : IsLine (bytes ++ more)
