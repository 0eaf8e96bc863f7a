-- What a number of a line is, and its value. Assumes nothing.
use Rattle.std.specs.Prelude.{ℕ, ◌+◌, ◌-◌, ◌*◌, Bool, true, not, ◌&&◌, List, [], ◌∷◌, length, ◌==◌, nat_le, nat_lt}
use Rattle.std.specs.Char.{is_ascii_digit}

-- every byte is a digit
unfoldable pub all_digits : List ℕ → Bool
all_digits [] = true
all_digits (b ∷ bs) = is_ascii_digit b && all_digits bs

-- no leading zero, except in 0 itself
unfoldable pub plain : List ℕ → Bool
plain [] = true
plain (b ∷ []) = true
plain (b ∷ (c ∷ cs)) = not (b == 48)

-- 1 to 9 digits without a leading zero, except 0 itself
unfoldable pub is_number : List ℕ → Bool
is_number text = (nat_lt 0 (length text) && nat_le (length text) 9) && (all_digits text && plain text)

-- the decimal value of digits that follow others of that value
unfoldable pub value_after : ℕ → List ℕ → ℕ
value_after before [] = before
value_after before (d ∷ ds) = value_after (before * 10 + (d - 48)) ds

-- the decimal value of digits
abbrev pub value : List ℕ → ℕ
value digits = value_after 0 digits
