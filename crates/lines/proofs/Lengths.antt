-- How long a line is. Assumes nothing.
use Rattle.std.proofs.Common.{◌≡◌, ℕ, suc, ◌+◌, ◌<◌, ◌≤◌, min, Bool, true, false, not, cond, eqb, ltb, leb, List, [], ◌∷◌, ◌++◌, length, Some, None, Option, refl, ap, subst, ⊎_elim, append_assoc, arith, length-append}
use Rattle.std.specs.List.{position, position_or_len}
use Rattle.std.specs.Option.{MatchOption}
use Rattle.std.specs.Char.{is_ascii_digit}
use Rattle.std.proofs.lemmas.Bool.{eq-eqb, ne_eqb, cond-true, cond-false, cases_eq, and_parts, leb-true, ltb-true, ltb-false}
use Rattle.lines.specs.Digits.{all_digits}
use Rattle.lines.specs.Forms.{end}
use Rattle.lines.specs.Reading.{line_length}
use Rattle.lines.specs.Steps.{Unended}

-- a line ends at a line end ..
length_ended : (b : ℕ) (bs : List ℕ) → b ≡ 10 → line_length (b ∷ bs) ≡ 1
unfolding line_length
length_ended b bs e = cond-true (eqb b 10) 1 (suc (line_length bs)) (eq-eqb b 10 e)

-- .. and goes on at any other byte
length_more : (b : ℕ) (bs : List ℕ) → (b ≡ 10 → ⊥) → line_length (b ∷ bs) ≡ suc (line_length bs)
unfolding line_length
length_more b bs h = cond-false (eqb b 10) 1 (suc (line_length bs)) (ne_eqb b 10 h)

pub length_none : line_length [] ≡ 0
unfolding line_length
length_none = refl

-- the line goes up to the first line end and with it, or to the last of the bytes
line_to_end : (bytes : List ℕ) → line_length bytes ≡ min (length bytes) (position_or_len (λ b. eqb b 10) bytes + 1)
unfolding line_length
line_to_end [] = refl
line_to_end (b ∷ bs) = at (eqb b 10) (line_to_end bs) where
  at : (ends : Bool) → line_length bs ≡ min (length bs) (position_or_len (λ c. eqb c 10) bs + 1)
      → cond ends 1 (suc (line_length bs)) ≡ min (suc (length bs)) (cond (not ends) (1 + position_or_len (λ c. eqb c 10) bs) 0 + 1)
  at true rest = omega arith
  at false rest = omega arith

-- so long is it by the place of that line end, if there is one
module _ (bytes : List ℕ) (n : ℕ) where
  abbrev place : ℕ
  place = position_or_len (λ b. eqb b 10) bytes

  abbrev ByEnd : Option ℕ → Type 0
  ByEnd place' = MatchOption place' (n ≡ length bytes) (λ i. n ≡ i + 1)

  by_end : (inside : Bool) → ltb place (length bytes) ≡ inside → ByEnd (cond inside (Some place) None) → n ≡ line_length bytes
  by_end true lt e = omega (arith, e, line_to_end bytes, ltb-true place (length bytes) lt)
  by_end false ge e = omega (arith, e, line_to_end bytes, ltb-false place (length bytes) ge)

  pub line_by_end : (place' : Option ℕ) → place' ≡ position (λ b. eqb b 10) bytes → ByEnd place' → n ≡ line_length bytes
  line_by_end place' is e = by_end (ltb place (length bytes)) refl (subst ByEnd is e)

-- a line is within the bytes
pub length_within : (bytes : List ℕ) → line_length bytes ≤ length bytes
length_within [] = omega (arith, length_none)
length_within (b ∷ bs) = ⊎_elim (λ e. omega (arith, length_ended b bs e)) (λ h. omega (arith, length_more b bs h, length_within bs)) (cases_eq b 10)

-- and has a byte at least
pub length_some : (bytes : List ℕ) → 0 < length bytes → 0 < line_length bytes
length_some [] h = absurd (omega arith)
length_some (b ∷ bs) h = ⊎_elim (λ e. omega (arith, length_ended b bs e)) (λ g. omega (arith, length_more b bs g)) (cases_eq b 10)

-- no line ends in no bytes, in a byte but 0A, in two runs of bytes, or in digits
pub unended_none : Unended []
unended_none rest = omega arith

pub unended_byte : (b : ℕ) → (b ≡ 10 → ⊥) → Unended (b ∷ [])
unended_byte b h rest = omega (arith, length_more b rest h)

pub unended_join : (xs ys : List ℕ) → Unended xs → Unended ys → Unended (xs ++ ys)
unended_join xs ys u v rest = omega (arith, ap line_length (append_assoc xs ys rest), u (ys ++ rest), v rest, length-append xs ys)

pub unended_digits : (ds : List ℕ) → all_digits ds ≡ true → Unended ds
unfolding all_digits
unended_digits [] h = unended_none
unended_digits (d ∷ ds) h =
    let both = and_parts (is_ascii_digit d) (all_digits ds) h in
    let low = (and_parts (leb 48 d) (leb d 57) both.0).0 in
    unended_join (d ∷ []) ds (unended_byte d (λ e. omega (arith, leb-true 48 d low))) (unended_digits ds both.1)

-- the line ends with these bytes, whatever follows
abbrev pub EndsLine : List ℕ → Type 0
EndsLine bytes = (rest : List ℕ) → line_length (bytes ++ rest) ≡ length bytes

pub ends_byte : EndsLine end
ends_byte rest = length_ended 10 rest refl

pub ends_after : (xs ys : List ℕ) → Unended xs → EndsLine ys → EndsLine (xs ++ ys)
ends_after xs ys u v rest = omega (arith, ap line_length (append_assoc xs ys rest), u (ys ++ rest), v rest, length-append xs ys)

-- bytes in which no line ends do not begin with a whole line
pub unended_line : (line more : List ℕ) → Unended (line ++ more) → EndsLine line → ⊥
unended_line line more u v =
    omega (arith, u (0 ∷ []), v (more ++ 0 ∷ []), ap line_length (append_assoc line more (0 ∷ [])), length-append line more, length_more 0 [] (λ e. omega arith), length_none)
