-- What the loop over the groups of a number keeps. Assumes nothing.
use Rattle.std.proofs.Common.{◌≡◌, ℕ, ◌+◌, ◌-◌, ◌*◌, ◌%◌, ◌^◌, ◌<◌, ◌≤◌, true, false, cond, ◌&&◌, eqb, ltb, List, ◌∷◌, length, get_or, drop, Some, None, Option, sym, refl, ap, ◌∙◌, ⊎_elim, arith, pow_mono}
use lib.Bits.{bit_and, bit_or}
use Rattle.std.proofs.lemmas.Nat.{pow-add, and_mask, or_comm, or_shifted, mul-le}
use Rattle.std.proofs.lemmas.List.{drop_more, drop_all}
use Rattle.std.proofs.lemmas.Bool.{lt-ltb, le-ltb, ltb-true, eq-eqb, ne_eqb, eqb-true, cases_lt, cond-true, cond-false, and_from, and_parts, and_right, or_cases}
use Rattle.std.proofs.lemmas.Bool.Decides.{nat_tests}
use Rattle.note.specs.Numbers.{with_group, leading, of_32_bits, number}
use Rattle.note.specs.Steps.{misplaced}
use Rattle.note.proofs.Encoding.{leading_last, leading_more, leading_nil, with_group_some}

-- a number of which k groups, `value`, stand before the rest that was read: the rest is not 0 then
pub above : ℕ → ℕ → ℕ → Option (ℕ × List ℕ) → Option (ℕ × List ℕ)
above k shift value None = None
above k shift value (Some (m, rest)) = cond (ltb 0 k && eqb m 0) None (Some (value + m * 2 ^ shift, rest))

above_some : (k shift value m : ℕ) (rest : List ℕ) → (0 < k → 0 < m) → above k shift value (Some (m, rest)) ≡ Some (value + m * 2 ^ shift, rest)
unfolding above
above_some k shift value m rest some =
    ⊎_elim
    (λ h. let t = and_right (ltb 0 k) (eqb m 0) (ne_eqb m 0 (λ e. omega (arith, some h))) in cond-false (ltb 0 k && eqb m 0) None (Some (value + m * 2 ^ shift, rest)) t)
    (λ h. let t : ltb 0 k ≡ false = le-ltb 0 k h in rw t)
    (cases_lt 0 k)

above_zero : (k shift value : ℕ) (rest : List ℕ) → 0 < k → above k shift value (Some (0, rest)) ≡ None
unfolding above
above_zero k shift value rest h = cond-true (ltb 0 k && eqb 0 0) None (Some (value + 0 * 2 ^ shift, rest)) (and_from (ltb 0 k) (eqb 0 0) (lt-ltb 0 k h) refl)

above_none : (k shift value : ℕ) → above k shift value None ≡ None
unfolding above
above_none k shift value = refl

-- none stand before the whole
above_start : (o : Option (ℕ × List ℕ)) → above 0 0 0 o ≡ o
unfolding above
above_start None = refl
above_start (Some (m, rest)) = let e : 0 + m * 1 ≡ m = omega arith in ap (λ x. Some (x, rest)) e

-- one group more
above_more : (k shift value low : ℕ) (o : Option (ℕ × List ℕ)) → above k shift value (with_group low o) ≡ above (k + 1) (shift + 7) (value + low * 2 ^ shift) o
above_more k shift value low None = above_none k shift value ∙ sym (above_none (k + 1) (shift + 7) (value + low * 2 ^ shift))
above_more k shift value low (Some (m, rest)) =
    ⊎_elim
    (λ h.
    let power : 2 ^ (shift + 7) ≡ 2 ^ shift * 128 = pow-add 2 shift 7 in
    let regroup : value + (low + 128 * m) * 2 ^ shift ≡ (value + low * 2 ^ shift) + m * (2 ^ shift * 128) = omega arith in
    ap (above k shift value) (with_group_some low m rest h) ∙ above_some k shift value (low + 128 * m) rest (λ _. omega arith) ∙ ap (λ x. Some (x, rest)) (regroup ∙ ap (λ x. value + low * 2 ^ shift + m * x) (sym power)) ∙ sym (above_some (k + 1) (shift + 7) (value + low * 2 ^ shift) m rest (λ _. h)))
    (λ h.
    let e : m ≡ 0 = omega arith in
    let t : eqb m 0 ≡ true = eq-eqb m 0 e in
    let none : with_group low (Some (m, rest)) ≡ None = rw t in
    ap (above k shift value) none ∙ above_none k shift value ∙ sym (ap (λ x. above (k + 1) (shift + 7) (value + low * 2 ^ shift) (Some (x, rest))) e ∙ above_zero (k + 1) (shift + 7) (value + low * 2 ^ shift) rest (omega arith)))
    (cases_lt 0 m)

-- k groups of the bytes are read, and come to `value`
pub record Sofar (bytes : List ℕ) (k value : ℕ) : Type 0 where
  pub few : k ≤ 4
  pub small : value < 2 ^ (7 * k)
  pub whole : leading bytes ≡ above k (7 * k) value (leading (drop k bytes))

pub begin : (bytes : List ℕ) → Sofar bytes 0 0
begin bytes = record { few = omega arith; small = omega arith; whole = sym (above_start (leading bytes)) }

-- a group joined to what was read before, as the code does it
pub with_next : (value b shift group : ℕ) → group ≡ bit_and b 127 → value < 2 ^ shift → value + b % 128 * 2 ^ shift < 2 ^ 32 → bit_or value ((group * 2 ^ shift) % 2 ^ 32) ≡ value + b % 128 * 2 ^ shift
with_next value b shift group is small fits =
    let low : group ≡ b % 128 = is ∙ and_mask b 7 in
    let whole : (b % 128 * 2 ^ shift) % 2 ^ 32 ≡ b % 128 * 2 ^ shift = omega arith in
    ap (λ x. bit_or value ((x * 2 ^ shift) % 2 ^ 32)) low ∙ ap (bit_or value) whole ∙ or_comm value (b % 128 * 2 ^ shift) ∙ or_shifted (b % 128) shift value small ∙ (omega arith)

-- a group that can stand there is not 0 after the first, and the fifth has four bits
pub in_place : (k b : ℕ) → misplaced k b ≡ false → (0 < k → 0 < b) × (k ≡ 4 → b ≤ 15)
in_place k b h = (λ some. grind (arith, nat_tests), λ four. grind (arith, nat_tests))

-- so a fifth group is the last
pub not_fifth : (k b : ℕ) → k ≤ 4 → 128 ≤ b → (k ≡ 4 → b ≤ 15) → k < 4
not_fifth k b few high top = ⊎_elim (λ h. h) (λ h. absurd (omega (arith, top (omega arith)))) (cases_lt k 4)

-- a number that is too large is none
pub wide : (n : ℕ) (rest : List ℕ) → 2 ^ 32 ≤ n → of_32_bits (Some (n, rest)) ≡ None
wide n rest h = cond-false (ltb n (2 ^ 32)) (Some (n, rest)) None (le-ltb n (2 ^ 32) h)

-- whatever follows a group above 15, no rest of a number is below 16
large_rest : (low : ℕ) (o : Option (ℕ × List ℕ)) (value shift : ℕ) → shift ≡ 28 → of_32_bits (above 4 shift value (with_group low o)) ≡ None
large_rest low None value shift e = ap of_32_bits (above_none 4 shift value)
large_rest low (Some (m, rest)) value shift e =
    ⊎_elim
    (λ h.
    let p : 2 ^ shift ≡ 2 ^ 28 = ap (λ x. 2 ^ x) e in
    ap (λ x. of_32_bits (above 4 shift value x)) (with_group_some low m rest h) ∙ ap of_32_bits (above_some 4 shift value (low + 128 * m) rest (λ _. omega arith)) ∙ wide (value + (low + 128 * m) * 2 ^ shift) rest (omega (arith, mul-le 16 (2 ^ 28) (low + 128 * m) (2 ^ shift) (omega arith) (omega arith))))
    (λ h.
    let t : eqb m 0 ≡ true = eq-eqb m 0 (omega arith) in
    let none : with_group low (Some (m, rest)) ≡ None = rw t in
    ap (λ x. of_32_bits (above 4 shift value x)) none ∙ ap of_32_bits (above_none 4 shift value))
    (cases_lt 0 m)

module _ {bytes : List ℕ} {k value : ℕ} (s : Sofar bytes k value) where
  cut : (b : ℕ) → k < length bytes → b ≡ get_or bytes k 0 → drop k bytes ≡ b ∷ drop (k + 1) bytes
  cut b inside is = drop_more bytes k 0 inside ∙ ap (λ x. x ∷ drop (k + 1) bytes) (sym is)

  -- a group in its place leaves the value within 32 bits
  pub holds : (b : ℕ) → (k ≡ 4 → b % 128 ≤ 15) → value + b % 128 * 2 ^ (7 * k) < 2 ^ 32
  holds b top =
      ⊎_elim
      (λ below.
      let less : 2 ^ (7 * k) ≤ 2 ^ 21 = pow_mono {i = 7 * k} {j = 21} (omega arith) in
      omega (arith, s.small, mul-le (b % 128) (2 ^ (7 * k)) 127 (2 ^ 21) (omega arith) less))
      (λ at.
      let there : k ≡ 4 = omega (arith, s.few) in
      let e : (7 * k) ≡ 28 = omega arith in
      let p : 2 ^ (7 * k) ≡ 2 ^ 28 = ap (λ x. 2 ^ x) e in
      omega (arith, s.small, top there, mul-le (b % 128) (2 ^ (7 * k)) 15 (2 ^ 28) (top there) (omega arith)))
      (cases_lt k 4)

  pub more : (b : ℕ) → k < 4 → k < length bytes → b ≡ get_or bytes k 0 → 128 ≤ b → b < 256 → Sofar bytes (k + 1) (value + b % 128 * 2 ^ (7 * k))
  more b few inside is high fits =
      let seven : 7 * (k + 1) ≡ 7 * k + 7 = omega arith in
      let power : 2 ^ (7 * (k + 1)) ≡ 2 ^ (7 * k) * 128 = ap (λ x. 2 ^ x) seven ∙ pow-add 2 (7 * k) 7 in
      let low : b - 128 ≡ b % 128 = omega arith in
      record {
        few = omega arith;
        small = omega (arith, s.small, mul-le (b % 128) (2 ^ (7 * k)) 127 (2 ^ (7 * k)) (omega arith) (omega arith));
        whole = s.whole ∙ ap (λ x. above k (7 * k) value (leading x)) (cut b inside is) ∙ ap (above k (7 * k) value) (leading_more b (drop (k + 1) bytes) high fits) ∙ ap (λ x. above k (7 * k) value (with_group x (leading (drop (k + 1) bytes)))) low ∙ above_more k (7 * k) value (b % 128) (leading (drop (k + 1) bytes)) ∙ ap (λ x. above (k + 1) x (value + b % 128 * 2 ^ (7 * k)) (leading (drop (k + 1) bytes))) (sym seven);
      }

  pub last : (b : ℕ) → k < length bytes → b ≡ get_or bytes k 0 → b < 128 → (0 < k → 0 < b) → (k ≡ 4 → b ≤ 15) → number bytes ≡ Some (value + b % 128 * 2 ^ (7 * k), drop (k + 1) bytes)
  last b inside is low some top =
      let e : b ≡ b % 128 = omega arith in
      let fits = holds b (λ h. omega (arith, top h)) in
      ap of_32_bits (s.whole ∙ ap (λ x. above k (7 * k) value (leading x)) (cut b inside is) ∙ ap (above k (7 * k) value) (leading_last b (drop (k + 1) bytes) low) ∙ above_some k (7 * k) value b (drop (k + 1) bytes) some ∙ ap (λ x. Some (value + x * 2 ^ (7 * k), drop (k + 1) bytes)) e) ∙ cond-true (ltb (value + b % 128 * 2 ^ (7 * k)) (2 ^ 32)) (Some (value + b % 128 * 2 ^ (7 * k), drop (k + 1) bytes)) None (lt-ltb (value + b % 128 * 2 ^ (7 * k)) (2 ^ 32) fits)

  over_long : 0 < k → k < length bytes → get_or bytes k 0 ≡ 0 → number bytes ≡ None
  over_long some inside is =
      ap of_32_bits (s.whole ∙ ap (λ x. above k (7 * k) value (leading x)) (cut 0 inside (sym is)) ∙ ap (above k (7 * k) value) (leading_last 0 (drop (k + 1) bytes) (omega arith)) ∙ above_zero k (7 * k) value (drop (k + 1) bytes) some)

  too_large : k ≡ 4 → k < length bytes → 15 < get_or bytes k 0 → get_or bytes k 0 < 256 → number bytes ≡ None
  too_large four inside big fits =
      let b = get_or bytes k 0 in
      let e : (7 * k) ≡ 28 = omega arith in
      let p : 2 ^ (7 * k) ≡ 2 ^ 28 = ap (λ x. 2 ^ x) e in
      let there = s.whole ∙ ap (λ x. above k (7 * k) value (leading x)) (cut b inside refl) in
      ⊎_elim
      (λ l. ap of_32_bits (there ∙ ap (above k (7 * k) value) (leading_last b (drop (k + 1) bytes) l) ∙ above_some k (7 * k) value b (drop (k + 1) bytes) (λ _. omega arith)) ∙ wide (value + b * 2 ^ (7 * k)) (drop (k + 1) bytes) (omega (arith, mul-le 16 (2 ^ 28) b (2 ^ (7 * k)) (omega arith) (omega arith))))
      (λ l. ap of_32_bits (there ∙ ap (above k (7 * k) value) (leading_more b (drop (k + 1) bytes) l fits)) ∙ ap (λ x. of_32_bits (above x (7 * k) value (with_group (b - 128) (leading (drop (k + 1) bytes))))) four ∙ large_rest (b - 128) (leading (drop (k + 1) bytes)) value (7 * k) e)
      (cases_lt b 128)

  pub refused : k < length bytes → get_or bytes k 0 < 256 → misplaced k (get_or bytes k 0) ≡ true → number bytes ≡ None
  refused inside fits h =
      let b = get_or bytes k 0 in
      ⊎_elim
      (λ e. let both = and_parts (ltb 0 k) (eqb b 0) e in over_long (ltb-true 0 k both.0) inside (eqb-true b 0 both.1))
      (λ e. let both = and_parts (eqb k 4) (ltb 15 b) e in too_large (eqb-true k 4 both.0) inside (ltb-true 15 b both.1) fits)
      (or_cases (ltb 0 k && eqb b 0) (eqb k 4 && ltb 15 b) h)

  pub cut_off : length bytes ≡ k → number bytes ≡ None
  cut_off end = ap of_32_bits (s.whole ∙ ap (λ x. above k (7 * k) value (leading x)) (drop_all k bytes (omega arith)) ∙ ap (above k (7 * k) value) leading_nil ∙ above_none k (7 * k) value)
