-- The laws of `encoded` and of `leading`: how long an encoding is, and that each undoes the other. Assumes nothing.
use Rattle.std.proofs.Common.{◌≡◌, ℕ, zero, suc, ◌+◌, ◌-◌, ◌*◌, ◌/◌, ◌%◌, ◌^◌, ◌<◌, ◌≤◌, min, max, true, false, eqb, List, [], ◌∷◌, ◌++◌, length, Some, None, Option, sym, refl, ap, ◌∙◌, ⊎_elim, div-add-mod', arith, pow_mono}
use lib.Count.{count_leading_zeros}
use Rattle.std.proofs.lemmas.Nat.{pow_pos, pow-add, le-div, div_below, leading_top}
use Rattle.std.proofs.lemmas.Bool.{lt-ltb, le-ltb, cases_lt, eq-eqb, ne_eqb}
use Rattle.note.specs.Numbers.{groups, encoded, with_group, leading}

groups_last : (most n : ℕ) → n < 128 → groups (suc most) n ≡ n ∷ []
unfolding groups
groups_last most n h = rw (lt-ltb n 128 h)

groups_more : (most n : ℕ) → 128 ≤ n → groups (suc most) n ≡ (128 + n % 128) ∷ groups most (n / 128)
unfolding groups
groups_more most n h = rw (le-ltb n 128 h)

-- more groups than n has change nothing
groups_enough : (f g n : ℕ) → n < f → n < g → groups f n ≡ groups g n
groups_enough zero g n p q = absurd (omega arith)
groups_enough (suc f) zero n p q = absurd (omega arith)
groups_enough (suc f) (suc g) n p q =
    ⊎_elim (λ l. groups_last f n l ∙ sym (groups_last g n l))
    (λ l. groups_more f n l ∙ ap (λ x. (128 + n % 128) ∷ x) (groups_enough f g (n / 128) (omega (arith, div-add-mod' n 128)) (omega (arith, div-add-mod' n 128))) ∙ sym (groups_more g n l))
    (cases_lt n 128)

pub encoded_last : (n : ℕ) → n < 128 → encoded n ≡ n ∷ []
unfolding encoded
encoded_last n h = groups_last n n h

pub encoded_more : (n : ℕ) → 128 ≤ n → encoded n ≡ (128 + n % 128) ∷ encoded (n / 128)
unfolding encoded
encoded_more n h = groups_more n n h ∙ ap (λ x. (128 + n % 128) ∷ x) (groups_enough n (suc (n / 128)) (n / 128) (omega (arith, div-add-mod' n 128)) (omega arith))

pub length_last : (n : ℕ) → n < 128 → length (encoded n) ≡ 1
length_last n h = ap length (encoded_last n h)

pub length_more : (n : ℕ) → 128 ≤ n → length (encoded n) ≡ length (encoded (n / 128)) + 1
length_more n h = omega (arith, ap length (encoded_more n h))

-- how long the encoding of a number between two powers is
length_between : (g n : ℕ) → 2 ^ (7 * g) ≤ n → n < 2 ^ (7 * g + 7) → length (encoded n) ≡ g + 1
length_between zero n low high = length_last n high
length_between (suc g) n low high =
    let split = pow-add 2 (7 * g) 7 in
    let split' = pow-add 2 (7 * g + 7) 7 in
    let e : 7 * suc g ≡ 7 * g + 7 = omega arith in
    let low' : 2 ^ (7 * g + 7) ≤ n = rw e at low in
    let high' : n < 2 ^ (7 * g + 7 + 7) = rw e at high in
    let one = pow_pos (7 * g) in
    let big : 128 ≤ n = omega arith in
    let down = length_between g (n / 128) (le-div _ n 128 (omega arith) (omega arith)) (div_below n 128 _ (omega arith) (omega arith)) in
    omega (arith, length_more n big)

-- and of one below a power
pub length_below : (g n : ℕ) → n < 2 ^ (7 * g + 7) → length (encoded n) ≤ g + 1
length_below zero n high = omega (arith, length_last n high)
length_below (suc g) n high =
    let split = pow-add 2 (7 * g + 7) 7 in
    let e : 7 * suc g ≡ 7 * g + 7 = omega arith in
    let high' : n < 2 ^ (7 * g + 7 + 7) = rw e at high in
    ⊎_elim (λ h. omega (arith, length_last n h))
    (λ h. omega (arith, length_more n h, length_below g (n / 128) (div_below n 128 _ (omega arith) (omega arith))))
    (cases_lt n 128)

-- the count of groups by the leading zeros
pub length_by_zeros : (n z r : ℕ) → n < 2 ^ 32 → z ≡ count_leading_zeros 32 (max n 1) → r ≡ (32 - z) / 7 + min 1 ((32 - z) % 7) → r ≡ length (encoded n)
length_by_zeros n z r fits zeros is =
    let top = leading_top 32 (max n 1) (omega arith) (omega arith) in
    let j = top.0 in
    let g = j / 7 in
    let low : 2 ^ (7 * g) ≤ 2 ^ j = pow_mono (omega arith) in
    let high : 2 ^ suc j ≤ 2 ^ (7 * g + 7) = pow_mono (omega arith) in
    let same : length (encoded n) ≡ length (encoded (max n 1)) =
    ⊎_elim (λ h. length_last n (omega arith) ∙ sym (length_last (max n 1) (omega arith))) (λ h. let e : n ≡ max n 1 = omega arith in ap (λ m. length (encoded m)) e) (cases_lt n 1) in
    let long = length_between g (max n 1) (omega (arith, top.2)) (omega (arith, top.3)) in
    omega (arith, top.1)

pub length_positive : (n : ℕ) → 0 < length (encoded n)
length_positive n = ⊎_elim (λ h. omega (arith, length_last n h)) (λ h. omega (arith, length_more n h)) (cases_lt n 128)

pub leading_last : (b : ℕ) (bs : List ℕ) → b < 128 → leading (b ∷ bs) ≡ Some (b, bs)
unfolding leading
leading_last b bs h = rw (lt-ltb b 128 h)

pub leading_more : (b : ℕ) (bs : List ℕ) → 128 ≤ b → b < 256 → leading (b ∷ bs) ≡ with_group (b - 128) (leading bs)
unfolding leading
leading_more b bs h fits = rw (le-ltb b 128 h, lt-ltb b 256 fits)

leading_none : (b : ℕ) (bs : List ℕ) → 256 ≤ b → leading (b ∷ bs) ≡ None
unfolding leading
leading_none b bs h = let high : 128 ≤ b = omega arith in rw (le-ltb b 128 high, le-ltb b 256 h)

pub leading_nil : leading [] ≡ None
unfolding leading
leading_nil = refl

pub with_group_some : (low high : ℕ) (rest : List ℕ) → 0 < high → with_group low (Some (high, rest)) ≡ Some (low + 128 * high, rest)
with_group_some low high rest h = let ne : eqb high 0 ≡ false = ne_eqb high 0 (λ e. omega arith) in rw ne

-- what was encoded leads the bytes
leads : (most n : ℕ) (rest : List ℕ) → n < most → leading (encoded n ++ rest) ≡ Some (n, rest)
leads zero n rest h = absurd (omega arith)
leads (suc most) n rest h =
    ⊎_elim (λ l. ap (λ x. leading (x ++ rest)) (encoded_last n l) ∙ leading_last n rest l)
    (λ l.
    let below : n / 128 < most = omega (arith, div-add-mod' n 128) in
    let low : (128 + n % 128) - 128 ≡ n % 128 = omega arith in
    let whole : n % 128 + 128 * (n / 128) ≡ n = omega arith in
    ap (λ x. leading (x ++ rest)) (encoded_more n l) ∙ leading_more (128 + n % 128) (encoded (n / 128) ++ rest) (omega arith) (omega arith) ∙ ap (with_group (128 + n % 128 - 128)) (leads most (n / 128) rest below) ∙ with_group_some (128 + n % 128 - 128) (n / 128) rest (omega arith) ∙ ap (λ x. Some (x + 128 * (n / 128), rest)) low ∙ ap (λ x. Some (x, rest)) whole)
    (cases_lt n 128)

pub leading_encoded : (n : ℕ) (rest : List ℕ) → leading (encoded n ++ rest) ≡ Some (n, rest)
leading_encoded n rest = leads (suc n) n rest (omega arith)

-- the parts of equal readings
pub some_same : {p q : ℕ × List ℕ} → Some p ≡ Some q → (p.0 ≡ q.0) × (p.1 ≡ q.1)
some_same {p} {q} e = let both : p ≡ q = cc in (ap (λ x. x.0) both, ap (λ x. x.1) both)

-- what `with-group` gives came from a number above 0
record Parts (low n : ℕ) (rest : List ℕ) (o : Option (ℕ × List ℕ)) : Type 0 where
  high : ℕ
  some : 0 < high
  was : o ≡ Some (high, rest)
  is : n ≡ low + 128 * high

parts : (low n : ℕ) (rest : List ℕ) (o : Option (ℕ × List ℕ)) → with_group low o ≡ Some (n, rest) → Parts low n rest o
parts low n rest None e = absurd (grind arith)
parts low n rest (Some (high, more)) e =
    ⊎_elim
    (λ p.
    let both = some_same (sym (with_group_some low high more p) ∙ e) in
    record { high = high; some = p; was = ap (λ xs. Some (high, xs)) both.1; is = sym both.0 })
    (λ p.
    let x : eqb high 0 ≡ true = eq-eqb high 0 (omega arith) in
    let y : with_group low (Some (high, more)) ≡ None = rw x in
    absurd (grind arith))
    (cases_lt 0 high)

-- and what leads the bytes was encoded there
pub encoded_leading : (bytes : List ℕ) (n : ℕ) (rest : List ℕ) → leading bytes ≡ Some (n, rest) → bytes ≡ encoded n ++ rest
encoded_leading [] n rest e = let x = leading_nil in absurd (grind arith)
encoded_leading (b ∷ bs) n rest e =
    ⊎_elim
    (λ l.
    let both = some_same (sym (leading_last b bs l) ∙ e) in
    let same = both.0 in
    ap (λ xs. b ∷ xs) both.1 ∙ ap (λ y. y ∷ rest) same ∙ ap (λ xs. xs ++ rest) (sym (encoded_last n (omega arith))))
    (λ l.
    ⊎_elim
    (λ fits.
    let p = parts (b - 128) n rest (leading bs) (sym (leading_more b bs l fits) ∙ e) in
    let low : 128 + n % 128 ≡ b = omega (arith, p.is) in
    let above : n / 128 ≡ p.high = omega (arith, p.is) in
    let big : 128 ≤ n = omega (arith, p.is, p.some) in
    let whole = encoded_more n big in
    ap (λ xs. b ∷ xs) (encoded_leading bs p.high rest p.was) ∙ ap (λ y. y ∷ (encoded p.high ++ rest)) (sym low) ∙ ap (λ y. (128 + n % 128) ∷ (encoded y ++ rest)) (sym above) ∙ ap (λ xs. xs ++ rest) (sym whole))
    (λ wide. let x = leading_none b bs wide in absurd (grind arith))
    (cases_lt b 256))
    (cases_lt b 128)
