-- Facts of numbers: their parts, how one goes on, where it ends, and their values. Assumes nothing.
use Rattle.std.proofs.Common.{◌≡◌, ℕ, ◌+◌, ◌-◌, ◌*◌, ◌^◌, ◌<◌, ◌≤◌, min, true, false, not, ◌&&◌, eqb, ltb, leb, cond, zero, suc, Bool, ◌==◌, List, [], ◌∷◌, ◌++◌, length, get_or, take, sym, refl, ap, ◌∙◌, subst, ⊎_elim, arith, length-append}
use native.Mathlib.Nat.{pow-le-pow_right}
use Rattle.std.proofs.lemmas.Nat.{pow-add}
use Rattle.std.specs.Char.{is_ascii_digit}
use Rattle.std.specs.List.{fold, prefix_len, take_while, starts_with}
use Rattle.std.proofs.lemmas.List.Folds.{length-prefix_len}
use Rattle.std.proofs.lemmas.List.Sums.{prefix_len-le-length, prefix_len_stops, take_while-cons}
use Rattle.std.proofs.lemmas.List.{length-take, take-take, get_or-take, length-take-le, take_more}
use Rattle.std.proofs.lemmas.Bool.{ltb-true, leb-true, lt-ltb, le-leb, and_parts, and_from, cases_Bool, cases_lt, cases_eq, both_ways, not-true, ne_eqb}
use Rattle.lines.specs.Digits.{all_digits, plain, is_number, value_after}
use Rattle.lines.specs.Steps.{Leading}

-- the digits begin with 0
abbrev begins_with_zero : List ℕ → Bool
begins_with_zero [] = false
begins_with_zero (b ∷ bs) = b == 48

-- a number that begins with these digits, if there are any, can go on with the byte
abbrev goes_on : List ℕ → ℕ → Bool
goes_on text b = is_ascii_digit b && (ltb (length text) 9 && not (begins_with_zero text))

-- a number in its parts
pub record Number (text : List ℕ) : Type 0 where
  pub some : 0 < length text
  pub few : length text ≤ 9
  pub digits : all_digits text ≡ true
  pub plain' : plain text ≡ true

pub number_parts : (text : List ℕ) → is_number text ≡ true → Number text
unfolding is_number
number_parts text h =
    let both = and_parts (ltb 0 (length text) && leb (length text) 9) (all_digits text && plain text) h in
    let sizes = and_parts (ltb 0 (length text)) (leb (length text) 9) both.0 in
    let rest = and_parts (all_digits text) (plain text) both.1 in
    record { some = ltb-true 0 (length text) sizes.0; few = leb-true (length text) 9 sizes.1; digits = rest.0; plain' = rest.1 }

number_from : (text : List ℕ) → Number text → is_number text ≡ true
unfolding is_number
number_from text n =
    and_from (ltb 0 (length text) && leb (length text) 9) (all_digits text && plain text)
    (and_from (ltb 0 (length text)) (leb (length text) 9) (lt-ltb 0 (length text) n.some) (le-leb (length text) 9 n.few))
    (and_from (all_digits text) (plain text) n.digits n.plain')

-- digits in front of digits
digits_join : (xs bs : List ℕ) → all_digits xs ≡ true → all_digits bs ≡ true → all_digits (xs ++ bs) ≡ true
unfolding all_digits
digits_join [] bs h k = k
digits_join (a ∷ xs) bs h k =
    let both = and_parts (is_ascii_digit a) (all_digits xs) h in
    and_from (is_ascii_digit a) (all_digits (xs ++ bs)) both.0 (digits_join xs bs both.1 k)

-- a byte among digits, and the digits before it
pub digits_split : (xs : List ℕ) (b : ℕ) (bs : List ℕ) → all_digits (xs ++ b ∷ bs) ≡ true → (is_ascii_digit b ≡ true) × (all_digits xs ≡ true)
unfolding all_digits
digits_split [] b bs h = ((and_parts (is_ascii_digit b) (all_digits bs) h).0, refl)
digits_split (a ∷ xs) b bs h =
    let both = and_parts (is_ascii_digit a) (all_digits (xs ++ b ∷ bs)) h in
    let rest = digits_split xs b bs both.1 in
    (rest.0, and_from (is_ascii_digit a) (all_digits xs) both.0 rest.1)

one_digit : (b : ℕ) → is_ascii_digit b ≡ true → all_digits (b ∷ []) ≡ true
unfolding all_digits
one_digit b h = and_from (is_ascii_digit b) true h refl

plain_more : (ds : List ℕ) (b : ℕ) → plain (ds ++ b ∷ []) ≡ not (begins_with_zero ds)
unfolding plain
plain_more [] b = refl
plain_more (d ∷ []) b = refl
plain_more (d ∷ (e ∷ ds)) b = refl

plain_less : (ds : List ℕ) (b : ℕ) (bs : List ℕ) → plain (ds ++ b ∷ bs) ≡ true → plain (ds ++ b ∷ []) ≡ true
unfolding plain
plain_less [] b bs h = refl
plain_less (d ∷ []) b bs h = h
plain_less (d ∷ (e ∷ ds)) b bs h = h

-- a number goes on only so
number_goes_on : (ds : List ℕ) (b : ℕ) → is_number (ds ++ b ∷ []) ≡ true → goes_on ds b ≡ true
number_goes_on ds b h =
    let n = number_parts (ds ++ b ∷ []) h in
    and_from (is_ascii_digit b) (ltb (length ds) 9 && not (begins_with_zero ds)) (digits_split ds b [] n.digits).0
    (and_from (ltb (length ds) 9) (not (begins_with_zero ds)) (lt-ltb (length ds) 9 (omega (arith, n.few, length-append ds (b ∷ [])))) (sym (plain_more ds b) ∙ n.plain'))

-- a number's digits up to any of them are a number
pub number_front : (ds : List ℕ) (b : ℕ) (bs : List ℕ) → is_number (ds ++ b ∷ bs) ≡ true → is_number (ds ++ b ∷ []) ≡ true
number_front ds b bs h =
    let n = number_parts (ds ++ b ∷ bs) h in
    let split = digits_split ds b bs n.digits in
    number_from (ds ++ b ∷ []) (record {
      some = omega (arith, length-append ds (b ∷ []));
      few = omega (arith, n.few, length-append ds (b ∷ []), length-append ds (b ∷ bs));
      digits = digits_join ds (b ∷ []) split.1 (one_digit b split.0);
      plain' = plain_less ds b bs n.plain';
    })

-- the digits at the front are digits
front_digits : (xs : List ℕ) → all_digits (take_while is_ascii_digit xs) ≡ true
unfolding all_digits
front_digits [] = refl
front_digits (x ∷ xs) = subst (λ l. all_digits l ≡ true) (sym (take_while-cons is_ascii_digit x xs)) (by (is_ascii_digit x) refl (front_digits xs)) where
  by : (digit : Bool) → is_ascii_digit x ≡ digit → all_digits (take_while is_ascii_digit xs) ≡ true → all_digits (cond digit (x ∷ take_while is_ascii_digit xs) []) ≡ true
  by true d rest = and_from (is_ascii_digit x) (all_digits (take_while is_ascii_digit xs)) d rest
  by false d rest = refl

zero_front : (bytes : List ℕ) (n : ℕ) → 0 < n → begins_with_zero (take n bytes) ≡ begins_with_zero bytes
zero_front bytes zero some = absurd (omega arith)
zero_front [] (suc n) some = refl
zero_front (b ∷ bs) (suc n) some = refl

-- a front of more than one byte has no leading zero where the bytes do not begin with 0
plain_front : (bytes : List ℕ) (n : ℕ) → (begins_with_zero bytes ≡ true → n ≤ 1) → plain (take n bytes) ≡ true
unfolding plain
plain_front bytes zero few = refl
plain_front [] (suc n) few = refl
plain_front (b ∷ bs) (suc zero) few = refl
plain_front (b ∷ []) (suc (suc n)) few = refl
plain_front (b ∷ (c ∷ cs)) (suc (suc n)) few = by (b == 48) refl where
  by : (leads : Bool) → (b == 48) ≡ leads → not leads ≡ true
  by true z = absurd (omega (arith, few z))
  by false z = refl

-- bytes begin with 0, as the code tests it
starts_zero : (bytes : List ℕ) → starts_with eqb bytes (48 ∷ []) ≡ begins_with_zero bytes
starts_zero [] = refl
starts_zero (b ∷ bs) =
    ⊎_elim
    (λ e. subst (λ x. starts_with eqb (x ∷ bs) (48 ∷ []) ≡ (x == 48)) (sym e) refl)
    (λ h. ap (λ t. t && true) (ne_eqb 48 b (λ e. h (sym e))) ∙ sym (ne_eqb b 48 h))
    (cases_eq b 48)

pub most_digits : (bytes : List ℕ) (leads : Bool) (most : ℕ) → leads ≡ starts_with eqb bytes (48 ∷ []) → most ≡ cond leads 1 9 → most ≡ cond (begins_with_zero bytes) 1 9
most_digits bytes leads most is e = e ∙ ap (λ t. cond t 1 9) (is ∙ starts_zero bytes)

-- the digits at the front of the bytes, of which one counts behind a leading zero and else nine, are the longest number there
module _ (bytes : List ℕ) (most n : ℕ) (is : n ≡ length (take_while is_ascii_digit (take most bytes))) where
  counted : n ≡ prefix_len is_ascii_digit (take most bytes)
  counted = is ∙ length-prefix_len is_ascii_digit (take most bytes)

  within_most : (n ≤ length bytes) × (n ≤ most)
  within_most = let less = prefix_len-le-length is_ascii_digit (take most bytes) in (omega (arith, counted, less, length-take most bytes), omega (arith, counted, less, length-take most bytes))

  front : take_while is_ascii_digit (take most bytes) ≡ take n bytes
  front = ap (λ k. take k (take most bytes)) (sym counted) ∙ take-take n most bytes within_most.1

  stops : n < most → n < length bytes → is_ascii_digit (get_or bytes n 0) ≡ false
  stops less inside =
      subst (λ b. is_ascii_digit b ≡ false) (ap (λ k. get_or (take most bytes) k 0) (sym counted) ∙ get_or-take most bytes n 0 less)
      (prefix_len_stops is_ascii_digit (take most bytes) 0 (omega (arith, counted, length-take most bytes)))

  -- the most that count have no byte more that goes on
  full : n ≡ most → n ≤ length bytes → goes_on (take n bytes) (get_or bytes n 0) ≡ true → (leads : Bool) → begins_with_zero bytes ≡ leads → most ≡ cond leads 1 9 → ⊥
  full all inside h leads z e =
      let rest = and_parts (ltb (length (take n bytes)) 9) (not (begins_with_zero (take n bytes))) (and_parts (is_ascii_digit (get_or bytes n 0)) _ h).1 in
      by leads z e rest.0 rest.1
    where
      by : (leads : Bool) → begins_with_zero bytes ≡ leads → most ≡ cond leads 1 9 → ltb (length (take n bytes)) 9 ≡ true → not (begins_with_zero (take n bytes)) ≡ true → ⊥
      by true z e few other = both_ways (begins_with_zero (take n bytes)) (not-true (begins_with_zero (take n bytes)) other) (zero_front bytes n (omega (arith, e)) ∙ z)
      by false z e few other = omega (arith, e, ltb-true (length (take n bytes)) 9 few, length-take-le n bytes inside)

  no_more : most ≡ cond (begins_with_zero bytes) 1 9 → n < length bytes → goes_on (take n bytes) (get_or bytes n 0) ≡ true → ⊥
  no_more e inside h =
      ⊎_elim
      (λ less. both_ways (is_ascii_digit (get_or bytes n 0)) (stops less inside) (and_parts (is_ascii_digit (get_or bytes n 0)) _ h).0)
      (λ all. full (omega (arith, all, within_most.1)) (omega arith) h (begins_with_zero bytes) refl e)
      (cases_lt n most)

  at_most : (leads : Bool) → most ≡ cond leads 1 9 → (most ≤ 9) × (leads ≡ true → most ≤ 1)
  at_most true e = (omega arith, λ z. omega arith)
  at_most false e = (omega arith, λ z. absurd (both_ways false refl z))

  pub leading : most ≡ cond (begins_with_zero bytes) 1 9 → Leading bytes n
  leading e =
      let top = at_most (begins_with_zero bytes) e in
      let long = length-take-le n bytes within_most.0 in
      record {
        within = within_most.0;
        number = λ some.
            number_from (take n bytes) (record {
              some = omega (arith, long);
              few = omega (arith, long, within_most.1, top.0);
              digits = subst (λ x. all_digits x ≡ true) front (front_digits (take most bytes));
              plain' = plain_front bytes n (λ z. omega (arith, top.1 z, within_most.1));
            });
        longest = λ inside.
            ⊎_elim
            (λ t. absurd (no_more e inside (number_goes_on (take n bytes) (get_or bytes n 0) (subst (λ x. is_number x ≡ true) (take_more bytes n 0 inside) t))))
            (λ e. e)
            (cases_Bool (is_number (take (n + 1) bytes)));
      }

-- a value as far as 32 bits go
abbrev pub cap : ℕ → ℕ
cap n = min 4294967295 n

-- and with a digit more, as the code adds it
abbrev pub with_digit : ℕ → ℕ → ℕ
with_digit v d = cap (cap (v * 10) + (d - 48))

pub cap_fold : (v w : ℕ) (ds : List ℕ) → v ≡ cap w → fold with_digit v ds ≡ cap (value_after w ds)
unfolding value_after
cap_fold v w [] e = e
cap_fold v w (d ∷ ds) e = cap_fold (with_digit v d) (w * 10 + (d - 48)) ds (omega arith)

-- so many digits come to a value of no more digits
small_after : (v k : ℕ) (ds : List ℕ) → v < 10 ^ k → all_digits ds ≡ true → value_after v ds < 10 ^ (k + length ds)
unfolding value_after all_digits
small_after v k [] h digits = subst (λ n. v < 10 ^ n) (omega arith) h
small_after v k (d ∷ ds) h digits =
    let both = and_parts (is_ascii_digit d) (all_digits ds) digits in
    let top = and_parts (leb 48 d) (leb d 57) both.0 in
    let power : 10 ^ (k + 1) ≡ 10 ^ k * 10 = pow-add 10 k 1 in
    let step : v * 10 + (d - 48) < 10 ^ (k + 1) = omega (arith, leb-true d 57 top.1) in
    subst (λ n. value_after (v * 10 + (d - 48)) ds < 10 ^ n) (omega arith) (small_after (v * 10 + (d - 48)) (k + 1) ds step both.1)

-- a number's value has at most nine digits
pub number_small : (text : List ℕ) → is_number text ≡ true → value_after 0 text < 1000000000
number_small text h =
    let n = number_parts text h in
    let less : 10 ^ (0 + length text) ≤ 10 ^ 9 = pow-le-pow_right {n = 10} (omega arith) {i = 0 + length text} {j = 9} (omega (arith, n.few)) in
    omega (arith, small_after 0 0 text (omega arith) n.digits)

pub zero_number : is_number (48 ∷ []) ≡ true
unfolding is_number all_digits plain
zero_number = refl
