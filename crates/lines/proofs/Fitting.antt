-- Bytes that are given parts, and the lines among them. Assumes nothing.
use Rattle.std.proofs.Common.{◌≡◌, ℕ, true, false, cond, eqb, ◌⊎◌, List, [], ◌∷◌, ◌++◌, sym, refl, ap, ◌∙◌, subst, inl, inr, ⊎_elim, arith}
use Rattle.std.specs.Char.{is_ascii_digit}
use Rattle.std.proofs.lemmas.List.{append-nil}
use Rattle.std.proofs.lemmas.Bool.{both_ways}
use Rattle.lines.specs.Kinds.{Kind, Opening, Entry, Cut, Withdrawal, Uncrossing}
use Rattle.book.specs.declared.orders.Side.{Side}
use Rattle.book.specs.declared.orders.Side.TheVariants.{Buy, Sell}
use Rattle.lines.specs.Digits.{is_number}
use Rattle.lines.specs.Forms.{Message, opening, entry, cut, withdrawal, uncrossing, letter_of, end, written, Legal, IsLine}
use Rattle.lines.specs.Steps.{Part, byte, side, number, Fits, behind, letter}
use Rattle.lines.proofs.Lengths.{EndsLine, ends_byte, ends_after, unended_byte, unended_digits}
use Rattle.lines.proofs.Numbering.{number_parts, number_front, digits_split, zero_number}

-- there are bytes for any parts
pub fill : (parts : List Part) → (bytes : List ℕ) × Fits parts bytes
fill [] = ([], refl)
fill (byte b ∷ parts) = let f = fill parts in (b ∷ f.0, (f.0, refl, f.1))
fill (side ∷ parts) = let f = fill parts in (letter_of Buy ++ f.0, (Buy, f.0, refl, f.1))
fill (number ∷ parts) = let f = fill parts in (48 ∷ f.0, (48 ∷ [], f.0, zero_number, refl, f.1))

-- two fronts of one list: one is a front of the other
pub overlap : (xs ys us vs : List ℕ) → xs ++ us ≡ ys ++ vs → ((k : List ℕ) × (ys ≡ xs ++ k) × (us ≡ k ++ vs)) ⊎ ((k : List ℕ) × (xs ≡ ys ++ k) × (vs ≡ k ++ us))
overlap [] ys us vs e = inl (ys, refl, e)
overlap (x ∷ xs) [] us vs e = inr (x ∷ xs, refl, sym e)
overlap (x ∷ xs) (y ∷ ys) us vs e =
    let heads : x ≡ y = cc in
    let tails : xs ++ us ≡ ys ++ vs = cc in
    ⊎_elim
    (λ p. let q = p.1 in inl (p.0, cc, p.2))
    (λ p. let q = p.1 in inr (p.0, cc, p.2))
    (overlap xs ys us vs tails)

-- a number ends where no longer one begins: any other number there that a byte but a digit follows is the same
pub same_end : (ds es : List ℕ) (b c : ℕ) (us vs : List ℕ) → is_number ds ≡ true → is_number es ≡ true → is_number (ds ++ b ∷ []) ≡ false → is_ascii_digit c ≡ false → ds ++ b ∷ us ≡ es ++ c ∷ vs → b ∷ us ≡ c ∷ vs
same_end ds es b c us vs n m longest other e = ⊎_elim longer shorter (overlap ds es (b ∷ us) (c ∷ vs) e) where
  longer : (k : List ℕ) × (es ≡ ds ++ k) × (b ∷ us ≡ k ++ c ∷ vs) → b ∷ us ≡ c ∷ vs
  longer ([], _, r) = r
  longer (x ∷ k, q, r) =
      let is : x ≡ b = cc in
      absurd (both_ways (is_number (ds ++ b ∷ [])) longest (subst (λ y. is_number (ds ++ y ∷ []) ≡ true) is (number_front ds x k (subst (λ y. is_number y ≡ true) q m))))

  shorter : (k : List ℕ) × (ds ≡ es ++ k) × (c ∷ vs ≡ k ++ b ∷ us) → b ∷ us ≡ c ∷ vs
  shorter ([], _, r) = sym r
  shorter (x ∷ k, q, r) =
      let is : x ≡ c = cc in
      absurd (both_ways (is_ascii_digit c) other (subst (λ y. is_ascii_digit y ≡ true) is (digits_split es x k (number_parts (es ++ x ∷ k) (subst (λ y. is_number y ≡ true) q n)).digits).0))

-- two texts of digits that bytes but digits follow are the same where the whole is
same_text : (ds es : List ℕ) (b c : ℕ) (us vs : List ℕ) → is_number ds ≡ true → is_number es ≡ true → is_ascii_digit b ≡ false → is_ascii_digit c ≡ false → ds ++ b ∷ us ≡ es ++ c ∷ vs → (ds ≡ es) × (us ≡ vs)
same_text ds es b c us vs n m low high e =
    ⊎_elim
    (λ p. both ds es b us vs c m low p.0 p.1 p.2)
    (λ p. let q = both es ds c vs us b n high p.0 p.1 p.2 in (sym q.0, sym q.1))
    (overlap ds es (b ∷ us) (c ∷ vs) e) where
      both : (ds es : List ℕ) (b : ℕ) (us vs : List ℕ) (c : ℕ) → is_number es ≡ true → is_ascii_digit b ≡ false → (k : List ℕ) → es ≡ ds ++ k → b ∷ us ≡ k ++ c ∷ vs → (ds ≡ es) × (us ≡ vs)
      both ds es b us vs c m low [] q r = (sym (q ∙ append-nil ds), cc)
      both ds es b us vs c m low (x ∷ k) q r =
          let is : x ≡ b = cc in
          absurd (both_ways (is_ascii_digit b) low (subst (λ y. is_ascii_digit y ≡ true) is (digits_split ds x k (number_parts (ds ++ x ∷ k) (subst (λ y. is_number y ≡ true) q m)).digits).0))

-- the kind of a message
abbrev kind_of : Message → Kind
kind_of (opening tick scarcity) = Opening
kind_of (entry s quantity price) = Entry
kind_of (cut order quantity) = Cut
kind_of (withdrawal order) = Withdrawal
kind_of uncrossing = Uncrossing

-- the bytes of a message behind its letter
abbrev rest_of : Message → List ℕ
rest_of (opening tick scarcity) = 32 ∷ (tick ++ (32 ∷ (scarcity ++ end)))
rest_of (entry s quantity price) = 32 ∷ (letter_of s ++ (32 ∷ (quantity ++ (32 ∷ (price ++ end)))))
rest_of (cut order quantity) = 32 ∷ (order ++ (32 ∷ (quantity ++ end)))
rest_of (withdrawal order) = 32 ∷ (order ++ end)
rest_of uncrossing = end

in_two : (m : Message) → written m ≡ letter (kind_of m) ∷ rest_of m
in_two (opening tick scarcity) = refl
in_two (entry s quantity price) = refl
in_two (cut order quantity) = refl
in_two (withdrawal order) = refl
in_two uncrossing = refl

-- they are the parts of its kind ..
ended : Fits (byte 10 ∷ []) end
ended = ([], refl, refl)

rest_fits : (m : Message) → Legal m → Fits (behind (kind_of m)) (rest_of m)
rest_fits (opening tick scarcity) legal = (_, refl, (tick, _, legal.0, refl, (_, refl, (scarcity, _, legal.1, refl, ended))))
rest_fits (entry s quantity price) legal = (_, refl, (s, _, refl, (_, refl, (quantity, _, legal.0, refl, (_, refl, (price, _, legal.1, refl, ended))))))
rest_fits (cut order quantity) legal = (_, refl, (order, _, legal.0, refl, (_, refl, (quantity, _, legal.1, refl, ended))))
rest_fits (withdrawal order) legal = (_, refl, (order, _, legal, refl, ended))
rest_fits uncrossing legal = ended

pub line_kind : (b : ℕ) (more : List ℕ) → IsLine (b ∷ more) → (k : Kind) × (b ≡ letter k) × Fits (behind k) more
line_kind b more line =
    let m = line.message in
    let e : b ∷ more ≡ letter (kind_of m) ∷ rest_of m = line.whole ∙ in_two m in
    let head : b ≡ letter (kind_of m) = cc in
    let tail : rest_of m ≡ more = cc in
    (kind_of m, head, subst (Fits (behind (kind_of m))) tail (rest_fits m line.legal))

-- .. and such parts are a line
pub kind_line : (k : Kind) (more : List ℕ) → Fits (behind k) more → IsLine (letter k ∷ more)
kind_line Opening more (r₁, e₁, (t, r₂, n, e₂, (r₃, e₃, (u, r₄, m, e₄, (r₅, e₅, e₆))))) = record { message = opening t u; legal = (n, m); whole = cc }
kind_line Entry more (r₁, e₁, (s, r₂, e₂, (r₃, e₃, (t, r₄, n, e₄, (r₅, e₅, (u, r₆, m, e₆, (r₇, e₇, e₈))))))) = record { message = entry s t u; legal = (n, m); whole = cc }
kind_line Cut more (r₁, e₁, (t, r₂, n, e₂, (r₃, e₃, (u, r₄, m, e₄, (r₅, e₅, e₆))))) = record { message = cut t u; legal = (n, m); whole = cc }
kind_line Withdrawal more (r₁, e₁, (t, r₂, n, e₂, (r₃, e₃, e₄))) = record { message = withdrawal t; legal = n; whole = cc }
kind_line Uncrossing more (r₁, e₁, e₂) = record { message = uncrossing; legal = tt; whole = cc }

-- a line ends with its bytes
ends_field : (rest text : List ℕ) → is_number text ≡ true → EndsLine rest → EndsLine (32 ∷ (text ++ rest))
ends_field rest text n h = ends_after (32 ∷ []) (text ++ rest) (unended_byte 32 (λ e. omega arith)) (ends_after text rest (unended_digits text (number_parts text n).digits) h)

ends_side : (rest : List ℕ) (s : Side) → EndsLine rest → EndsLine (32 ∷ (letter_of s ++ rest))
ends_side rest Buy h = ends_after (32 ∷ []) (66 ∷ rest) (unended_byte 32 (λ e. omega arith)) (ends_after (66 ∷ []) rest (unended_byte 66 (λ e. omega arith)) h)
ends_side rest Sell h = ends_after (32 ∷ []) (83 ∷ rest) (unended_byte 32 (λ e. omega arith)) (ends_after (83 ∷ []) rest (unended_byte 83 (λ e. omega arith)) h)

ends_rest : (m : Message) → Legal m → EndsLine (rest_of m)
ends_rest (opening tick scarcity) legal = ends_field _ tick legal.0 (ends_field _ scarcity legal.1 ends_byte)
ends_rest (entry s quantity price) legal = ends_side _ s (ends_field _ quantity legal.0 (ends_field _ price legal.1 ends_byte))
ends_rest (cut order quantity) legal = ends_field _ order legal.0 (ends_field _ quantity legal.1 ends_byte)
ends_rest (withdrawal order) legal = ends_field _ order legal ends_byte
ends_rest uncrossing legal = ends_byte

pub letter_no_end : (k : Kind) → letter k ≡ 10 → ⊥
letter_no_end Opening e = omega arith
letter_no_end Entry e = omega arith
letter_no_end Cut e = omega arith
letter_no_end Withdrawal e = omega arith
letter_no_end Uncrossing e = omega arith

pub line_ends : (m : Message) → Legal m → EndsLine (written m)
line_ends m legal =
    subst EndsLine (sym (in_two m)) (ends_after (letter (kind_of m) ∷ []) (rest_of m) (unended_byte (letter (kind_of m)) (letter_no_end (kind_of m))) (ends_rest m legal))

-- a side's letter is one byte
pub side_rest : (s t : Side) (xs ys : List ℕ) → letter_of s ++ xs ≡ letter_of t ++ ys → xs ≡ ys
side_rest Buy Buy xs ys e = cc
side_rest Buy Sell xs ys e = cc
side_rest Sell Buy xs ys e = cc
side_rest Sell Sell xs ys e = cc

-- the message of parts of a kind
abbrev message_of : (k : Kind) (more : List ℕ) → Fits (behind k) more → Message
message_of Opening more (r₁, e₁, (t, r₂, n, e₂, (r₃, e₃, (u, r₄, m, e₄, f)))) = opening t u
message_of Entry more (r₁, e₁, (s, r₂, e₂, (r₃, e₃, (t, r₄, n, e₄, (r₅, e₅, (u, r₆, m, e₆, f)))))) = entry s t u
message_of Cut more (r₁, e₁, (t, r₂, n, e₂, (r₃, e₃, (u, r₄, m, e₄, f)))) = cut t u
message_of Withdrawal more (r₁, e₁, (t, r₂, n, e₂, f)) = withdrawal t
message_of Uncrossing more f = uncrossing

message_back : (m : Message) (legal : Legal m) → message_of (kind_of m) (rest_of m) (rest_fits m legal) ≡ m
unfolding rest_fits
message_back (opening tick scarcity) legal = refl
message_back (entry s quantity price) legal = refl
message_back (cut order quantity) legal = refl
message_back (withdrawal order) legal = refl
message_back uncrossing legal = refl

-- the same bytes have the same fields
same_two : (more more' : List ℕ) → more ≡ more' → (f : Fits (behind Cut) more) (g : Fits (behind Cut) more') → (f.2.0 ≡ g.2.0) × (f.2.4.2.0 ≡ g.2.4.2.0)
same_two more more' same (r₁, e₁, (t, r₂, n, e₂, (r₃, e₃, (u, r₄, m, e₄, (r₅, e₅, e₆))))) (q₁, d₁, (v, q₂, o, d₂, (q₃, d₃, (w, q₄, p, d₄, (q₅, d₅, d₆))))) =
    let first : t ++ 32 ∷ r₃ ≡ v ++ 32 ∷ q₃ = cc in
    let one = same_text t v 32 32 r₃ q₃ n o refl refl first in
    let rest = one.1 in
    let second : u ++ 10 ∷ r₅ ≡ w ++ 10 ∷ q₅ = cc in
    (one.0, (same_text u w 10 10 r₅ q₅ m p refl refl second).0)

same_side : (s t : Side) (xs ys : List ℕ) → letter_of s ++ xs ≡ letter_of t ++ ys → s ≡ t
same_side Buy Buy xs ys e = refl
same_side Buy Sell xs ys e = let z : ◌≡◌ {A = ℕ} 66 83 = cc in absurd (omega arith)
same_side Sell Buy xs ys e = let z : ◌≡◌ {A = ℕ} 83 66 = cc in absurd (omega arith)
same_side Sell Sell xs ys e = refl

fits_same : (k : Kind) (more : List ℕ) (f g : Fits (behind k) more) → message_of k more f ≡ message_of k more g
fits_same Opening more f g = let both = same_two more more refl f g in cc
fits_same Entry more (r₁, e₁, (s, r₂, e₂, f)) (q₁, d₁, (t, q₂, d₂, g)) =
    let sides : letter_of s ++ r₂ ≡ letter_of t ++ q₂ = cc in
    let side' = same_side s t r₂ q₂ sides in
    let both = same_two r₂ q₂ (side_rest s t r₂ q₂ sides) f g in
    cc
fits_same Cut more f g = let both = same_two more more refl f g in cc
fits_same Withdrawal more (r₁, e₁, (t, r₂, n, e₂, (r₃, e₃, e₄))) (q₁, d₁, (v, q₂, o, d₂, (q₃, d₃, d₄))) =
    let first : t ++ 10 ∷ r₃ ≡ v ++ 10 ∷ q₃ = cc in
    ap withdrawal (same_text t v 10 10 r₃ q₃ n o refl refl first).0
fits_same Uncrossing more f g = refl

-- a letter tells its kind
abbrev told : ℕ → Kind
told b = cond (eqb b 79) Opening (cond (eqb b 69) Entry (cond (eqb b 67) Cut (cond (eqb b 87) Withdrawal Uncrossing)))

tells : (k : Kind) → told (letter k) ≡ k
tells Opening = refl
tells Entry = refl
tells Cut = refl
tells Withdrawal = refl
tells Uncrossing = refl

pub same_kind : (j k : Kind) → letter j ≡ letter k → j ≡ k
same_kind j k e = sym (tells j) ∙ ap told e ∙ tells k

-- a line says one thing
pub same_message : (m n : Message) → Legal m → Legal n → written m ≡ written n → m ≡ n
same_message m n legal legal' e =
    let whole : letter (kind_of m) ∷ rest_of m ≡ letter (kind_of n) ∷ rest_of n = sym (in_two m) ∙ e ∙ in_two n in
    let heads : letter (kind_of m) ≡ letter (kind_of n) = cc in
    let rests : rest_of m ≡ rest_of n = cc in
    let from : Message = message_of (kind_of m) (rest_of m) (rest_fits m legal) in
    sym (message_back m legal)
    ∙ subst (λ k. (g : Fits (behind k) (rest_of n)) → from ≡ message_of k (rest_of n) g) (same_kind (kind_of m) (kind_of n) heads)
    (subst (λ r. (g : Fits (behind (kind_of m)) r) → from ≡ message_of (kind_of m) r g) rests (fits_same (kind_of m) (rest_of m) (rest_fits m legal))) (rest_fits n legal')
    ∙ message_back n legal'
