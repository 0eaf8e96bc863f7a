-- How reading goes on, part by part. Assumes nothing.
use Rattle.std.proofs.Common.{◌≡◌, ℕ, true, false, List, [], ◌∷◌, ◌++◌, sym, refl, ap, ◌∙◌, subst, append_assoc, arith}
use Rattle.std.specs.Char.{is_ascii_digit}
use Rattle.book.specs.declared.orders.Side.{Side}
use Rattle.book.specs.declared.orders.Side.TheVariants.{Buy, Sell}
use Rattle.lines.specs.Digits.{is_number}
use Rattle.lines.specs.Forms.{letter_of}
use Rattle.lines.specs.Steps.{Part, byte, side, number, Fits, Ended, Unended, Stuck}
use Rattle.lines.proofs.Lengths.{unended_byte, unended_digits, unended_join}
use Rattle.lines.proofs.Numbering.{number_parts}
use Rattle.lines.proofs.Fitting.{same_end, side_rest}

-- what was read leads from the bytes that are wanted to those that are wanted of the rest, and from nowhere else
pub record Step (Whole Rest : List ℕ → Type 0) (read rest : List ℕ) : Type 0 where
  pub leads : (more : List ℕ) → Rest more → Whole (read ++ more)
  pub forces : (b : ℕ) (tail more : List ℕ) → rest ≡ b ∷ tail → Whole (read ++ b ∷ more) → Rest (b ∷ more)
  pub unended : Unended read

-- the same where more was read before the rest
forced : {Whole Rest : List ℕ → Type 0} {read rest : List ℕ} (done : List ℕ) → Step Whole Rest read (done ++ rest) → (b : ℕ) (tail more : List ℕ) → rest ≡ b ∷ tail → Whole (read ++ (done ++ b ∷ more)) → Rest (done ++ b ∷ more)
forced [] s b tail more e w = s.forces b tail more e w
forced {Whole} {Rest} {read} {rest} (d ∷ ds) s b tail more e w = s.forces d (ds ++ rest) (ds ++ b ∷ more) refl w

-- one step and then another
pub step_join : {P Q R : List ℕ → Type 0} {xs ys rest : List ℕ} → Step P Q xs (ys ++ rest) → Step Q R ys rest → Step P R (xs ++ ys) rest
step_join {P} {Q} {R} {xs} {ys} {rest} s t =
    record {
      leads = λ more r. subst P (sym (append_assoc xs ys more)) (s.leads (ys ++ more) (t.leads more r));
      forces = λ b tail more e w. t.forces b tail more e (forced ys s b tail more e (subst P (append_assoc xs ys (b ∷ more)) w));
      unended = unended_join xs ys s.unended t.unended;
    }

-- where reading stops after a step
pub stuck_after : {P Q : List ℕ → Type 0} {xs ys rest : List ℕ} → Step P Q xs (ys ++ rest) → Stuck Q ys rest → Stuck P (xs ++ ys) rest
stuck_after {P} {Q} {xs} {ys} {rest} s t =
    record {
      could = (t.could.0, subst P (sym (append_assoc xs ys t.could.0)) (s.leads (ys ++ t.could.0) t.could.1));
      cannot = λ b tail more e w. t.cannot b tail more e (forced ys s b tail more e (subst P (append_assoc xs ys (b ∷ more)) w));
      unended = unended_join xs ys s.unended t.unended;
    }

-- a byte, ..
pub step_byte : (b : ℕ) (parts : List Part) (rest : List ℕ) → (b ≡ 10 → ⊥) → Step (Fits (byte b ∷ parts)) (Fits parts) (b ∷ []) rest
step_byte b parts rest h =
    record {
      leads = λ more f. (more, refl, f);
      forces = λ c tail more e f. let q = f.1 in let same : f.0 ≡ c ∷ more = cc in subst (Fits parts) same f.2;
      unended = unended_byte b h;
    }

-- .. a side's letter, ..
side_unended : (s : Side) → Unended (letter_of s)
side_unended Buy = unended_byte 66 (λ e. omega arith)
side_unended Sell = unended_byte 83 (λ e. omega arith)

pub step_side : (s : Side) (parts : List Part) (rest : List ℕ) → Step (Fits (side ∷ parts)) (Fits parts) (letter_of s) rest
step_side s parts rest =
    record {
      leads = λ more f. (s, more, refl, f);
      forces = λ c tail more e f. subst (Fits parts) (sym (side_rest s f.0 (c ∷ more) f.1 f.2)) f.3;
      unended = side_unended s;
    }

-- .. a number as far as it goes, before a byte that is no digit, ..
step_number : (text : List ℕ) (c : ℕ) (parts : List Part) (rest : List ℕ) → is_number text ≡ true → is_ascii_digit c ≡ false → Ended text rest → Step (Fits (number ∷ (byte c ∷ parts))) (Fits (byte c ∷ parts)) text rest
step_number text c parts rest n other ends =
    record {
      leads = λ more f. (text, more, n, refl, f);
      forces = λ b tail more e f.
          let g = f.4 in
          let whole : text ++ b ∷ more ≡ f.0 ++ c ∷ g.0 = f.3 ∙ ap (λ x. f.0 ++ x) g.1 in
          let same : b ∷ more ≡ c ∷ g.0 = same_end text f.0 b c more g.0 n f.2 (ends b tail e) other whole in
          (g.0, same, g.2);
      unended = unended_digits text (number_parts text n).digits;
    }

-- .. a space and a number
pub step_field : (text : List ℕ) (c : ℕ) (parts : List Part) (rest : List ℕ) → is_number text ≡ true → is_ascii_digit c ≡ false → Ended text rest → Step (Fits (byte 32 ∷ (number ∷ (byte c ∷ parts)))) (Fits (byte c ∷ parts)) (32 ∷ text) rest
step_field text c parts rest n other ends = step_join (step_byte 32 (number ∷ (byte c ∷ parts)) (text ++ rest) (λ e. omega arith)) (step_number text c parts rest n other ends)
