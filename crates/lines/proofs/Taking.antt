-- What the reader takes, way by way of the code: a side, a number, the last fields of a line. Assumes nothing.
use Rattle.std.proofs.Common.{◌≡◌, ℕ, ◌+◌, ◌-◌, ◌<◌, true, false, List, [], ◌∷◌, ◌++◌, length, get_or, take, drop, Some, None, Option, sym, refl, ap, ◌∙◌, subst, arith, length-drop}
use Rattle.std.proofs.lemmas.List.{take_rest, take-append-drop, drop-drop, take_more, drop_more, take_at}
use Rattle.std.specs.Char.{is_ascii_digit}
use Rattle.lines.specs.declared.fields.Field.{Field}
use Rattle.lines.specs.declared.reader.LineReader.{LineReader}
use Rattle.lines.specs.Digits.{is_number}
use Rattle.lines.specs.Reading.{digits}
use Rattle.lines.specs.Steps.{Part, byte, side, number, Fits, Leading, left, Moved, Halted, Ended, TookNumber, TookField, TookLastField, TookFields}
use Rattle.lines.proofs.Halting.{moved_number, moved_join, moved_place, halted_after, no_number}
use Rattle.lines.proofs.Stepping.{step_byte, step_field}

-- after a space, what is read further
module _ {r s : LineReader} (space : Moved r s (32 ∷ [])) where
  after_space : {t : LineReader} (parts : List Part) → Halted (Fits parts) s t → Halted (Fits (byte 32 ∷ parts)) r t
  after_space parts h = halted_after space (step_byte 32 parts (left s) (λ e. omega arith)) h

  pub side_none : {t : LineReader} → ((parts : List Part) → Halted (Fits (side ∷ parts)) s t) → (parts : List Part) → Halted (Fits (byte 32 ∷ (side ∷ parts))) r t
  side_none h parts = after_space (side ∷ parts) (h parts)

  pub field_of : (t : LineReader) (o : Option Field) → TookNumber s t o → TookField r t o
  field_of t None h = λ parts. after_space (number ∷ parts) (h parts)
  field_of t (Some f) (m, n, e) = (moved_join space m, moved_number space (moved_place space) n, e)

-- the longest number in the rest of the feed, as the code cuts it
module _ (r : LineReader) (n : ℕ) (led : Leading (take (length r.feed.now - r.position) (left r)) n) where
  rest_led : Leading (left r) n
  rest_led = subst (λ x. Leading x n) (take_rest r.feed.now r.position) led

  pub number_none : n ≡ 0 → (parts : List Part) → Halted (Fits (number ∷ parts)) r r
  number_none none =
      no_number r (λ b next.
      let more : 0 < length (left r) = omega (arith, next.0, length-drop r.position r.feed.now) in
      let first : take 1 (left r) ≡ b ∷ [] = ap (take 1) (drop_more r.feed.now r.position 0 next.0) ∙ ap (λ x. x ∷ []) next.1 in
      subst (λ x. is_number x ≡ false) first (subst (λ k. is_number (take (k + 1) (left r)) ≡ false) none (rest_led.longest (omega (arith, none)))))

  longest_ended : Ended (take n (left r)) (drop n (left r))
  longest_ended b more e =
      let inside : n < length (left r) = omega (arith, ap length e, length-drop n (left r)) in
      let is : get_or (left r) n 0 ≡ b = let q = drop_more (left r) n 0 inside in cc in
      subst (λ x. is_number x ≡ false) (take_more (left r) n 0 inside ∙ ap (λ x. take n (left r) ++ x ∷ []) is) (rest_led.longest inside)

  pub number_some : (s : LineReader) (f : Field) → digits f ≡ take n (take (length r.feed.now - r.position) (left r)) → f.place ≡ r.position → s.feed.now ≡ r.feed.now → s.position ≡ r.position + n → 0 < n → TookNumber r s (Some f)
  number_some s f is place same on some =
      let text : digits f ≡ take n (left r) = is ∙ ap (take n) (take_rest r.feed.now r.position) in
      let rest : drop n (left r) ≡ left s = drop-drop n r.position r.feed.now ∙ ap (λ k. drop k r.feed.now) (sym on) ∙ ap (drop s.position) (sym same) in
      let over : left r ≡ digits f ++ left s = sym (take-append-drop n (left r)) ∙ ap (λ x. x ++ drop n (left r)) (sym text) ∙ ap (λ x. digits f ++ x) rest in (
        record { same = same; over = over },
        record {
          number = subst (λ x. is_number x ≡ true) (sym text) (rest_led.number some);
          stands = record { begins = place; text = sym (ap (take (length (digits f))) over ∙ take_at (digits f) (left s) (length (digits f)) refl) };
        },
        subst (λ x. Ended (digits f) x) rest (subst (λ x. Ended x (drop n (left r))) (sym text) longest_ended),
      )

-- the last field, and the end of the line
module _ {r s : LineReader} (f : Field) (took : TookField r s (Some f)) where
  after_field : {t : LineReader} (c : ℕ) (parts : List Part) → is_ascii_digit c ≡ false → Halted (Fits (byte c ∷ parts)) s t → Halted (Fits (byte 32 ∷ (number ∷ (byte c ∷ parts)))) r t
  after_field c parts other h = halted_after took.0 (step_field (digits f) c parts (left s) took.1.number other took.2) h

  pub field_unended : {t : LineReader} → ((parts : List Part) → Halted (Fits (byte 10 ∷ parts)) s t) → TookLastField r t None
  field_unended h = after_field 10 [] refl (h [])

  -- the last two fields
  pub no_second : {t : LineReader} → TookLastField s t None → TookFields r t None
  no_second h = after_field 32 (number ∷ (byte 10 ∷ [])) refl h

  pub both_fields : {t : LineReader} (g : Field) → TookLastField s t (Some g) → TookFields r t (Some (f, g))
  both_fields g (m, n) = (moved_join took.0 m, took.1, moved_number took.0 (omega (arith, took.1.stands.begins, moved_place took.0)) n)
