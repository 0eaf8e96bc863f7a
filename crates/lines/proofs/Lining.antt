-- What the reader takes and answers, way by way of the code: a line of each kind, none, the next. Assumes nothing.
use Rattle.std.proofs.Common.{◌≡◌, ℕ, ◌+◌, ◌-◌, ◌<◌, ◌≤◌, List, [], ◌∷◌, ◌++◌, length, take, drop, Some, None, Option, sym, refl, ap, ◌∙◌, subst, arith, length-drop}
use Rattle.std.proofs.lemmas.List.{take_rest, drop_all, drop_more}
use Rattle.book.specs.declared.orders.Side.{Side}
use Rattle.book.specs.declared.orders.Side.TheVariants.{Buy, Sell}
use Rattle.lines.specs.declared.fields.Field.{Field}
use Rattle.lines.specs.declared.kinds.Line.{Line}
use Rattle.lines.specs.declared.kinds.Line.TheVariants.{Opening, Entry, Cut, Withdrawal}
use Rattle.lines.specs.declared.reader.LineReader.{LineReader}
use Rattle.lines.specs.Forms.{letter_of, end, IsLine}
use Rattle.lines.specs.Kinds.{Kind}
use Rattle.lines.specs.Kinds as kind
use Rattle.lines.specs.Reading.{line_length, next_start, digits, past}
use Rattle.lines.specs.Steps.{side, byte, Fits, behind, letter, left, Moved, Halted, Next, NumberAt, TookSide, TookLastField, TookFields, TookForm, TookLine}
use Rattle.lines.proofs.Lengths.{length_none, length_some, length_within}
use Rattle.lines.proofs.Fitting.{line_kind, kind_line, letter_no_end, same_kind}
use Rattle.lines.proofs.Halting.{moved_number, moved_join, moved_place, halted_after}
use Rattle.lines.proofs.Stepping.{step_byte, step_side, step_join}

one_byte : (s : Side) → length (letter_of s) ≡ 1
one_byte Buy = refl
one_byte Sell = refl

-- the letter of a kind was read, but no line of it
pub no_form : {r s t : LineReader} (k : Kind) → Moved r s (letter k ∷ []) → Halted (Fits (behind k)) s t → TookForm k r t None
no_form {r} {s} {t} k told h = halted_after told (step_byte (letter k) (behind k) (left s) (letter_no_end k)) h

-- no fields of an entry, of which the side was read
pub no_fields : {r s t : LineReader} (which : Side) → TookSide r s (Some which) → TookFields s t None → Halted (Fits (behind kind.Entry)) r t
no_fields {r} {s} {t} which m h =
    halted_after m (step_join (step_byte 32 (side ∷ behind kind.Cut) (letter_of which ++ left s) (λ e. omega arith)) (step_side which (behind kind.Cut) (left s))) h

-- numbers of the feed that was left are those of a line that was read further
module _ {r s : LineReader} {read : List ℕ} (so_far : Moved r s read) (ahead : ℕ) (is : length read + 1 ≡ ahead) where
  first_at : {f : Field} → NumberAt s (s.position + 1) f → NumberAt r (r.position + ahead) f
  first_at n = moved_number so_far (omega (arith, moved_place so_far, is)) n

  one_of : {t : LineReader} (f : Field) → TookLastField s t (Some f) → Moved r t (read ++ 32 ∷ (digits f ++ end)) × NumberAt r (r.position + ahead) f
  one_of f (m, n) = (moved_join so_far m, first_at n)

  two_of : {t : LineReader} (f g : Field) → TookFields s t (Some (f, g)) → Moved r t (read ++ 32 ∷ (digits f ++ (32 ∷ (digits g ++ end)))) × NumberAt r (r.position + ahead) f × NumberAt r (past f + 1) g
  two_of f g (m, n, n') = (moved_join so_far m, first_at n, moved_number so_far refl n')

-- a line of a kind, of which the letter was read from r to s and the rest to t
module _ {r s t : LineReader} where
  pub opening_of : (f g : Field) → Moved r s (79 ∷ []) → TookFields s t (Some (f, g)) → TookForm kind.Opening r t (Some (Opening f g))
  opening_of f g told took = let (m, n, n') = two_of told 2 refl f g took in (m, (n.number, n'.number), (n.stands, n'.stands))

  pub cut_of : (f g : Field) → Moved r s (67 ∷ []) → TookFields s t (Some (f, g)) → TookForm kind.Cut r t (Some (Cut f g))
  cut_of f g told took = let (m, n, n') = two_of told 2 refl f g took in (m, (n.number, n'.number), (n.stands, n'.stands))

  pub withdrawal_of : (f : Field) → Moved r s (87 ∷ []) → TookLastField s t (Some f) → TookForm kind.Withdrawal r t (Some (Withdrawal f))
  withdrawal_of f told took = let (m, n) = one_of told 2 refl f took in (m, n.number, n.stands)

  -- an entry, of which the side was read from q
  pub entry_of : {q : LineReader} (which : Side) (f g : Field) → Moved r q (69 ∷ []) → TookSide q s (Some which) → TookFields s t (Some (f, g)) → TookForm kind.Entry r t (Some (Entry which f g))
  entry_of which f g told turn took = let (m, n, n') = two_of (moved_join told turn) 4 (omega (arith, one_byte which)) f g took in (m, (n.number, n'.number), (n.stands, n'.stands))

-- a form that begins with the byte that comes next is the only one that can be a line
module _ (r t : LineReader) (k : Kind) (next : Next r (Some (letter k))) where
  abbrev Form : List ℕ → Type 0
  Form = Fits (byte (letter k) ∷ behind k)

  form_line : (bytes : List ℕ) → Form bytes → IsLine bytes
  form_line bytes (rest, e, f) = subst IsLine (sym e) (kind_line k rest f)

  line_form : (more : List ℕ) → IsLine (letter k ∷ more) → Form (letter k ∷ more)
  line_form more line =
      let told = line_kind (letter k) more line in
      (more, refl, subst (λ j. Fits (behind j) more) (sym (same_kind k told.0 told.1)) told.2)

  starts : left r ≡ letter k ∷ drop (r.position + 1) r.feed.now
  starts = drop_more r.feed.now r.position 0 next.0 ∙ ap (λ b. b ∷ drop (r.position + 1) r.feed.now) next.1

  begun : (read : List ℕ) (b : ℕ) (tail more : List ℕ) → left r ≡ read ++ b ∷ tail → IsLine (read ++ b ∷ more) → Form (read ++ b ∷ more)
  begun [] b tail more e line = let is : letter k ≡ b = let q = starts in cc in subst (λ c. IsLine (c ∷ more) → Form (c ∷ more)) is (line_form more) line
  begun (x ∷ read) b tail more e line =
      let is : letter k ≡ x = let q = starts in cc in subst (λ c. IsLine (c ∷ (read ++ b ∷ more)) → Form (c ∷ (read ++ b ∷ more))) is (line_form (read ++ b ∷ more)) line

  pub line_of : (o : Option Line) → TookForm k r t o → TookLine r t o
  line_of (Some line) took = took
  line_of None h =
      record {
        read = h.read;
        moved = h.moved;
        stuck = record {
          could = (h.stuck.could.0, form_line (h.read ++ h.stuck.could.0) h.stuck.could.1);
          cannot = λ b tail more e line. h.stuck.cannot b tail more e (begun h.read b tail more (h.moved.over ∙ ap (λ x. h.read ++ x) e) line);
          unended = h.stuck.unended;
        };
      }

-- at the feed's end no line is left
pub next_none : (feed : List ℕ) (at : ℕ) → length feed ≤ at → at ≡ next_start feed at
next_none feed at end = omega (arith, ap line_length (drop_all at feed end), length_none)

-- before it the next line starts further on
pub next_onward : (feed : List ℕ) (from to : ℕ) → from < length feed → to ≡ next_start feed from → from < to
next_onward feed from to inside e = omega (arith, length_some (drop from feed) (omega (arith, length-drop from feed)))

-- the rest of a line, as the code cuts it
module _ (r : LineReader) (n : ℕ) (is : n ≡ line_length (take (length r.feed.now - r.position) (left r))) where
  pub rest_length : n ≡ line_length (left r)
  rest_length = is ∙ ap line_length (take_rest r.feed.now r.position)

  pub rest_within : r.position + n ≤ length r.feed.now
  rest_within = omega (arith, r.inside, rest_length, length_within (left r), length-drop r.position r.feed.now)
