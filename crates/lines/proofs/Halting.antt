-- Where the reader stands, and where it stops. Assumes nothing.
use Rattle.std.proofs.Common.{◌≡◌, ℕ, ◌+◌, ◌-◌, ◌<◌, true, false, List, [], ◌∷◌, ◌++◌, length, get_or, take, drop, Some, sym, refl, ap, ◌∙◌, subst, ⊎_elim, append_assoc, arith, length-append, length-drop}
use Rattle.std.proofs.lemmas.List.{append-nil, drop_more, take_at}
use Rattle.std.proofs.lemmas.Bool.{both_ways}
use Rattle.lines.specs.declared.fields.Field.{Field}
use Rattle.lines.specs.declared.reader.LineReader.{LineReader}
use Rattle.lines.specs.Kinds.{Kind, Opening, Entry, Cut, Withdrawal, Uncrossing}
use Rattle.book.specs.declared.orders.Side.{Side}
use Rattle.book.specs.declared.orders.Side.TheVariants.{Buy, Sell}
use Rattle.lines.specs.Digits.{is_number}
use Rattle.lines.specs.Forms.{Message, uncrossing, letter_of, written, Legal, IsLine}
use Rattle.lines.specs.Reading.{line_length, next_start, part, FieldAt, Refused}
use Rattle.lines.specs.Steps.{Part, byte, side, number, Fits, letter, left, Unended, Moved, Halted, Next, NumberAt}
use Rattle.lines.proofs.Lengths.{EndsLine, unended_none, unended_line}
use Rattle.lines.proofs.Numbering.{number_parts, number_front}
use Rattle.lines.proofs.Fitting.{fill, overlap, line_kind, line_ends, same_message}
use Rattle.lines.proofs.Stepping.{Step, stuck_after}

-- the reader's place behind what it read
pub moved_place : {r s : LineReader} {read : List ℕ} → Moved r s read → s.position ≡ r.position + length read
moved_place {r} {s} {read} m =
    omega (arith, r.inside, s.inside, ap length m.same, ap length m.over, length-append read (left s), length-drop r.position r.feed.now, length-drop s.position s.feed.now)

-- a number of the feed that was left and of the place that was reached
pub moved_number : {r s : LineReader} {f : Field} {read : List ℕ} {p q : ℕ} → Moved r s read → p ≡ q → NumberAt s p f → NumberAt r q f
moved_number {r} {s} {f} {read} {p} {q} m e h =
    record { number = h.number; stands = subst (λ x. FieldAt x q f) m.same (subst (λ x. FieldAt s.feed.now x f) e h.stands) }

-- one move and then another
pub moved_join : {r s t : LineReader} {xs ys : List ℕ} → Moved r s xs → Moved s t ys → Moved r t (xs ++ ys)
moved_join {r} {s} {t} {xs} {ys} m n =
    record { same = n.same ∙ m.same; over = m.over ∙ ap (λ x. xs ++ x) n.over ∙ sym (append_assoc xs ys (left t)) }

-- the reader stops after a move
pub halted_after : {P Q : List ℕ → Type 0} {r s t : LineReader} {read : List ℕ} → Moved r s read → Step P Q read (left s) → Halted Q s t → Halted P r t
halted_after {P} {Q} {r} {s} {t} {read} m step h =
    record { read = read ++ h.read; moved = moved_join m h.moved; stuck = stuck_after (subst (Step P Q read) h.moved.over step) h.stuck }

-- it stops where it stands
halted_here : {P : List ℕ → Type 0} (r : LineReader) → (more : List ℕ) × P more → ((b : ℕ) → Next r (Some b) → (more : List ℕ) → P (b ∷ more) → ⊥) → Halted P r r
halted_here {P} r could cannot =
    record {
      read = [];
      moved = record { same = refl; over = refl };
      stuck = record {
        could = could;
        cannot = λ b tail more e w.
            let inside : r.position < length r.feed.now = omega (arith, ap length e, length-drop r.position r.feed.now) in
            let is : get_or r.feed.now r.position 0 ≡ b = let q = drop_more r.feed.now r.position 0 inside in cc in
            cannot b (inside, is) more w;
        unended = unended_none;
      };
    }

-- at a byte that is not the one that is wanted
pub no_byte : (r : LineReader) (b : ℕ) → (Next r (Some b) → ⊥) → (parts : List Part) → Halted (Fits (byte b ∷ parts)) r r
no_byte r b other parts = halted_here r (fill (byte b ∷ parts)) (λ c next more f. let same : c ≡ b = let q = f.1 in cc in other (subst (λ x. Next r (Some x)) same next))

-- at no letter of a kind
pub no_kind : (r : LineReader) → ((k : Kind) → Next r (Some (letter k)) → ⊥) → Halted IsLine r r
no_kind r other =
    halted_here r (written uncrossing, record { message = uncrossing; legal = tt; whole = refl }) (λ b next more line.
    let told = line_kind b more line in other told.0 (subst (λ x. Next r (Some x)) told.1 next))

-- a byte that is none of the five letters
pub no_letter : {b : ℕ} → (b ≡ 79 → ⊥) → (b ≡ 69 → ⊥) → (b ≡ 67 → ⊥) → (b ≡ 87 → ⊥) → (b ≡ 85 → ⊥) → (k : Kind) → b ≡ letter k → ⊥
no_letter o e c w u Opening = o
no_letter o e c w u Entry = e
no_letter o e c w u Cut = c
no_letter o e c w u Withdrawal = w
no_letter o e c w u Uncrossing = u

-- at a byte that begins no number
pub no_number : (r : LineReader) → ((b : ℕ) → Next r (Some b) → is_number (b ∷ []) ≡ false) → (parts : List Part) → Halted (Fits (number ∷ parts)) r r
no_number r other parts = halted_here r (fill (number ∷ parts)) (λ b next more f. first f.0 f.1 (other b next) f.2 f.3) where
  first : {b : ℕ} {more : List ℕ} (text rest : List ℕ) → is_number (b ∷ []) ≡ false → is_number text ≡ true → b ∷ more ≡ text ++ rest → ⊥
  first {b} {more} [] rest none n e = omega (arith, (number_parts [] n).some)
  first {b} {more} (d ∷ ds) rest none n e =
      let is : d ≡ b = cc in
      both_ways (is_number (b ∷ [])) none (subst (λ x. is_number (x ∷ []) ≡ true) is (number_front [] d ds n))

-- at no letter of a side
pub no_side : (r : LineReader) → (Next r (Some 66) → ⊥) → (Next r (Some 83) → ⊥) → (parts : List Part) → Halted (Fits (side ∷ parts)) r r
no_side r buy sell parts = halted_here r (fill (side ∷ parts)) (λ b next more f. neither b f.0 f.1 next f.2) where
  neither : (b : ℕ) {more : List ℕ} (s : Side) (rest : List ℕ) → Next r (Some b) → b ∷ more ≡ letter_of s ++ rest → ⊥
  neither b Buy rest next e = let is : b ≡ 66 = cc in buy (subst (λ x. Next r (Some x)) is next)
  neither b Sell rest next e = let is : b ≡ 83 = cc in sell (subst (λ x. Next r (Some x)) is next)

-- no other line stands where a whole line was read
pub only_line : {bytes : List ℕ} (m n : Message) (us vs : List ℕ) → Legal m → Legal n → bytes ≡ written m ++ us → bytes ≡ written n ++ vs → m ≡ n
only_line {bytes} m n us vs legal legal' e q =
    let long : length (written m) ≡ length (written n) = sym (line_ends m legal us) ∙ ap line_length (sym e ∙ q) ∙ line_ends n legal' vs in
    same_message m n legal legal' (sym (take_at (written m) us (length (written m)) refl) ∙ ap (take (length (written m))) (sym e ∙ q) ∙ take_at (written n) vs (length (written m)) (sym long))

-- a whole line was read: the next starts behind it
pub next_handed : {r t : LineReader} (m : Message) → Legal m → Moved r t (written m) → t.position ≡ next_start r.feed.now r.position
next_handed {r} {t} m legal moved = omega (arith, moved_place moved, ap line_length moved.over, line_ends m legal (left t))

module _ {r t : LineReader} (h : Halted IsLine r t) where
  abbrev feed : List ℕ
  feed = r.feed.now

  abbrev place : ℕ
  place = t.position

  -- the next line starts where the one that is refused ends
  pub next_refused : place + line_length (left t) ≡ next_start feed r.position
  next_refused = omega (arith, moved_place h.moved, ap line_length h.moved.over, h.stuck.unended (left t))

  taken : part feed r.position place ≡ h.read
  taken =
      let long : length h.read ≡ place - r.position = omega (arith, moved_place h.moved) in
      ap (take (place - r.position)) h.moved.over ∙ take_at h.read (left t) (place - r.position) long

  there : left t ≡ drop place feed
  there = ap (drop place) h.moved.same

  with_next : place < length feed → part feed r.position (place + 1) ≡ h.read ++ get_or feed place 0 ∷ []
  with_next more =
      let b = get_or feed place 0 in
      let long : length (h.read ++ b ∷ []) ≡ place + 1 - r.position = omega (arith, moved_place h.moved, length-append h.read (b ∷ [])) in
      ap (take (place + 1 - r.position)) (h.moved.over ∙ ap (λ x. h.read ++ x) (there ∙ drop_more feed place 0 more) ∙ sym (append_assoc h.read (b ∷ []) (drop (place + 1) feed)))
      ∙ take_at (h.read ++ b ∷ []) (drop (place + 1) feed) (place + 1 - r.position) long

  no_line : (line rest : List ℕ) → IsLine line → left r ≡ line ++ rest → ⊥
  no_line line rest is e = ⊎_elim longer shorter (overlap h.read line (left t) rest (sym h.moved.over ∙ e)) where
    ends : EndsLine line
    ends = subst EndsLine (sym is.whole) (line_ends is.message is.legal)

    shorter : (k : List ℕ) × (h.read ≡ line ++ k) × (rest ≡ k ++ left t) → ⊥
    shorter (k, q, _) = unended_line line k (subst Unended q h.stuck.unended) ends

    longer : (k : List ℕ) × (line ≡ h.read ++ k) × (left t ≡ k ++ rest) → ⊥
    longer ([], q, r) = shorter ([], sym (append-nil h.read) ∙ sym q ∙ sym (append-nil line), sym r)
    longer (b ∷ k, q, r) = h.stuck.cannot b (k ++ rest) k r (subst IsLine q is)

  -- what the reader says of a line that it refuses
  pub refused_at : Refused feed r.position place
  refused_at =
      record {
        starts = omega (arith, moved_place h.moved);
        within = omega (arith, t.inside, ap length h.moved.same);
        could = record { more = h.stuck.could.0; line = subst (λ x. IsLine (x ++ h.stuck.could.0)) (sym taken) h.stuck.could.1 };
        cannot = λ more can.
            let b = get_or feed place 0 in
            h.stuck.cannot b (drop (place + 1) feed) can.more (there ∙ drop_more feed place 0 more)
            (subst IsLine (append_assoc h.read (b ∷ []) can.more) (subst (λ x. IsLine (x ++ can.more)) (with_next more) can.line));
        none = no_line;
      }
