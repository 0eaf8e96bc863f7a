-- A feed of which the lines up to a position are read and judged. Assumes nothing.
use Rattle.std.proofs.Common.{◌≡◌, ℕ, ◌+◌, ◌<◌, List, [], ◌∷◌, ◌++◌, length, drop, Some, None, Ok, Err, Option, Result, sym, refl, ap, ◌∙◌, subst, append_assoc, append-nil, arith}
use lib.Seq.{append_snoc}
use Rattle.lines.specs.declared.kinds.Line.{Line}
use Rattle.lines.specs.declared.refusals.MalformedLine.{MalformedLine}
use Rattle.lines.specs.Forms.{Message, opening, entry, cut, withdrawal, uncrossing, written}
use Rattle.lines.specs.Reading.{message, next_start, Answered}
use Rattle.std.proofs.lemmas.List.{length-drop}
use Rattle.session.specs.declared.sessions.Session.{Session}
use Rattle.trading.specs.declared.calls.Call.{Call}
use Rattle.feed.specs.declared.faults.Fault.{Fault}
use Rattle.feed.specs.declared.steps.Step.{Step}
use Rattle.feed.specs.declared.steps.Step.TheVariants.{Opening, Asking}
use Rattle.feed.specs.Steps.{Read, Reads, Lawful, Terms, terms_of, judged, terms_after, all_judged, terms_after_all, with_call, calls_of}
use Rattle.feed.specs.Scripts.{Scripted}

-- what comes after the n lines that are read goes on from here
pub record Reading (feed : List ℕ) (t : Option Terms) (steps : List (Result Step Fault)) (calls : List Call) (n from : ℕ) : Type 0 where
  pub lines : List Read
  pub reads : (rest : List Read) → Reads feed from rest → Reads feed 0 (lines ++ rest)
  pub steps_are : (rest : List Read) → all_judged None 1 (lines ++ rest) ≡ steps ++ all_judged t (n + 1) rest
  pub terms_are : (rest : List Read) → terms_after_all None (lines ++ rest) ≡ terms_after_all t rest
  pub calls_are : (ss : List (Result Step Fault)) → calls_of (steps ++ ss) ≡ calls ++ calls_of ss

pub reading_starts : (feed : List ℕ) → Reading feed None [] [] 0 0
reading_starts feed = record { lines = []; reads = λ rest h. h; steps_are = λ rest. refl; terms_are = λ rest. refl; calls_are = λ ss. refl }

call_first : (s : Result Step Fault) (cs : List Call) → with_call s cs ≡ with_call s [] ++ cs
call_first (Ok Opening) cs = refl
call_first (Ok (Asking c p)) cs = refl
call_first (Err fault) cs = refl

module _ (feed : List ℕ) (t : Option Terms) (steps : List (Result Step Fault)) (calls : List Call) (n from : ℕ) (said : Result Line MalformedLine) where
  pub reading_more : Answered feed from (Some said) (next_start feed from) → Reading feed t steps calls n from
      → Reading feed (terms_after t said) (steps ++ judged t (n + 1) from said ∷ []) (calls ++ with_call (judged t (n + 1) from said) []) (n + 1) (next_start feed from)
  unfolding all_judged terms_after_all calls_of
  reading_more answered h =
      let s = judged t (n + 1) from said in
      let l : Read = record { start = from; said = said } in
      record {
        lines = h.lines ++ l ∷ [];
        reads = λ rest r. subst (λ ls. Reads feed 0 ls) (sym (append_snoc h.lines l rest)) (h.reads (l ∷ rest) (refl, answered, r));
        steps_are = λ rest. ap (all_judged None 1) (append_snoc h.lines l rest) ∙ h.steps_are (l ∷ rest) ∙ sym (append_snoc steps s (all_judged (terms_after t said) (n + 1 + 1) rest));
        terms_are = λ rest. ap (terms_after_all None) (append_snoc h.lines l rest) ∙ h.terms_are (l ∷ rest);
        calls_are = λ ss. ap calls_of (append_snoc steps s ss) ∙ h.calls_are (s ∷ ss) ∙ ap (λ cs. calls ++ cs) (call_first s (calls_of ss)) ∙ sym (append_assoc calls (with_call s []) (calls_of ss));
      }

-- a line stands inside the feed

some_bytes : (m : Message) (rest : List ℕ) → 0 < length (written m ++ rest)
some_bytes (opening tick scarcity) rest = omega arith
some_bytes (entry side quantity price) rest = omega arith
some_bytes (cut number quantity) rest = omega arith
some_bytes (withdrawal number) rest = omega arith
some_bytes uncrossing rest = omega arith

pub in_feed : (feed : List ℕ) (from to : ℕ) (said : Result Line MalformedLine) → Answered feed from (Some said) to → from < length feed
in_feed feed from to (Ok line) h = omega (arith, length-drop from feed, ap length h.stands, some_bytes (message line) (drop to feed))
in_feed feed from to (Err fault) h = h.0

-- its numbers are numbers
pub lawful : (feed : List ℕ) (from to : ℕ) (said : Result Line MalformedLine) → Answered feed from (Some said) to → Lawful said
lawful feed from to (Ok line) h = h.legal
lawful feed from to (Err fault) h = tt

-- the same of a line as it was read by a reader, judged and kept
module _ (feed bytes : List ℕ) (t t' : Option Terms) (steps steps' : List (Result Step Fault)) (calls calls' : List Call) (n n' kept from start to : ℕ) (said : Result Line MalformedLine) (s : Result Step Fault) where
  pub reading_next : bytes ≡ feed → Answered bytes from (Some said) to → to ≡ next_start bytes from → kept ≡ n → start ≡ from
      → s ≡ judged t (kept + 1) start said → t' ≡ terms_after t said → steps' ≡ steps ++ s ∷ [] → n' ≡ n + 1 → calls' ≡ calls ++ with_call s []
      → Reading feed t steps calls n from → Reading feed t' steps' calls' n' to
  reading_next eb answered et ek ea es eu ess en ecs h =
      let onto : to ≡ next_start feed from = et ∙ ap (λ b. next_start b from) eb in
      let there = subst (λ q. Answered feed from (Some said) q) onto (subst (λ b. Answered b from (Some said) to) eb answered) in
      let j = judged t (n + 1) from said in
      let ej : s ≡ j = es ∙ ap (λ k. judged t (k + 1) start said) ek ∙ ap (λ p. judged t (n + 1) p said) ea in
      let one = reading_more feed t steps calls n from said there h in
      let two = subst (λ u. Reading feed u (steps ++ j ∷ []) (calls ++ with_call j []) (n + 1) (next_start feed from)) (sym eu) one in
      let three = subst (λ ss. Reading feed t' ss (calls ++ with_call j []) (n + 1) (next_start feed from)) (sym (ess ∙ ap (λ x. steps ++ x ∷ []) ej)) two in
      let four = subst (λ cs. Reading feed t' steps' cs (n + 1) (next_start feed from)) (sym (ecs ∙ ap (λ x. calls ++ with_call x []) ej)) three in
      subst (λ k. Reading feed t' steps' calls' k to) (sym en) (subst (λ q. Reading feed t' steps' calls' (n + 1) q) (sym onto) four)

pub reading_ends : (feed : List ℕ) (session : Option Session) (steps : List (Result Step Fault)) (calls : List Call) (n from : ℕ) → from ≡ length feed → Reading feed (terms_of session) steps calls n from → Scripted feed session steps calls
unfolding all_judged terms_after_all calls_of
reading_ends feed session steps calls n from e h =
    let all : all_judged None 1 (h.lines ++ []) ≡ steps = h.steps_are [] ∙ append-nil steps in
    let whole : h.lines ++ [] ≡ h.lines = append-nil h.lines in
    let ss : steps ≡ all_judged None 1 h.lines = sym all ∙ ap (all_judged None 1) whole in
    record {
      lines = h.lines;
      reading = subst (λ ls. Reads feed 0 ls) whole (h.reads [] e);
      steps_are = ss;
      session_is = sym (h.terms_are []) ∙ ap (terms_after_all None) whole;
      calls_are = sym (append-nil calls) ∙ sym (h.calls_are []) ∙ ap calls_of (append-nil steps ∙ ss);
    }
