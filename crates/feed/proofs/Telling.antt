-- Lines of which the first i are answered, by the first of the answers to their calls. Assumes nothing.
use Rattle.std.proofs.Common.{◌≡◌, ℕ, ◌+◌, ◌<◌, ◌≤◌, List, [], ◌∷◌, ◌++◌, length, get_or, drop, Ok, Err, Result, sym, refl, ap, ◌∙◌, subst, append-nil, arith}
use lib.Seq.{append_snoc}
use Rattle.std.proofs.lemmas.List.{map-append, drop_more, drop_all}
use Rattle.note.specs.declared.trades.Trade.{Trade}
use Rattle.trading.specs.declared.calls.Call.{Call}
use Rattle.trading.specs.declared.answers.Answer.{Answer}
use Rattle.trading.specs.declared.refusals.Refusal.{Refusal}
use Rattle.trading.specs.Replies.{read as reply_read, read_all as replies_read}
use Rattle.feed.specs.declared.faults.Fault.{Fault}
use Rattle.feed.specs.declared.places.Places.{Places}
use Rattle.feed.specs.declared.replies.Done.{Done}
use Rattle.feed.specs.declared.replies.Done.TheVariants.{Accepted}
use Rattle.feed.specs.declared.steps.Step.{Step}
use Rattle.feed.specs.declared.steps.Step.TheVariants.{Opening, Asking}
use Rattle.feed.specs.Steps.{with_call, calls_of}
use Rattle.rules.specs.Rivals.{Each}
use Rattle.rules.proofs.Sums.{each_snoc}
use Rattle.engine.specs.Runs.{Within as AnswerWithin}
use Rattle.feed.specs.Replies.{told_of, told_all, read, read_all, Within, Left, AnswersOne}

-- the replies so far, and what the lines that are left are told, are what all lines are told; each call that is left has its answer
pub record Telling (ss : List (Result Step Fault)) (answers : List (Result Answer Refusal)) (replies : List (Result Done Fault)) (i : ℕ) (left : List (Result Answer Refusal)) : Type 0 where
  pub told : (log : List Trade) → read_all log replies ++ told_all (drop i ss) (replies_read log left) ≡ told_all ss (replies_read log answers)
  pub asked : length left ≡ length (calls_of (drop i ss))
  pub placed : (n : ℕ) → Each (AnswerWithin n) answers → Each (Within n) replies × Each (AnswerWithin n) left

pub tell_none : (ss : List (Result Step Fault)) (answers : List (Result Answer Refusal)) (replies : List (Result Done Fault)) (left : List (Result Answer Refusal)) → length answers ≡ length (calls_of ss) → replies ≡ [] → left ≡ answers → Telling ss answers replies 0 left
tell_none ss answers replies left e none whole = record {
  told = λ log. ap (λ rs. read_all log rs ++ told_all ss (replies_read log left)) none ∙ ap (λ as'. told_all ss (replies_read log as')) whole;
  asked = ap length whole ∙ e;
  placed = λ n all. (subst (Each (Within n)) (sym none) tt, subst (Each (AnswerWithin n)) (sym whole) all);
}

-- one line: an opening, a fault, or a call with its answer

pub one_opening : (s : Result Step Fault) (answers : List (Result Answer Refusal)) → s ≡ Ok Opening → AnswersOne s answers (Ok Accepted) answers
unfolding told_all
one_opening s answers e = subst (λ x. AnswersOne x answers (Ok Accepted) answers) (sym e) (record { head = λ log ss. refl; taken = omega arith; behind = refl; placed = λ n all. (tt, all) })

pub one_fault : (s : Result Step Fault) (fault : Fault) (answers : List (Result Answer Refusal)) → s ≡ Err fault → AnswersOne s answers (Err fault) answers
unfolding told_all
one_fault s fault answers e = subst (λ x. AnswersOne x answers (Err fault) answers) (sym e) (record { head = λ log ss. refl; taken = omega arith; behind = refl; placed = λ n all. (tt, all) })

pub one_call : (s : Result Step Fault) (c : Call) (p : Places) (answers : List (Result Answer Refusal)) (a : Result Answer Refusal) (left : List (Result Answer Refusal)) (r : Result Done Fault) → s ≡ Ok (Asking c p) → answers ≡ a ∷ left
    → ((log : List Trade) → read log r ≡ told_of p (reply_read log a)) → ((n : ℕ) → AnswerWithin n a → Within n r) → AnswersOne s answers r left
unfolding told_all
one_call s c p answers a left r e first reads placed = subst (λ x. AnswersOne x answers r left) (sym e) (subst (λ as'. AnswersOne (Ok (Asking c p)) as' r left) (sym first) (record {
  head = λ log ss. ap (λ x. x ∷ told_all ss (replies_read log left)) (sym (reads log));
  taken = omega arith;
  behind = refl;
  placed = λ n all. (placed n all.0, all.1);
}))

counted : (s : Result Step Fault) (ss : List (Result Step Fault)) → length (calls_of (s ∷ ss)) ≡ length (with_call s []) + length (calls_of ss)
unfolding calls_of
counted (Ok Opening) ss = omega arith
counted (Ok (Asking c p)) ss = omega arith
counted (Err fault) ss = omega arith

module _ (ss : List (Result Step Fault)) (answers : List (Result Answer Refusal)) (replies : List (Result Done Fault)) (i : ℕ) (left : List (Result Answer Refusal)) (d : Result Step Fault) where
  -- a call that is left has its answer
  pub answer_left : i < length ss → Telling ss answers replies i left → Left (get_or ss i d) left
  answer_left lt h =
      let rest = drop (i + 1) ss in
      let e = subst (λ ds. length left ≡ length (calls_of ds)) (drop_more ss i d lt) h.asked in
      by_kind (get_or ss i d) (e, counted (get_or ss i d) rest)
    where
      by_kind : (s : Result Step Fault) → (length left ≡ length (calls_of (s ∷ drop (i + 1) ss))) × (length (calls_of (s ∷ drop (i + 1) ss)) ≡ length (with_call s []) + length (calls_of (drop (i + 1) ss))) → Left s left
      by_kind (Ok Opening) e = tt
      by_kind (Ok (Asking c p)) e = omega (arith, e.0, e.1)
      by_kind (Err fault) e = tt

  pub tell_more : (replies' : List (Result Done Fault)) (r : Result Done Fault) (left' : List (Result Answer Refusal)) → i < length ss → AnswersOne (get_or ss i d) left r left' → replies' ≡ replies ++ r ∷ []
      → Telling ss answers replies i left → Telling ss answers replies' (i + 1) left'
  tell_more replies' r left' lt one e h =
      let s = get_or ss i d in
      let rest = drop (i + 1) ss in
      let onward = drop_more ss i d lt in
      record {
        told = λ log.
            ap (λ rs. read_all log rs ++ told_all rest (replies_read log left')) e
            ∙ ap (λ x. x ++ told_all rest (replies_read log left')) (map-append (read log) replies (r ∷ []))
            ∙ append_snoc (read_all log replies) (read log r) _
            ∙ ap (λ x. read_all log replies ++ x) (sym (one.head log rest))
            ∙ subst (λ ds. read_all log replies ++ told_all ds (replies_read log left) ≡ told_all ss (replies_read log answers)) onward (h.told log);
        asked = omega (arith, subst (λ ds. length left ≡ length (calls_of ds)) onward h.asked, counted s rest, one.taken);
        placed = λ n all.
            let before = h.placed n all in
            let here = one.placed n before.1 in
            (subst (Each (Within n)) (sym e) (each_snoc (Within n) replies r before.0 here.0), here.1);
      }

module _ (ss : List (Result Step Fault)) (answers : List (Result Answer Refusal)) (replies : List (Result Done Fault)) (i : ℕ) (left : List (Result Answer Refusal)) where
  pub told_whole : length ss ≤ i → Telling ss answers replies i left → (log : List Trade) → read_all log replies ≡ told_all ss (replies_read log answers)
  unfolding told_all
  told_whole le h log = sym (append-nil _) ∙ ap (λ ds. read_all log replies ++ told_all ds (replies_read log left)) (sym (drop_all i ss le)) ∙ h.told log
