-- A feed that is judged and whose calls are carried out is played. Assumes nothing.
use Rattle.std.proofs.Common.{◌≡◌, ℕ, ◌+◌, Bool, true, false, cond, ◌&&◌, List, [], ◌∷◌, ◌++◌, length, Some, None, Ok, Err, Option, Result, sym, refl, ap, ◌∙◌, subst, arith}
use Rattle.note.specs.declared.trades.Trade.{Trade}
use Rattle.lines.specs.declared.kinds.Line.{Line}
use Rattle.lines.specs.declared.kinds.Line.TheVariants.{Opening as LineOpening, Entry as LineEntry, Cut as LineCut, Withdrawal as LineWithdrawal, Uncrossing as LineUncrossing}
use Rattle.lines.specs.declared.refusals.MalformedLine.{MalformedLine}
use Rattle.book.specs.Meaning.{Book}
use Rattle.session.specs.declared.sessions.Session.{Session}
use Rattle.session.specs.Ranges.{is_tick, is_price}
use Rattle.trading.specs.declared.calls.Call.{Call}
use Rattle.trading.specs.declared.answers.Answer.{Answer}
use Rattle.trading.specs.declared.refusals.Refusal.{Refusal}
use Rattle.trading.specs.Replies.{Reply, entered, was_cut, withdrawn, indicated, uncrossed, refused, trades_of, log_of, read_all as replies_read}
use Rattle.feed.specs.declared.faults.Fault.{Fault}
use Rattle.feed.specs.declared.replies.Done.{Done}
use Rattle.feed.specs.declared.steps.Step.{Step}
use Rattle.feed.specs.declared.steps.Step.TheVariants.{Opening, Asking}
use Rattle.feed.specs.Steps.{Read, Terms, terms_of, number, terms_after, judged, all_judged, terms_after_all, calls_of}
use Rattle.feed.specs.Scripts.{Scripted}
use Rattle.rules.specs.Rivals.{Each}
use Rattle.engine.specs.Runs.{Within as AnswerWithin}
use Rattle.feed.specs.declared.places.Places.{Places}
use Rattle.feed.specs.Replies.{told_of, told_all, read_all, trades_in, trades_told, Within}
use Rattle.feed.specs.Playing.{CarriedOut, Plays, Answered, Silent}
use Rattle.feed.proofs.Lengths.{replies_length, read_length, judged_length, told_length}

-- Without a session there is no call.

still_open : (t : Terms) (said : Result Line MalformedLine) → terms_after (Some t) said ≡ Some t
still_open t (Err fault) = refl
still_open t (Ok (LineOpening tick scarcity)) = refl
still_open t (Ok (LineEntry side quantity price)) = refl
still_open t (Ok (LineCut order quantity)) = refl
still_open t (Ok (LineWithdrawal order)) = refl
still_open t (Ok LineUncrossing) = refl

stays_open : (t : Terms) (ls : List Read) → terms_after_all (Some t) ls ≡ Some t
unfolding terms_after_all
stays_open t [] = refl
stays_open t (l ∷ ls) = ap (λ u. terms_after_all u ls) (still_open t l.said) ∙ stays_open t ls

after_opening : (b : Bool) (n : ℕ) (t : Terms) (fault : Fault) (ls : List Read) → Silent (terms_after_all None ls) (calls_of (all_judged None n ls))
    → Silent (terms_after_all (cond b (Some t) None) ls) (calls_of (cond b (Ok Opening) (Err fault) ∷ all_judged (cond b (Some t) None) n ls))
unfolding calls_of
after_opening true n t fault ls h = subst (λ u. Silent u (calls_of (all_judged (Some t) n ls))) (sym (stays_open t ls)) tt
after_opening false n t fault ls h = h

silent_line : (n start : ℕ) (said : Result Line MalformedLine) (ls : List Read) → Silent (terms_after_all None ls) (calls_of (all_judged None (n + 1) ls))
    → Silent (terms_after_all (terms_after None said) ls) (calls_of (judged None n start said ∷ all_judged (terms_after None said) (n + 1) ls))
unfolding calls_of
silent_line n start (Err fault) ls h = h
silent_line n start (Ok (LineOpening tick scarcity)) ls h = after_opening (is_tick (number tick) && is_price (number scarcity)) (n + 1) _ _ ls h
silent_line n start (Ok (LineEntry side quantity price)) ls h = h
silent_line n start (Ok (LineCut order quantity)) ls h = h
silent_line n start (Ok (LineWithdrawal order)) ls h = h
silent_line n start (Ok LineUncrossing) ls h = h

silent_lines : (n : ℕ) (ls : List Read) → Silent (terms_after_all None ls) (calls_of (all_judged None n ls))
unfolding terms_after_all all_judged calls_of
silent_lines n [] = refl
silent_lines n (l ∷ ls) = silent_line n l.start l.said ls (silent_lines (n + 1) ls)

pub silent : (feed : List ℕ) (session : Option Session) (steps : List (Result Step Fault)) (calls : List Call) → Scripted feed session steps calls → Silent (terms_of session) calls
silent feed session steps calls s =
    subst (λ t. Silent t calls) (sym s.session_is) (subst (λ cs. Silent (terms_after_all None s.lines) cs) (sym s.calls_are) (silent_lines 1 s.lines))

pub no_calls : (t : Option Terms) (m : Book) (register : List Trade) (cs : List Call) (answers : List (Result Answer Refusal)) (log : List Trade) → t ≡ None → Silent t cs → answers ≡ [] → CarriedOut t m register cs (replies_read log answers) m register
no_calls t m register cs answers log e s a =
    subst (λ u. Silent u cs → CarriedOut u m register cs (replies_read log answers) m register) (sym e) (λ silent. (silent, ap (replies_read log) a, refl, refl)) s

pub no_log : (answers : List (Result Answer Refusal)) (log : List Trade) → answers ≡ [] → log ≡ [] → log ≡ log_of (replies_read log answers)
unfolding log_of
no_log answers log e f = f ∙ sym (ap (λ as'. log_of (replies_read log as')) e)

-- The trades that the lines are told are those of the replies to the calls among them.

trades_of_reply : (p : Places) (r : Reply) → trades_in (told_of p r) ≡ trades_of r
trades_of_reply p (entered n) = refl
trades_of_reply p was_cut = refl
trades_of_reply p withdrawn = refl
trades_of_reply p (indicated told) = refl
trades_of_reply p (uncrossed told ts) = refl
trades_of_reply p (refused why) = refl

told_log : (js : List (Result Step Fault)) (rs : List Reply) → length rs ≡ length (calls_of js) → trades_told (told_all js rs) ≡ log_of rs
unfolding trades_told told_all log_of calls_of
told_log [] [] e = refl
told_log [] (r ∷ rs) e = absurd (omega arith)
told_log (Ok Opening ∷ js) rs e = told_log js rs e
told_log (Ok (Asking c p) ∷ js) [] e = absurd (omega arith)
told_log (Ok (Asking c p) ∷ js) (r ∷ rs) e = ap (λ ts. ts ++ trades_told (told_all js rs)) (trades_of_reply p r) ∙ ap (λ ts. trades_of r ++ ts) (told_log js rs (omega arith))
told_log (Err fault ∷ js) rs e = told_log js rs e

-- The replies are as many as the calls.

carried_length : (t : Option Terms) (m : Book) (register : List Trade) (cs : List Call) (rs : List Reply) (m' : Book) (register' : List Trade) → CarriedOut t m register cs rs m' register' → length rs ≡ length cs
carried_length None m register cs rs m' register' h = ap length h.1 ∙ sym (ap length h.0)
carried_length (Some t) m register cs rs m' register' h = ap length h.replies_are ∙ replies_length t.tick t.scarcity (length register) m cs

-- The steps, the calls and the answers, each read through a slice.
module _ (feed : List ℕ) (session : Option Session) (steps steps' : List (Result Step Fault)) (calls calls' : List Call) (m : Book) (register : List Trade) (answers answers' : List (Result Answer Refusal)) (log : List Trade) (m' : Book) (register' : List Trade)
    (es : steps' ≡ steps) (ec : calls' ≡ calls) (ea : answers' ≡ answers)
    (s : Scripted feed session steps calls) (h : CarriedOut (terms_of session) m register calls' (replies_read log answers) m' register') (logged : log ≡ log_of (replies_read log answers)) (placed : Each (AnswerWithin (length log)) answers) where
  pub each_answered : length answers' ≡ length (calls_of steps')
  each_answered =
      ap length ea ∙ sym (read_length log answers) ∙ carried_length (terms_of session) m register calls' (replies_read log answers) m' register' h
      ∙ ap length (ec ∙ s.calls_are) ∙ ap (λ ss. length (calls_of ss)) (sym (es ∙ s.steps_are))

  plays : (replies : List (Result Done Fault)) → ((l : List Trade) → read_all l replies ≡ told_all steps' (replies_read l answers')) → Plays feed m register (read_all log replies) m' register'
  plays replies told =
      let rs = replies_read log answers in
      let ls = s.lines in
      let whole : read_all log replies ≡ told_all (all_judged None 1 ls) rs = told log ∙ ap (λ ss. told_all ss (replies_read log answers')) (es ∙ s.steps_are) ∙ ap (λ as'. told_all (all_judged None 1 ls) (replies_read log as')) ea in
      let answered : length rs ≡ length (calls_of (all_judged None 1 ls)) = carried_length (terms_of session) m register calls' rs m' register' h ∙ ap length (ec ∙ s.calls_are) in
      record {
        lines = ls;
        reading = s.reading;
        replies = rs;
        law = subst (λ t. CarriedOut t m register (calls_of (all_judged None 1 ls)) rs m' register') s.session_is (subst (λ cs. CarriedOut (terms_of session) m register cs rs m' register') (ec ∙ s.calls_are) h);
        answers = whole;
        count = ap length whole ∙ told_length (all_judged None 1 ls) rs answered ∙ judged_length None 1 ls;
      }

  pub answered : (replies : List (Result Done Fault)) → ((l : List Trade) → read_all l replies ≡ told_all steps' (replies_read l answers')) → ((n : ℕ) → Each (AnswerWithin n) answers' → Each (Within n) replies)
      → Answered feed m register log replies m' register'
  unfolding plays
  answered replies told within =
      let rs = replies_read log answers in
      let long : length rs ≡ length (calls_of (all_judged None 1 s.lines)) = carried_length (terms_of session) m register calls' rs m' register' h ∙ ap length (ec ∙ s.calls_are) in
      record { plays = plays replies told; logged = logged ∙ sym (told_log (all_judged None 1 s.lines) rs long) ∙ ap trades_told (sym (plays replies told).answers); placed = within (length log) (subst (Each (AnswerWithin (length log))) (sym ea) placed) }
