-- How many replies and answers there are. Assumes nothing.
use Rattle.std.proofs.Common.{◌≡◌, ℕ, suc, ◌+◌, List, [], ◌∷◌, length, Ok, Err, Option, Result, refl, ap, arith}
use Rattle.std.proofs.lemmas.List.{length-map}
use Rattle.note.specs.declared.trades.Trade.{Trade}
use Rattle.book.specs.Meaning.{Book}
use Rattle.trading.specs.declared.calls.Call.{Call}
use Rattle.trading.specs.declared.answers.Answer.{Answer}
use Rattle.trading.specs.declared.refusals.Refusal.{Refusal}
use Rattle.trading.specs.Replies.{Reply, outcome, replies, read as reply_read, read_all as replies_read}
use Rattle.feed.specs.declared.faults.Fault.{Fault}
use Rattle.feed.specs.declared.steps.Step.{Step}
use Rattle.feed.specs.declared.steps.Step.TheVariants.{Opening, Asking}
use Rattle.feed.specs.Steps.{Read, Terms, terms_after, all_judged, calls_of}
use Rattle.feed.specs.Replies.{told_all}

pub replies_length : (tick scarcity places : ℕ) (m : Book) (cs : List Call) → length (replies tick scarcity places m cs) ≡ length cs
unfolding replies
replies_length tick scarcity places m [] = refl
replies_length tick scarcity places m (c ∷ cs) = ap suc (replies_length tick scarcity places (outcome tick scarcity places m c).after cs)

pub read_length : (log : List Trade) (answers : List (Result Answer Refusal)) → length (replies_read log answers) ≡ length answers
read_length log answers = length-map answers (reply_read log)

pub judged_length : (t : Option Terms) (n : ℕ) (ls : List Read) → length (all_judged t n ls) ≡ length ls
unfolding all_judged
judged_length t n [] = refl
judged_length t n (l ∷ ls) = ap suc (judged_length (terms_after t l.said) (n + 1) ls)

pub told_length : (ss : List (Result Step Fault)) (rs : List Reply) → length rs ≡ length (calls_of ss) → length (told_all ss rs) ≡ length ss
unfolding told_all calls_of
told_length [] rs e = refl
told_length (Ok Opening ∷ ss) rs e = ap suc (told_length ss rs e)
told_length (Ok (Asking c p) ∷ ss) [] e = absurd (omega (arith, e))
told_length (Ok (Asking c p) ∷ ss) (r ∷ rs) e = ap suc (told_length ss rs (omega (arith, e)))
told_length (Err fault ∷ ss) rs e = ap suc (told_length ss rs e)
