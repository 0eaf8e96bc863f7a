-- What each line is answered. Assumes nothing.
use Rattle.std.specs.Prelude.{◌≡◌, ℕ, ◌+◌, ◌<◌, ◌≤◌, List, [], ◌∷◌, ◌++◌, map, length, take, drop, Ok, Err, Result}
use Rattle.note.specs.declared.trades.Trade.{Trade}
use Rattle.price.specs.declared.indications.Indication.{Indication}
use Rattle.trading.specs.Replies.{Reply, entered, was_cut, withdrawn, indicated, uncrossed, refused, read_all as replies_read}
use Rattle.trading.specs.declared.answers.Answer.{Answer}
use Rattle.trading.specs.declared.answers.Answer.TheVariants.{Entered as Answer-as-Entered, Cut as Answer-as-Cut, Withdrawn as Answer-as-Withdrawn, Indicated as Answer-as-Indicated, Uncrossed as Answer-as-Uncrossed}
use Rattle.trading.specs.declared.refusals.Refusal.{Refusal}
use Rattle.feed.specs.declared.faults.Fault.{Fault}
use Rattle.feed.specs.declared.places.Places.{Places}
use Rattle.feed.specs.declared.replies.Done.{Done}
use Rattle.feed.specs.declared.replies.Done.TheVariants.{Accepted, Entered, Uncrossed}
use Rattle.feed.specs.declared.steps.Step.{Step}
use Rattle.feed.specs.declared.steps.Step.TheVariants.{Opening, Asking}
use Rattle.feed.specs.Places.{refused_at}
use Rattle.feed.specs.Steps.{with_call}
use Rattle.engine.specs.Runs.{Within as AnswerWithin}
use Rattle.rules.specs.Rivals.{Each}

-- what a line is answered
pub data Told : Type 0 where
  accepted : Told
  numbered : ℕ → Told
  crossed : Indication → List Trade → Told
  faulty : Fault → Told

-- the reply to its call; no line asks for an indication
abbrev pub told_of : Places → Reply → Told
told_of p (entered n) = numbered n
told_of p was_cut = accepted
told_of p withdrawn = accepted
told_of p (indicated told) = accepted
told_of p (uncrossed told ts) = crossed told ts
told_of p (refused why) = faulty (refused_at why p)

-- the lines in turn, and the replies to the calls among them
unfoldable pub told_all : List (Result Step Fault) → List Reply → List Told
told_all [] rs = []
told_all (Ok Opening ∷ js) rs = accepted ∷ told_all js rs
told_all (Ok (Asking c p) ∷ js) [] = []
told_all (Ok (Asking c p) ∷ js) (r ∷ rs) = told_of p r ∷ told_all js rs
told_all (Err fault ∷ js) rs = faulty fault ∷ told_all js rs

-- what was done for a call
abbrev pub done_of : Answer → Done
done_of (Answer-as-Entered n) = Entered n
done_of Answer-as-Cut = Accepted
done_of Answer-as-Withdrawn = Accepted
done_of (Answer-as-Indicated told) = Accepted
done_of (Answer-as-Uncrossed told first count) = Uncrossed told first count

-- what a caller reads of an answer and the log
abbrev pub read : List Trade → Result Done Fault → Told
read log (Ok Accepted) = accepted
read log (Ok (Entered n)) = numbered n
read log (Ok (Uncrossed told first count)) = crossed told (take count (drop first log))
read log (Err fault) = faulty fault

abbrev pub read_all : List Trade → List (Result Done Fault) → List Told
read_all log answers = map (read log) answers

-- the trades of all uncrossings, one behind the other
abbrev pub trades_in : Told → List Trade
trades_in accepted = []
trades_in (numbered n) = []
trades_in (crossed told ts) = ts
trades_in (faulty fault) = []

unfoldable pub trades_told : List Told → List Trade
trades_told [] = []
trades_told (t ∷ ts) = trades_in t ++ trades_told ts

-- an answer's trades stand within the first n of the log
abbrev pub Within : ℕ → Result Done Fault → Type 0
Within n (Ok Accepted) = Unit {0}
Within n (Ok (Entered number)) = Unit {0}
Within n (Ok (Uncrossed told first count)) = first + count ≤ n
Within n (Err fault) = Unit {0}

-- What one line's answer promises the next; no caller needs it.

-- a call has its answer among those that are left
abbrev pub Left : Result Step Fault → List (Result Answer Refusal) → Type 0
Left (Ok Opening) answers = Unit {0}
Left (Ok (Asking c p)) answers = 0 < length answers
Left (Err fault) answers = Unit {0}

-- from the answers the line is answered r, which leaves these for the next
pub record AnswersOne (s : Result Step Fault) (answers : List (Result Answer Refusal)) (r : Result Done Fault) (left : List (Result Answer Refusal)) : Type 0 where
  pub head : (log : List Trade) (ss : List (Result Step Fault)) → told_all (s ∷ ss) (replies_read log answers) ≡ read log r ∷ told_all ss (replies_read log left)
  pub taken : length answers ≡ length (with_call s []) + length left
  pub behind : left ≡ drop (length (with_call s [])) answers
  pub placed : (n : ℕ) → Each (AnswerWithin n) answers → Within n r × Each (AnswerWithin n) left
