-- What a run of calls promises. Assumes nothing.
use Rattle.std.specs.Prelude.{◌≡◌, ℕ, ◌+◌, ◌≤◌, List, length, Ok, Err, Result}
use Rattle.note.specs.declared.trades.Trade.{Trade}
use Rattle.book.specs.Meaning.{Book}
use Rattle.trading.specs.declared.calls.Call.{Call}
use Rattle.trading.specs.declared.answers.Answer.{Answer}
use Rattle.trading.specs.declared.answers.Answer.TheVariants.{Entered, Cut, Withdrawn, Indicated, Uncrossed}
use Rattle.trading.specs.declared.refusals.Refusal.{Refusal}
use Rattle.trading.specs.Replies.{read_all, log_of}
use Rattle.trading.specs.Law.{Law}
use Rattle.rules.specs.Rivals.{Each}

-- an answer's trades stand within the first n of the log
abbrev pub Inside : ℕ → Answer → Type 0
Inside n (Entered number) = Unit {0}
Inside n Cut = Unit {0}
Inside n Withdrawn = Unit {0}
Inside n (Indicated told) = Unit {0}
Inside n (Uncrossed told first count) = first + count ≤ n

abbrev pub Within : ℕ → Result Answer Refusal → Type 0
Within n (Ok answer) = Inside n answer
Within n (Err why) = Unit {0}

-- What a caller reads of the answers and the log obeys the law; the log is the trades of all uncrossings, and each answer's stand in it.
pub record Ran (tick scarcity : ℕ) (m : Book) (register : List Trade) (cs : List Call) (answers : List (Result Answer Refusal)) (log : List Trade) (m' : Book) (register' : List Trade) : Type 0 where
  pub law : Law tick scarcity m register cs (read_all log answers) m' register'
  pub logged : log ≡ log_of (read_all log answers)
  pub placed : Each (Within (length log)) answers

-- nothing was carried out
pub record NotRan (m : Book) (register : List Trade) (m' : Book) (register' : List Trade) : Type 0 where
  pub book : m' ≡ m
  pub stays : register' ≡ register
