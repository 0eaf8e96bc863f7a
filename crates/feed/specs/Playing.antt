-- What playing a feed promises. Assumes nothing.
use Rattle.std.specs.Prelude.{◌≡◌, ℕ, List, [], length, Some, None, Option, Result}
use Rattle.note.specs.declared.trades.Trade.{Trade}
use Rattle.book.specs.Meaning.{Book}
use Rattle.trading.specs.declared.calls.Call.{Call}
use Rattle.trading.specs.Replies.{Reply}
use Rattle.trading.specs.Law.{Law}
use Rattle.feed.specs.Steps.{Read, Reads, Terms, all_judged, terms_after_all, calls_of}
use Rattle.feed.specs.declared.faults.Fault.{Fault}
use Rattle.feed.specs.declared.replies.Done.{Done}
use Rattle.feed.specs.Replies.{Told, told_all, read_all, trades_told, Within}
use Rattle.rules.specs.Rivals.{Each}

-- the calls of a feed obey the law in its session; without a session there is no call, and nothing changes
abbrev pub CarriedOut : Option Terms → Book → List Trade → List Call → List Reply → Book → List Trade → Type 0
CarriedOut None m register cs rs m' register' = (cs ≡ []) × (rs ≡ []) × (m' ≡ m) × (register' ≡ register)
CarriedOut (Some t) m register cs rs m' register' = Law t.tick t.scarcity m register cs rs m' register'

-- The feed was played on the book m, with a register, and answered told; it left the book m' and the register register'.
pub record Plays (feed : List ℕ) (m : Book) (register : List Trade) (told : List Told) (m' : Book) (register' : List Trade) : Type 0 where
  -- its lines, each handed out or refused where the five forms say
  pub lines : List Read
  pub reading : Reads feed 0 lines
  -- the calls among them, and the replies to those
  pub replies : List Reply
  pub law : CarriedOut (terms_after_all None lines) m register (calls_of (all_judged None 1 lines)) replies m' register'
  -- each line's answer is that of the rules, and no line is left out
  pub answers : told ≡ told_all (all_judged None 1 lines) replies
  pub count : length told ≡ length lines

-- What is answered, as it is read in the log: it is told by the rules, the log is the trades of all uncrossings and no others, and each
-- answer's stand in it.
pub record Answered (feed : List ℕ) (m : Book) (register : List Trade) (log : List Trade) (replies : List (Result Done Fault)) (m' : Book) (register' : List Trade) : Type 0 where
  pub plays : Plays feed m register (read_all log replies) m' register'
  pub logged : log ≡ trades_told (read_all log replies)
  pub placed : Each (Within (length log)) replies

-- nothing was carried out
pub record Unplayed (m : Book) (register : List Trade) (m' : Book) (register' : List Trade) : Type 0 where
  pub book : m' ≡ m
  pub stays : register' ≡ register

-- without a session there is no call
abbrev pub Silent : Option Terms → List Call → Type 0
Silent None cs = cs ≡ []
Silent (Some t) cs = Unit {0}
