-- What each call is answered and what it leaves, for one call and for a list of calls. Assumes nothing.
use Rattle.std.specs.Prelude.{ℕ, cond, ◌&&◌, List, [], ◌∷◌, ◌++◌, map, length, take, drop, Some, None, Ok, Err, Option, Result, nat_le, nat_lt}
use Rattle.note.specs.declared.trades.Trade.{Trade}
use Rattle.session.specs.declared.judgements.PriceRefusal.{PriceRefusal}
use Rattle.session.specs.declared.refusals.SessionRefusal.{SessionRefusal}
use Rattle.session.specs.declared.refusals.SessionRefusal.TheVariants.{QuantityRange, NoVolume, RegisterShort}
use Rattle.session.specs.Judgements.{price_judged}
use Rattle.session.specs.Refusals.{of_price}
use Rattle.book.specs.declared.orders.Side.{Side}
use Rattle.book.specs.declared.refusals.BookRefusal.{BookRefusal}
use Rattle.book.specs.declared.refusals.BookRefusal.TheVariants.{UnknownOrder}
use Rattle.book.specs.Meaning.{Order, Book, enter_answer, with_order, found, cut_answer, cut}
use Rattle.rules.specs.Schedule.{Schedule, offered, volume}
use Rattle.rules.specs.Literal.{equilibrium}
use Rattle.rules.specs.Trades.{trades_at, after_trades}
use Rattle.price.specs.declared.indications.Indication.{Indication}
use Rattle.price.specs.Indications.{heading, indication_answer}
use Rattle.trading.specs.declared.calls.Call.{Call}
use Rattle.trading.specs.declared.calls.Call.TheVariants.{Entry, Cut, Withdrawal, Indication as AskIndication, Uncrossing}
use Rattle.trading.specs.declared.answers.Answer.{Answer}
use Rattle.trading.specs.declared.answers.Answer.TheVariants.{Entered, Cut as WasCut, Withdrawn, Indicated, Uncrossed}
use Rattle.trading.specs.declared.refusals.Refusal.{Refusal}
use Rattle.trading.specs.declared.refusals.Refusal.TheVariants.{Book as OfBook, Session as OfSession}

-- an answer, with the trades of an uncrossing
pub data Reply : Type 0 where
  entered : ℕ → Reply
  was_cut : Reply
  withdrawn : Reply
  indicated : Indication → Reply
  uncrossed : Indication → List Trade → Reply
  refused : Refusal → Reply

-- what a call is answered, and the book that it leaves
pub record Outcome : Type 0 where
  pub reply : Reply
  pub after : Book

-- a refusal leaves the book as it was
abbrev pub refusal : Book → Refusal → Outcome
refusal m why = record { reply = refused why; after = m }

-- Entry: its quantity is judged, then its price, which gives the limit in ticks; then the book is asked.

abbrev pub price_limit : Result ℕ PriceRefusal → Result ℕ SessionRefusal
price_limit (Ok limit) = Ok limit
price_limit (Err why) = Err (of_price why)

unfoldable pub entry_limit : ℕ → ℕ → ℕ → Result ℕ SessionRefusal
entry_limit tick quantity price = cond (nat_le 1 quantity && nat_le quantity 6858) (price_limit (price_judged tick price)) (Err QuantityRange)

abbrev pub entry_by_book : Book → Side → ℕ → ℕ → Result ℕ BookRefusal → Outcome
entry_by_book m side limit quantity (Ok number) = record { reply = entered number; after = with_order m side limit quantity }
entry_by_book m side limit quantity (Err why) = refusal m (OfBook why)

abbrev pub entry_by_session : Book → Side → ℕ → Result ℕ SessionRefusal → Outcome
entry_by_session m side quantity (Ok limit) = entry_by_book m side limit quantity (enter_answer m)
entry_by_session m side quantity (Err why) = refusal m (OfSession why)

-- Cut and withdrawal, which cuts all that the order holds.

abbrev pub cut_by_book : Book → ℕ → ℕ → Result (Unit {0}) BookRefusal → Outcome
cut_by_book m number quantity (Ok _) = record { reply = was_cut; after = cut m number quantity }
cut_by_book m number quantity (Err why) = refusal m (OfBook why)

abbrev pub withdrawal_of : Book → ℕ → Option Order → Outcome
withdrawal_of m number None = refusal m (OfBook UnknownOrder)
withdrawal_of m number (Some o) = record { reply = withdrawn; after = cut m number o.quantity }

-- Indication, which leaves the book as it was.

abbrev pub indication_of : Book → Result Indication SessionRefusal → Outcome
indication_of m (Ok told) = record { reply = indicated told; after = m }
indication_of m (Err why) = refusal m (OfSession why)

-- Uncrossing: refused if nothing trades, then if there are more trades than places; else the trades of the volume, each cut from
-- both of its orders. Volume and imbalance are those before the cuts.

abbrev pub settled : Book → List Trade → Book
settled m ts = record { places = m.places; last = m.last; orders = after_trades m.orders ts }

abbrev pub crossing_of : Book → ℕ → Indication → List Trade → Outcome
crossing_of m places told ts =
    cond (nat_lt places (length ts)) (refusal m (OfSession RegisterShort))
    (record { reply = uncrossed told ts; after = settled m ts })

abbrev pub uncrossing_at : ℕ → ℕ → Book → Schedule → Option ℕ → Outcome
uncrossing_at tick places m k None = refusal m (OfSession NoVolume)
uncrossing_at tick places m k (Some p) = crossing_of m places (heading tick k p) (trades_at (volume k p) m.orders)

-- In a session of a tick and a scarcity price, with a register of so many places.
module _ (tick scarcity places : ℕ) where
  unfoldable pub outcome : Book → Call → Outcome
  outcome m (Entry side quantity price) = entry_by_session m side quantity (entry_limit tick quantity price)
  outcome m (Cut number quantity) = cut_by_book m number quantity (cut_answer m number quantity)
  outcome m (Withdrawal number) = withdrawal_of m number (found m number)
  outcome m AskIndication = indication_of m (indication_answer m tick scarcity)
  outcome m Uncrossing = uncrossing_at tick places m (offered m tick scarcity) (equilibrium (offered m tick scarcity))

  -- a list of calls: what each is answered, and the book after all
  unfoldable pub replies : Book → List Call → List Reply
  replies m [] = []
  replies m (c ∷ cs) = (outcome m c).reply ∷ replies (outcome m c).after cs

  unfoldable pub after_all : Book → List Call → Book
  after_all m [] = m
  after_all m (c ∷ cs) = after_all (outcome m c).after cs

-- The register: the trades of an uncrossing stand from its first place on, and later places stay.

abbrev pub trades_of : Reply → List Trade
trades_of (entered n) = []
trades_of was_cut = []
trades_of withdrawn = []
trades_of (indicated told) = []
trades_of (uncrossed told ts) = ts
trades_of (refused why) = []

abbrev pub written : List Trade → List Trade → List Trade
written ts register = ts ++ drop (length ts) register

unfoldable pub register_after : List Reply → List Trade → List Trade
register_after [] register = register
register_after (r ∷ rs) register = register_after rs (written (trades_of r) register)

-- The log: the trades of all uncrossings, one behind the other.

unfoldable pub log_of : List Reply → List Trade
log_of [] = []
log_of (r ∷ rs) = trades_of r ++ log_of rs

-- what a caller reads of an answer and the log
abbrev pub told_by : List Trade → Answer → Reply
told_by log (Entered n) = entered n
told_by log WasCut = was_cut
told_by log Withdrawn = withdrawn
told_by log (Indicated told) = indicated told
told_by log (Uncrossed told first count) = uncrossed told (take count (drop first log))

abbrev pub read : List Trade → Result Answer Refusal → Reply
read log (Ok answer) = told_by log answer
read log (Err why) = refused why

abbrev pub read_all : List Trade → List (Result Answer Refusal) → List Reply
read_all log answers = map (read log) answers
