-- The results of the calls, as replies. Assumes nothing.
use Rattle.std.specs.Prelude.{ℕ, List, take, Ok, Err, Result}
use Rattle.note.specs.declared.trades.Trade.{Trade}
use Rattle.trading.specs.declared.refusals.Refusal.{Refusal}
use Rattle.trading.specs.Replies.{Reply, entered, was_cut, withdrawn, uncrossed, refused}
use Rattle.engine.specs.declared.uncrossed.Uncrossed.{Uncrossed}

abbrev pub entry_reply : Result ℕ Refusal → Reply
entry_reply (Ok number) = entered number
entry_reply (Err why) = refused why

abbrev pub cut_reply : Result (Unit {0}) Refusal → Reply
cut_reply (Ok _) = was_cut
cut_reply (Err why) = refused why

abbrev pub withdrawal_reply : Result (Unit {0}) Refusal → Reply
withdrawal_reply (Ok _) = withdrawn
withdrawal_reply (Err why) = refused why

-- the trades of an uncrossing are the first of the register
abbrev pub uncrossing_reply : Result Uncrossed Refusal → List Trade → Reply
uncrossing_reply (Ok done) register = uncrossed done.told (take done.count register)
uncrossing_reply (Err why) register = refused why
