-- What is judged of trades and how long their bytes are, and the bytes of those that are left, one step on and at the end. Assumes nothing.
use Rattle.std.proofs.Common.{◌≡◌, ℕ, ◌+◌, ◌<◌, ◌≤◌, ◌&&◌, List, [], ◌++◌, length, get_or, drop, sum_by, sym, refl, ap, length-append}
use Rattle.std.proofs.lemmas.List.{drop_more, drop_all}
use Rattle.std.proofs.lemmas.List.Recursion.{same_from_clauses, is_sum_by}
use Rattle.std.specs.List.{list_all}
use Rattle.note.specs.declared.trades.Trade.{Trade}
use Rattle.note.specs.Notes.{is_trade, are_trades, trade_bytes, trades_bytes}

pub bytes_more : (ts : List Trade) (i : ℕ) (d : Trade) → i < length ts → trades_bytes (drop i ts) ≡ trade_bytes (get_or ts i d) ++ trades_bytes (drop (i + 1) ts)
unfolding trades_bytes
bytes_more ts i d h = ap trades_bytes (drop_more ts i d h)

pub bytes_all : (ts : List Trade) (i : ℕ) → length ts ≤ i → trades_bytes (drop i ts) ≡ []
unfolding trades_bytes
bytes_all ts i h = ap trades_bytes (drop_all i ts h)

pub all_legal : (ts : List Trade) → list_all is_trade ts ≡ are_trades ts
unfolding are_trades
all_legal ts = same_from_clauses (list_all is_trade) are_trades (λ t rest. is_trade t && rest) refl (λ _ _. refl) (λ _ _. refl) ts

pub sum_of_bytes : (ts : List Trade) → sum_by (λ (t : Trade). length (trade_bytes t)) ts ≡ length (trades_bytes ts)
unfolding trades_bytes
sum_of_bytes ts = sym (is_sum_by (λ xs. length (trades_bytes xs)) (λ (t : Trade). length (trade_bytes t)) refl (λ x xs. length-append (trade_bytes x) (trades_bytes xs)) ts)
