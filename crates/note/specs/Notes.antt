-- What a note holds, which notes are legal, and the bytes of a note. Assumes nothing.
use Rattle.std.specs.Prelude.{ℕ, Bool, true, not, ◌&&◌, List, [], ◌∷◌, ◌++◌, length, ◌==◌, nat_le}
use Rattle.note.specs.declared.trades.Trade.{Trade}
use Rattle.note.specs.Numbers.{encoded}

pub record Note : Type 0 where
  pub price : ℕ
  pub trades : List Trade

-- from 1 to `most`
abbrev pub within : ℕ → ℕ → Bool
within most n = nat_le 1 n && nat_le n most

abbrev pub is_price : ℕ → Bool
is_price n = within 10000000 n

abbrev pub is_count : ℕ → Bool
is_count n = within 255 n

abbrev pub is_order : ℕ → Bool
is_order n = within 60000 n

abbrev pub is_quantity : ℕ → Bool
is_quantity n = within 6858 n

-- the number of an order that is not this one
abbrev pub is_other : ℕ → ℕ → Bool
is_other order n = is_order n && not (n == order)

abbrev pub is_trade : Trade → Bool
is_trade t = is_order t.buy && (is_other t.buy t.sell && is_quantity t.quantity)

unfoldable pub are_trades : List Trade → Bool
are_trades [] = true
are_trades (t ∷ ts) = is_trade t && are_trades ts

-- every number of the note is in its range
abbrev pub is_legal : Note → Bool
is_legal n = is_price n.price && (is_count (length n.trades) && are_trades n.trades)

abbrev pub trade_bytes : Trade → List ℕ
trade_bytes t = encoded t.buy ++ (encoded t.sell ++ encoded t.quantity)

unfoldable pub trades_bytes : List Trade → List ℕ
trades_bytes [] = []
trades_bytes (t ∷ ts) = trade_bytes t ++ trades_bytes ts

-- the price, the count of trades, and each trade's three numbers
abbrev pub note_bytes : Note → List ℕ
note_bytes n = encoded n.price ++ (encoded (length n.trades) ++ trades_bytes n.trades)
