-- What is printed of a note, or of why some bytes are none. Assumes nothing.
use Rattle.std.specs.Prelude.{ℕ, ◌+◌, ◌/◌, ◌%◌, List, [], ◌∷◌, ◌++◌, length, Ok, Err, codes, decimal, Result}
use Rattle.note.specs.declared.refusals.NoteRefusal.{NoteRefusal}
use Rattle.note.specs.declared.trades.Trade.{Trade}
use Rattle.note.specs.Notes.{Note}
use Rattle.note.specs.Refusals.{numbered, reason_text}

-- the total of contracts
unfoldable pub contracts : List Trade → ℕ
contracts [] = 0
contracts (t ∷ ts) = t.quantity + contracts ts

-- the price, in centavos and then in pesos with two decimals
abbrev pub price_text : ℕ → List ℕ
price_text price =
    codes "price " ++ (decimal price ++ (codes " centavos\nprice " ++ (decimal (price / 100) ++ (codes "." ++ (decimal (price / 10 % 10) ++ (decimal (price % 10) ++ codes " pesos\n"))))))

-- the count of trades and the total of contracts
abbrev pub counts_text : ℕ → ℕ → List ℕ
counts_text count total = codes "trades " ++ (decimal count ++ (codes "\ncontracts " ++ (decimal total ++ codes "\n")))

-- the trade that is the k-th
abbrev pub trade_text : ℕ → Trade → List ℕ
trade_text k t =
    codes "trade " ++ (decimal k ++ (codes ": buy " ++ (decimal t.buy ++ (codes ", sell " ++ (decimal t.sell ++ (codes ", quantity " ++ (decimal t.quantity ++ codes "\n")))))))

-- trades, of which the first is the k-th
unfoldable pub trades_text : ℕ → List Trade → List ℕ
trades_text k [] = []
trades_text k (t ∷ ts) = trade_text k t ++ trades_text (k + 1) ts

-- a refusal: its number and its reason
abbrev pub refusal_text : NoteRefusal → List ℕ
refusal_text why = codes "refused " ++ (decimal (numbered why) ++ (codes " " ++ (reason_text why ++ codes "\n")))

abbrev pub note_text : ℕ → List Trade → List ℕ
note_text price trades = price_text price ++ (counts_text (length trades) (contracts trades) ++ trades_text 1 trades)

abbrev pub report_text : Result Note NoteRefusal → List ℕ
report_text (Ok note) = note_text note.price note.trades
report_text (Err why) = refusal_text why
