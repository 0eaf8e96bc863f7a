-- What reading a note answers, and what the register holds afterwards. Assumes nothing.
use Rattle.std.specs.Prelude.{◌≡◌, ℕ, zero, suc, ◌≤◌, Bool, cond, List, [], ◌∷◌, ◌++◌, length, drop, Some, None, Ok, Err, Option, Result, nat_le}
use Rattle.note.specs.declared.refusals.NoteRefusal.{NoteRefusal}
use Rattle.note.specs.declared.refusals.NoteRefusal.TheVariants.{RegisterShort, OutOfRange, BadNumber, BytesLeft}
use Rattle.note.specs.declared.trades.Trade.{Trade}
use Rattle.note.specs.declared.trades.Heading.{Heading}
use Rattle.note.specs.Notes.{Note, is_price, is_count, is_order, is_other, is_quantity}
use Rattle.note.specs.Numbers.{number}

-- reading goes on with what was read, and ends at the first refusal
abbrev pub onward : {X Y : Type 0} → Result X NoteRefusal → (X → Result Y NoteRefusal) → Result Y NoteRefusal
onward (Ok x) next = next x
onward (Err why) next = Err why

-- a number is judged: first whether there is one, then by its range
abbrev pub judged : (ℕ → Bool) → Option (ℕ × List ℕ) → Result (ℕ × List ℕ) NoteRefusal
judged legal None = Err BadNumber
judged legal (Some (n, rest)) = cond (legal n) (Ok (n, rest)) (Err OutOfRange)

-- what is read at the front of the bytes, with the bytes after it: a number in its range, ..
abbrev pub read_number : (ℕ → Bool) → List ℕ → Result (ℕ × List ℕ) NoteRefusal
read_number legal bytes = judged legal (number bytes)

-- .. a trade, ..
unfoldable pub read_trade : List ℕ → Result (Trade × List ℕ) NoteRefusal
read_trade bytes =
    onward (read_number is_order bytes) (λ buy.
    onward (read_number (is_other buy.0) buy.1) (λ sell.
    onward (read_number is_quantity sell.1) (λ quantity.
    Ok (record { buy = buy.0; sell = sell.0; quantity = quantity.0 }, quantity.1))))

-- .. so many trades
unfoldable pub read_trades : ℕ → List ℕ → Result (List Trade × List ℕ) NoteRefusal
read_trades zero bytes = Ok ([], bytes)
read_trades (suc more) bytes =
    onward (read_trade bytes) (λ first.
    onward (read_trades more first.1) (λ others.
    Ok (first.0 ∷ others.0, others.1)))

-- a note is read if no byte is left over
abbrev pub ended : Note → List ℕ → Result Note NoteRefusal
ended note [] = Ok note
ended note (b ∷ bs) = Err BytesLeft

-- the note that the bytes are, or why they are none
unfoldable pub read_note : List ℕ → Result Note NoteRefusal
read_note bytes =
    onward (read_number is_price bytes) (λ price.
    onward (read_number is_count price.1) (λ count.
    onward (read_trades count.0 count.1) (λ trades.
    ended (record { price = price.0; trades = trades.0 }) trades.1)))

-- the answer is the note's price and count, if its trades have a place each
abbrev pub placed : ℕ → Note → Result Heading NoteRefusal
placed places note = cond (nat_le (length note.trades) places) (Ok (record { price = note.price; count = length note.trades })) (Err RegisterShort)

abbrev pub read_answer : List ℕ → ℕ → Result Heading NoteRefusal
read_answer bytes places = onward (read_note bytes) (placed places)

-- the trades stand from the first place on and later places stay; a refusal leaves every place
abbrev pub filled : Result Note NoteRefusal → List Trade → List Trade
filled (Ok note) register = cond (nat_le (length note.trades) (length register)) (note.trades ++ drop (length note.trades) register) register
filled (Err why) register = register

abbrev pub read_register : List ℕ → List Trade → List Trade
read_register bytes register = filled (read_note bytes) register

-- from so many bytes on, whatever follows them is read the same way
abbrev pub Decided : ℕ → List ℕ → Type 0
Decided enough bytes = enough ≤ length bytes → (more : List ℕ) → read_note (bytes ++ more) ≡ read_note bytes
