-- How many bytes decide what is read. Assumes nothing.
use Rattle.std.proofs.Common.{◌≡◌, ℕ, zero, suc, ◌+◌, ◌-◌, ◌*◌, ◌^◌, ◌<◌, ◌≤◌, Bool, true, false, cond, not, eqb, ltb, List, [], ◌∷◌, ◌++◌, length, take, Some, None, Ok, Err, Option, Result, sym, refl, ap, ◌∙◌, append_assoc, arith, length-append}
use lib.Seq.{take-append-add}
use Rattle.std.proofs.lemmas.List.{take_at}
use Rattle.std.proofs.lemmas.Bool.{ltb-true, and_parts}
use Rattle.note.specs.declared.refusals.NoteRefusal.{NoteRefusal}
use Rattle.note.specs.declared.refusals.NoteRefusal.TheVariants.{OutOfRange}
use Rattle.note.specs.declared.trades.Trade.{Trade}
use Rattle.note.specs.Numbers.{encoded, leading, of_32_bits, number}
use Rattle.note.specs.Notes.{Note, is_price, is_count, is_order, is_other, is_quantity}
use Rattle.note.specs.Reading.{onward, judged, read_number, read_trade, read_trades, ended, read_note, Decided}
use Rattle.note.proofs.Encoding.{length_below}
use Rattle.note.proofs.Round.{went, ok_same, some_when, number_encoded, encoded_number, told, within_most}

-- a number that is read has 32 bits
number_fits : (bytes : List ℕ) (n : ℕ) (rest : List ℕ) → number bytes ≡ Some (n, rest) → n < 2 ^ 32
number_fits bytes n rest e = by (leading bytes) e where
  by : (o : Option (ℕ × List ℕ)) → of_32_bits o ≡ Some (n, rest) → n < 2 ^ 32
  by None e = absurd (grind arith)
  by (Some (m, left)) e =
      let kept = some_when (ltb m (2 ^ 32)) (m, left) (n, rest) e in
      let same : m ≡ n = ap (λ x. x.0) kept.1 in
      omega (arith, ltb-true m (2 ^ 32) kept.0)

-- a number with more bytes behind it
longer_number : List ℕ → Option (ℕ × List ℕ) → Option (ℕ × List ℕ)
longer_number more None = None
longer_number more (Some (n, rest)) = Some (n, rest ++ more)

number_longer : (bytes more : List ℕ) → 5 ≤ length bytes → number (bytes ++ more) ≡ longer_number more (number bytes)
unfolding longer_number
number_longer bytes more long = by (number bytes) (number (bytes ++ more)) refl refl where
  by : (o p : Option (ℕ × List ℕ)) → number bytes ≡ o → number (bytes ++ more) ≡ p → number (bytes ++ more) ≡ longer_number more o
  by (Some (n, rest)) p is was =
      let are = encoded_number bytes n rest is in
      ap (λ x. number (x ++ more)) are ∙ ap number (append_assoc (encoded n) rest more) ∙ number_encoded n (rest ++ more) (number_fits bytes n rest is)
  by None None is was = was
  by None (Some (n, rest)) is was =
      let are = encoded_number (bytes ++ more) n rest was in
      let fits = number_fits (bytes ++ more) n rest was in
      let few = length_below 4 n (omega arith) in
      let split : length bytes ≡ length (encoded n) + (length bytes - length (encoded n)) = omega arith in
      let front : bytes ≡ encoded n ++ take (length bytes - length (encoded n)) rest =
      sym (take_at bytes more (length bytes) refl) ∙ ap (take (length bytes)) are ∙ ap (λ k. take k (encoded n ++ rest)) split ∙ take-append-add (encoded n) rest (length bytes - length (encoded n)) in
      let back = ap number front ∙ number_encoded n (take (length bytes - length (encoded n)) rest) fits in
      absurd (grind arith)

-- what is read with more bytes behind it
longer : {X : Type 0} → List ℕ → Result (X × List ℕ) NoteRefusal → Result (X × List ℕ) NoteRefusal
longer more (Ok (x, rest)) = Ok (x, rest ++ more)
longer more (Err why) = Err why

-- reading goes on alike where each next step does
onward_alike : {X Y : Type 0} (more : List ℕ) (r r' : Result (X × List ℕ) NoteRefusal) (next : X × List ℕ → Result Y NoteRefusal) (h : Result Y NoteRefusal → Result Y NoteRefusal) → ((why : NoteRefusal) → h (Err why) ≡ Err why) → r' ≡ longer more r → ((p : X × List ℕ) → r ≡ Ok p → next (p.0, p.1 ++ more) ≡ h (next p)) → onward r' next ≡ h (onward r next)
unfolding longer
onward_alike {X} more r r' next h err is alike = ap (λ x. onward x next) is ∙ by r alike where
  by : (r : Result (X × List ℕ) NoteRefusal) → ((p : X × List ℕ) → r ≡ Ok p → next (p.0, p.1 ++ more) ≡ h (next p)) → onward (longer more r) next ≡ h (onward r next)
  by (Ok p) alike = alike p refl
  by (Err why) alike = sym (err why)

longer_err : {X : Type 0} (more : List ℕ) (why : NoteRefusal) → longer {X = X} more (Err why) ≡ Err why
unfolding longer
longer_err more why = refl

number_alike : (legal : ℕ → Bool) (bytes more : List ℕ) → 5 ≤ length bytes → read_number legal (bytes ++ more) ≡ longer more (read_number legal bytes)
unfolding longer longer_number
number_alike legal bytes more long = ap (judged legal) (number_longer bytes more long) ∙ by (number bytes) where
  step : (b : Bool) (n : ℕ) (rest : List ℕ) → cond b (Ok (n, rest ++ more)) (Err OutOfRange) ≡ longer more (cond b (Ok (n, rest)) (Err OutOfRange))
  step true n rest = refl
  step false n rest = refl

  by : (o : Option (ℕ × List ℕ)) → judged legal (longer_number more o) ≡ longer more (judged legal o)
  by None = refl
  by (Some (n, rest)) = step (legal n) n rest

-- how many bytes are left after a number that is below a power
left_after : (g : ℕ) (legal : ℕ → Bool) (bytes : List ℕ) (p : ℕ × List ℕ) → read_number legal bytes ≡ Ok p → (legal p.0 ≡ true → p.0 < 2 ^ (7 * g + 7)) → length bytes ≤ length p.1 + (g + 1)
left_after g legal bytes p e small =
    let t = told legal bytes p e in
    omega (arith, ap length t.bytes_are, length-append (encoded p.0) p.1, length_below g p.0 (small t.in_range))

order_left : (bytes : List ℕ) (p : ℕ × List ℕ) → read_number is_order bytes ≡ Ok p → length bytes ≤ length p.1 + 3
order_left bytes p e = left_after 2 is_order bytes p e (λ h. omega (arith, within_most 60000 p.0 h))

other_left : (order : ℕ) (bytes : List ℕ) (p : ℕ × List ℕ) → read_number (is_other order) bytes ≡ Ok p → length bytes ≤ length p.1 + 3
other_left order bytes p e = left_after 2 (is_other order) bytes p e (λ h. omega (arith, within_most 60000 p.0 (and_parts (is_order p.0) (not (eqb p.0 order)) h).0))

trade_alike : (bytes more : List ℕ) → 11 ≤ length bytes → read_trade (bytes ++ more) ≡ longer more (read_trade bytes)
unfolding read_trade longer
trade_alike bytes more long =
    onward_alike more (read_number is_order bytes) _ _ (longer more) (longer_err more) (number_alike is_order bytes more (omega arith)) (λ buy first.
    let one = order_left bytes buy first in
    onward_alike more (read_number (is_other buy.0) buy.1) _ _ (longer more) (longer_err more) (number_alike (is_other buy.0) buy.1 more (omega arith)) (λ sell then.
    let two = other_left buy.0 buy.1 sell then in
    onward_alike more (read_number is_quantity sell.1) _ _ (longer more) (longer_err more) (number_alike is_quantity sell.1 more (omega arith)) (λ quantity last. refl)))

-- how many bytes are left after a trade
trade_left : (bytes : List ℕ) (p : Trade × List ℕ) → read_trade bytes ≡ Ok p → length bytes ≤ length p.1 + 8
unfolding read_trade
trade_left bytes p e =
    let buy = went (read_number is_order bytes) _ p e in
    let sell = went (read_number (is_other buy.first.0) buy.first.1) _ p buy.then in
    let quantity = went (read_number is_quantity sell.first.1) _ p sell.then in
    let one = order_left bytes buy.first buy.was in
    let two = other_left buy.first.0 buy.first.1 sell.first sell.was in
    let three = left_after 1 is_quantity sell.first.1 quantity.first quantity.was (λ h. omega (arith, within_most 6858 quantity.first.0 h)) in
    let rest : quantity.first.1 ≡ p.1 = ap (λ x. x.1) (ok_same quantity.then) in
    omega (arith, ap length rest)

trades_alike : (count : ℕ) (bytes more : List ℕ) → 8 * count + 3 ≤ length bytes → read_trades count (bytes ++ more) ≡ longer more (read_trades count bytes)
unfolding read_trades longer
trades_alike zero bytes more long = refl
trades_alike (suc count) bytes more long =
    onward_alike more (read_trade bytes) _ _ (longer more) (longer_err more) (trade_alike bytes more (omega arith)) (λ first was.
    let left = trade_left bytes first was in
    onward_alike more (read_trades count first.1) _ _ (longer more) (longer_err more) (trades_alike count first.1 more (omega arith)) (λ others then. refl))

-- how many bytes are left after so many trades
trades_left : (count : ℕ) (bytes : List ℕ) (p : List Trade × List ℕ) → read_trades count bytes ≡ Ok p → length bytes ≤ length p.1 + 8 * count
unfolding read_trades
trades_left zero bytes p e = let rest : bytes ≡ p.1 = ap (λ x. x.1) (ok_same e) in omega (arith, ap length rest)
trades_left (suc count) bytes p e =
    let first = went (read_trade bytes) _ p e in
    let others = went (read_trades count first.first.1) _ p first.then in
    let one = trade_left bytes first.first first.was in
    let more = trades_left count first.first.1 others.first others.was in
    let rest : others.first.1 ≡ p.1 = ap (λ x. x.1) (ok_same others.then) in
    omega (arith, ap length rest)

-- bytes that are left over are left over with more behind them
ended_alike : (note : Note) (rest more : List ℕ) → 0 < length rest → ended note (rest ++ more) ≡ ended note rest
ended_alike note [] more h = absurd (omega arith)
ended_alike note (b ∷ bs) more h = refl

pub decided : (bytes : List ℕ) → Decided 2049 bytes
unfolding read_note
decided bytes long more =
    onward_alike more (read_number is_price bytes) _ _ (λ r. r) (λ why. refl) (number_alike is_price bytes more (omega arith)) (λ price first.
    let one = left_after 3 is_price bytes price first (λ h. omega (arith, within_most 10000000 price.0 h)) in
    onward_alike more (read_number is_count price.1) _ _ (λ r. r) (λ why. refl) (number_alike is_count price.1 more (omega arith)) (λ count then.
    let two = left_after 1 is_count price.1 count then (λ h. omega (arith, within_most 255 count.0 h)) in
    let most = within_most 255 count.0 (told is_count price.1 count then).in_range in
    onward_alike more (read_trades count.0 count.1) _ _ (λ r. r) (λ why. refl) (trades_alike count.0 count.1 more (omega arith)) (λ trades last.
    ended_alike _ trades.1 more (omega (arith, trades_left count.0 count.1 trades last)))))
