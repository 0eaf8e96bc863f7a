-- A note that is written reads back, and bytes are read only as what is written for them. Assumes nothing.
use Rattle.std.proofs.Common.{◌≡◌, ℕ, zero, suc, ◌^◌, ◌<◌, ◌≤◌, Bool, true, false, cond, not, ◌&&◌, eqb, ltb, leb, List, [], ◌∷◌, ◌++◌, length, Some, None, Ok, Err, Option, Result, sym, refl, ap, ◌∙◌, subst, append_assoc, append-nil, arith}
use Rattle.std.proofs.lemmas.Bool.{lt-ltb, leb-true, and_parts, and_from, cond-true}
use Rattle.note.specs.declared.refusals.NoteRefusal.{NoteRefusal}
use Rattle.note.specs.declared.refusals.NoteRefusal.TheVariants.{OutOfRange}
use Rattle.note.specs.declared.trades.Trade.{Trade}
use Rattle.note.specs.Numbers.{encoded, leading, of_32_bits, number}
use Rattle.note.specs.Notes.{Note, within, is_price, is_count, is_order, is_other, is_quantity, is_trade, are_trades, is_legal, trade_bytes, trades_bytes, note_bytes}
use Rattle.note.specs.Reading.{onward, judged, read_number, read_trade, read_trades, ended, read_note}
use Rattle.note.proofs.Encoding.{leading_encoded, encoded_leading}

-- what was read before reading went on to an answer
pub record Went {X Y : Type 0} (r : Result X NoteRefusal) (next : X → Result Y NoteRefusal) (y : Y) : Type 0 where
  pub first : X
  pub was : r ≡ Ok first
  pub then : next first ≡ Ok y

pub went : {X Y : Type 0} (r : Result X NoteRefusal) (next : X → Result Y NoteRefusal) (y : Y) → onward r next ≡ Ok y → Went r next y
went (Ok x) next y e = record { first = x; was = refl; then = e }
went (Err why) next y e = absurd (grind arith)

pub ok_same : {X : Type 0} {x y : X} → ◌≡◌ {A = Result X NoteRefusal} (Ok x) (Ok y) → x ≡ y
ok_same e = cc

-- what a test let through
pub some_when : {X : Type 0} (b : Bool) (x y : X) → cond b (Some x) None ≡ Some y → (b ≡ true) × (x ≡ y)
some_when true x y e = (refl, cc)
some_when false x y e = absurd (grind arith)

pub ok_when : {X : Type 0} (b : Bool) (x y : X) (why : NoteRefusal) → cond b (Ok x) (Err why) ≡ Ok y → (b ≡ true) × (x ≡ y)
ok_when true x y why e = (refl, cc)
ok_when false x y why e = absurd (grind arith)

pub within_most : (most n : ℕ) → within most n ≡ true → n ≤ most
within_most most n h = leb-true n most (and_parts (leb 1 n) (leb n most) h).1

pub number_encoded : (n : ℕ) (rest : List ℕ) → n < 2 ^ 32 → number (encoded n ++ rest) ≡ Some (n, rest)
number_encoded n rest fits = ap of_32_bits (leading_encoded n rest) ∙ cond-true (ltb n (2 ^ 32)) (Some (n, rest)) None (lt-ltb n (2 ^ 32) fits)

pub encoded_number : (bytes : List ℕ) (n : ℕ) (rest : List ℕ) → number bytes ≡ Some (n, rest) → bytes ≡ encoded n ++ rest
encoded_number bytes n rest e = encoded_leading bytes n rest (small (leading bytes) e) where
  small : (o : Option (ℕ × List ℕ)) → of_32_bits o ≡ Some (n, rest) → o ≡ Some (n, rest)
  small None e = e
  small (Some (m, more)) e = ap Some (some_when (ltb m (2 ^ 32)) (m, more) (n, rest) e).1

-- a number in its range
pub read_encoded : (legal : ℕ → Bool) (n : ℕ) (rest : List ℕ) → n < 2 ^ 32 → legal n ≡ true → read_number legal (encoded n ++ rest) ≡ Ok (n, rest)
read_encoded legal n rest fits h = ap (judged legal) (number_encoded n rest fits) ∙ cond-true (legal n) (Ok (n, rest)) (Err OutOfRange) h

pub record Told (legal : ℕ → Bool) (bytes : List ℕ) (p : ℕ × List ℕ) : Type 0 where
  pub bytes_are : bytes ≡ encoded p.0 ++ p.1
  pub in_range : legal p.0 ≡ true

pub told : (legal : ℕ → Bool) (bytes : List ℕ) (p : ℕ × List ℕ) → read_number legal bytes ≡ Ok p → Told legal bytes p
told legal bytes p e = by (number bytes) refl e where
  by : (o : Option (ℕ × List ℕ)) → number bytes ≡ o → judged legal o ≡ Ok p → Told legal bytes p
  by None is e = absurd (grind arith)
  by (Some (n, rest)) is e =
      let kept = ok_when (legal n) (n, rest) p OutOfRange e in
      subst (Told legal bytes) kept.1 (record { bytes_are = encoded_number bytes n rest is; in_range = kept.0 })

-- a trade
pub read_trade_bytes : (t : Trade) (rest : List ℕ) → is_trade t ≡ true → read_trade (trade_bytes t ++ rest) ≡ Ok (t, rest)
unfolding read_trade
read_trade_bytes t rest h =
    let buy = and_parts (is_order t.buy) (is_other t.buy t.sell && is_quantity t.quantity) h in
    let sell = and_parts (is_other t.buy t.sell) (is_quantity t.quantity) buy.1 in
    let order = and_parts (is_order t.sell) (not (eqb t.sell t.buy)) sell.0 in
    let split : trade_bytes t ++ rest ≡ encoded t.buy ++ (encoded t.sell ++ (encoded t.quantity ++ rest)) = simp append_assoc in
    let one = read_encoded is_order t.buy (encoded t.sell ++ (encoded t.quantity ++ rest)) (omega (arith, within_most 60000 t.buy buy.0)) buy.0 in
    let two = read_encoded (is_other t.buy) t.sell (encoded t.quantity ++ rest) (omega (arith, within_most 60000 t.sell order.0)) sell.0 in
    let three = read_encoded is_quantity t.quantity rest (omega (arith, within_most 6858 t.quantity sell.1)) sell.1 in
    rw (split, one, two, three)

pub record ToldTrade (bytes : List ℕ) (p : Trade × List ℕ) : Type 0 where
  pub bytes_are : bytes ≡ trade_bytes p.0 ++ p.1
  pub legal : is_trade p.0 ≡ true

three_told : (bytes : List ℕ) (b s q : ℕ × List ℕ) → Told is_order bytes b → Told (is_other b.0) b.1 s → Told is_quantity s.1 q → ToldTrade bytes (record { buy = b.0; sell = s.0; quantity = q.0 }, q.1)
three_told bytes b s q one two three =
    let first : encoded b.0 ++ b.1 ≡ encoded b.0 ++ (encoded s.0 ++ (encoded q.0 ++ q.1)) = ap (λ x. encoded b.0 ++ x) (two.bytes_are ∙ ap (λ x. encoded s.0 ++ x) three.bytes_are) in
    let split : (encoded b.0 ++ (encoded s.0 ++ encoded q.0)) ++ q.1 ≡ encoded b.0 ++ (encoded s.0 ++ (encoded q.0 ++ q.1)) = simp append_assoc in
    record {
      bytes_are = one.bytes_are ∙ first ∙ sym split;
      legal = and_from (is_order b.0) (is_other b.0 s.0 && is_quantity q.0) one.in_range (and_from (is_other b.0 s.0) (is_quantity q.0) two.in_range three.in_range);
    }

pub told_trade : (bytes : List ℕ) (p : Trade × List ℕ) → read_trade bytes ≡ Ok p → ToldTrade bytes p
unfolding read_trade
told_trade bytes p e =
    let buy = went (read_number is_order bytes) _ p e in
    let sell = went (read_number (is_other buy.first.0) buy.first.1) _ p buy.then in
    let quantity = went (read_number is_quantity sell.first.1) _ p sell.then in
    let all = three_told bytes buy.first sell.first quantity.first (told _ _ _ buy.was) (told _ _ _ sell.was) (told _ _ _ quantity.was) in
    subst (ToldTrade bytes) (ok_same quantity.then) all

-- trades one after another
pub read_trades_bytes : (ts : List Trade) (rest : List ℕ) → are_trades ts ≡ true → read_trades (length ts) (trades_bytes ts ++ rest) ≡ Ok (ts, rest)
unfolding read_trades trades_bytes are_trades
read_trades_bytes [] rest h = refl
read_trades_bytes (t ∷ ts) rest h =
    let both = and_parts (is_trade t) (are_trades ts) h in
    let split : (trade_bytes t ++ trades_bytes ts) ++ rest ≡ trade_bytes t ++ (trades_bytes ts ++ rest) = append_assoc (trade_bytes t) (trades_bytes ts) rest in
    rw (split, read_trade_bytes t (trades_bytes ts ++ rest) both.0, read_trades_bytes ts rest both.1)

pub record ToldTrades (bytes : List ℕ) (count : ℕ) (p : List Trade × List ℕ) : Type 0 where
  pub bytes_are : bytes ≡ trades_bytes p.0 ++ p.1
  pub legal : are_trades p.0 ≡ true
  pub counted : length p.0 ≡ count

pub told_trades : (count : ℕ) (bytes : List ℕ) (p : List Trade × List ℕ) → read_trades count bytes ≡ Ok p → ToldTrades bytes count p
unfolding read_trades trades_bytes are_trades
told_trades zero bytes p e = subst (ToldTrades bytes zero) (ok_same e) (record { bytes_are = refl; legal = refl; counted = refl })
told_trades (suc more) bytes p e =
    let first = went (read_trade bytes) _ p e in
    let others = went (read_trades more first.first.1) _ p first.then in
    let one = told_trade bytes first.first first.was in
    let rest = told_trades more first.first.1 others.first others.was in
    subst (ToldTrades bytes (suc more)) (ok_same others.then)
    (record {
      bytes_are = one.bytes_are ∙ ap (λ x. trade_bytes first.first.0 ++ x) rest.bytes_are ∙ sym (append_assoc (trade_bytes first.first.0) (trades_bytes others.first.0) others.first.1);
      legal = and_from (is_trade first.first.0) (are_trades others.first.0) one.legal rest.legal;
      counted = ap suc rest.counted;
    })

-- a legal note that is written reads back
pub reads_back : (n : Note) → is_legal n ≡ true → read_note (note_bytes n) ≡ Ok n
unfolding read_note
reads_back n h =
    let head = and_parts (is_price n.price) (is_count (length n.trades) && are_trades n.trades) h in
    let body = and_parts (is_count (length n.trades)) (are_trades n.trades) head.1 in
    let one = read_encoded is_price n.price (encoded (length n.trades) ++ trades_bytes n.trades) (omega (arith, within_most 10000000 n.price head.0)) head.0 in
    let two = read_encoded is_count (length n.trades) (trades_bytes n.trades) (omega (arith, within_most 255 (length n.trades) body.0)) body.0 in
    let three = ap (read_trades (length n.trades)) (sym (append-nil (trades_bytes n.trades))) ∙ read_trades_bytes n.trades [] body.1 in
    rw (one, two, three)

pub record ToldNote (bytes : List ℕ) (n : Note) : Type 0 where
  pub bytes_are : bytes ≡ note_bytes n
  pub legal : is_legal n ≡ true

-- nothing is left over after a note that was read
ended_whole : (m n : Note) (rest : List ℕ) → ended m rest ≡ Ok n → (rest ≡ []) × (m ≡ n)
ended_whole m n [] e = (refl, ok_same e)
ended_whole m n (b ∷ bs) e = absurd (grind arith)

parts_told : (bytes : List ℕ) (p c : ℕ × List ℕ) (t : List Trade × List ℕ) → Told is_price bytes p → Told is_count p.1 c → ToldTrades c.1 c.0 t → t.1 ≡ [] → ToldNote bytes (record { price = p.0; trades = t.0 })
parts_told bytes p c t one two three end =
    let rest : c.1 ≡ trades_bytes t.0 = three.bytes_are ∙ ap (λ x. trades_bytes t.0 ++ x) end ∙ append-nil (trades_bytes t.0) in
    let count : encoded c.0 ≡ encoded (length t.0) = ap encoded (sym three.counted) in
    record {
      bytes_are = one.bytes_are ∙ ap (λ x. encoded p.0 ++ x) (two.bytes_are ∙ ap (λ x. encoded c.0 ++ x) rest ∙ ap (λ x. x ++ trades_bytes t.0) count);
      legal = and_from (is_price p.0) (is_count (length t.0) && are_trades t.0) one.in_range (and_from (is_count (length t.0)) (are_trades t.0) (ap is_count three.counted ∙ two.in_range) three.legal);
    }

-- bytes are read only as a legal note that they are written for
pub only_written : (bytes : List ℕ) (n : Note) → read_note bytes ≡ Ok n → ToldNote bytes n
unfolding read_note
only_written bytes n e =
    let price = went (read_number is_price bytes) _ n e in
    let count = went (read_number is_count price.first.1) _ n price.then in
    let trades = went (read_trades count.first.0 count.first.1) _ n count.then in
    let end = ended_whole (record { price = price.first.0; trades = trades.first.0 }) n trades.first.1 trades.then in
    subst (ToldNote bytes) end.1 (parts_told bytes price.first count.first trades.first (told _ _ _ price.was) (told _ _ _ count.was) (told_trades _ _ _ trades.was) end.0)
