-- How the groups of a number, and the bytes of trades, are put into a place one after another. Assumes nothing.
use Rattle.std.proofs.Common.{◌≡◌, ℕ, ◌+◌, ◌-◌, ◌/◌, ◌%◌, ◌<◌, ◌≤◌, List, [], ◌∷◌, ◌++◌, length, get_or, take, drop, set, sym, ap, ◌∙◌, ⊎_elim, append_assoc, append-nil, arith, length-append, length-set}
use lib.Bits.{bit_and, bit_or}
use Rattle.std.proofs.lemmas.Bool.{cases_lt}
use Rattle.std.proofs.lemmas.Nat.{and_mask, or_comm, or_shifted}
use Rattle.std.proofs.lemmas.List.{take_more_set, take_all, length-take-le}
use Rattle.std.proofs.lemmas.Slice.{take-put_mid}
use borrow.Rule.Slice.PartMut.{put_mid}
use Rattle.note.specs.declared.trades.Trade.{Trade}
use Rattle.note.specs.Notes.{trade_bytes, trades_bytes}
use Rattle.note.specs.Numbers.{encoded}
use Rattle.note.proofs.Encoding.{encoded_last, encoded_more, length_last, length_more, length_positive}
use Rattle.note.proofs.Listing.{bytes_more, bytes_all}

-- of the groups of n, which fill these places and one more, i are put and those of `rest` are to come
pub record Begun (n : ℕ) (places : List ℕ) (i rest : ℕ) : Type 0 where
  pub whole : take i places ++ encoded rest ≡ encoded n
  pub long : length places + 1 ≡ length (encoded n)

module _ {n : ℕ} {places : List ℕ} {i rest : ℕ} (h : Begun n places i rest) where
  to_come : i ≤ length places → length (encoded rest) ≡ length places + 1 - i
  to_come inside = omega (arith, ap length h.whole, length-append (take i places) (encoded rest), length-take-le i places inside, h.long)

  pub more : i < length places → (b : ℕ) → b ≡ 128 + rest % 128 → Begun n (set places i b) (i + 1) (rest / 128)
  more inside b is =
      let big : 128 ≤ rest = ⊎_elim (λ l. absurd (omega (arith, to_come (omega arith), length_last rest l))) (λ l. l) (cases_lt rest 128) in
      let step : encoded rest ≡ b ∷ encoded (rest / 128) = encoded_more rest big ∙ ap (λ x. x ∷ encoded (rest / 128)) (sym is) in
      record {
        whole = ap (λ x. x ++ encoded (rest / 128)) (take_more_set places i b inside) ∙ append_assoc (take i places) (b ∷ []) (encoded (rest / 128)) ∙ ap (λ x. take i places ++ x) (sym step) ∙ h.whole;
        long = omega (arith, length-set places i b, h.long);
      }

  pub small : length places ≤ i → i ≤ length places → rest < 128
  small end inside = ⊎_elim (λ l. l) (λ l. absurd (omega (arith, to_come inside, length_more rest l, length_positive (rest / 128)))) (cases_lt rest 128)

  pub last : length places ≤ i → i ≤ length places → places ++ rest ∷ [] ≡ encoded n
  last end inside = ap (λ x. places ++ x) (sym (encoded_last rest (small end inside))) ∙ ap (λ x. x ++ encoded rest) (sym (take_all i places end)) ∙ h.whole

-- a group that is not the last, as the code makes it
pub group_byte : (n : ℕ) → bit_or (bit_and n 127) 128 ≡ 128 + n % 128
group_byte n = let low = and_mask n 7 in or_comm (bit_and n 127) 128 ∙ or_shifted 1 7 (bit_and n 127) (omega arith) ∙ ap (λ x. 128 + x) low

-- the bytes of the trades before the i-th are put, up to `end`
pub record Filled (trades : List Trade) (place : List ℕ) (i end : ℕ) : Type 0 where
  pub whole : take end place ++ trades_bytes (drop i trades) ≡ trades_bytes trades
  pub ends : end + length (trades_bytes (drop i trades)) ≡ length (trades_bytes trades)

module _ {trades : List Trade} {place : List ℕ} {i end : ℕ} (h : Filled trades place i end) (d : Trade) where
  -- the next trade has room
  pub room : i < length trades → end + length (trade_bytes (get_or trades i d)) ≤ length (trades_bytes trades)
  room inside = omega (arith, h.ends, ap length (bytes_more trades i d inside), length-append (trade_bytes (get_or trades i d)) (trades_bytes (drop (i + 1) trades)))

  -- and is put
  pub next : i < length trades → end ≤ length place → (bytes : List ℕ) → bytes ≡ trade_bytes (get_or trades i d) → (k to : ℕ) → to ≡ end + length bytes → Filled trades (put_mid end k place bytes) (i + 1) to
  next inside fits bytes is k to ends =
      let rest = trades_bytes (drop (i + 1) trades) in
      let step : bytes ++ rest ≡ trades_bytes (drop i trades) = ap (λ x. x ++ rest) is ∙ sym (bytes_more trades i d inside) in
      record {
        whole = ap (λ x. x ++ rest) (take-put_mid end k place bytes to ends fits) ∙ append_assoc (take end place) bytes rest ∙ ap (λ x. take end place ++ x) step ∙ h.whole;
        ends = omega (arith, ends, h.ends, ap length step, length-append bytes rest);
      }

  pub done : length trades ≤ i → length place ≡ length (trades_bytes trades) → place ≡ trades_bytes trades
  done over long =
      let none = bytes_all trades i over in
      let all : length place ≤ end = omega (arith, h.ends, ap length none) in
      sym (take_all end place all) ∙ sym (append-nil (take end place)) ∙ ap (λ x. take end place ++ x) (sym none) ∙ h.whole
