-- What a note that was judged to its last byte is. Assumes nothing.
use Rattle.std.proofs.Common.{◌≡◌, ℕ, List, [], ◌∷◌, length, Ok, Err, Result, sym, refl, ap, ◌∙◌, arith}
use Rattle.note.specs.declared.refusals.NoteRefusal.{NoteRefusal}
use Rattle.note.specs.declared.trades.Trade.{Trade}
use Rattle.note.specs.Notes.{is_price, is_count}
use Rattle.note.specs.Reading.{read_number, read_trades, read_note}
use Rattle.note.specs.Steps.{passed, pass_trades, Stands}
use Rattle.note.proofs.Round.{told_trades}

-- trades that were passed were read
record Were (r : Result (List Trade × List ℕ) NoteRefusal) (rest : List ℕ) : Type 0 where
  trades : List Trade
  was : r ≡ Ok (trades, rest)

were : (r : Result (List Trade × List ℕ) NoteRefusal) (rest : List ℕ) → Ok (tt, rest) ≡ passed r → Were r rest
were (Ok x) rest e = let both : ◌≡◌ {A = Unit {0} × List ℕ} (tt, rest) (tt, x.1) = cc in
    let same : rest ≡ x.1 = ap (λ p. p.1) both in record { trades = x.0; was = ap (λ r. Ok (x.0, r)) (sym same) }
were (Err why) rest e = absurd (grind arith)

none_left : (rest : List ℕ) → length rest ≡ 0 → rest ≡ []
none_left [] h = refl
none_left (b ∷ bs) h = absurd (omega arith)

judged_note : (bytes one two : List ℕ) (price count : ℕ) (trades : List Trade) → Ok (price, one) ≡ read_number is_price bytes → Ok (count, two) ≡ read_number is_count one → read_trades count two ≡ Ok (trades, []) → Stands bytes (record { price = price; count = count }) two
unfolding read_note
judged_note bytes one two price count trades p c t =
    record { trades = trades; note = rw (sym p, sym c, t); counted = (told_trades count two (trades, []) t).counted; begins = t }

pub legal_note : {bytes one two rest : List ℕ} {price count : ℕ} → Ok (price, one) ≡ read_number is_price bytes → Ok (count, two) ≡ read_number is_count one → Ok (tt, rest) ≡ pass_trades count two → length rest ≡ 0 → Stands bytes (record { price = price; count = count }) two
legal_note {bytes} {one} {two} {rest} {price} {count} p c t none =
    let w = were (read_trades count two) rest t in
    judged_note bytes one two price count w.trades p c (w.was ∙ ap (λ r. Ok (w.trades, r)) (none_left rest none))
