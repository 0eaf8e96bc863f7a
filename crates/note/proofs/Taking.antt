-- What a reader takes, in the steps of the code. Assumes nothing.
use Rattle.std.proofs.Common.{◌≡◌, ℕ, Bool, true, false, cond, not, ◌&&◌, eqb, List, Some, None, Ok, Err, Option, refl}
use Rattle.note.specs.declared.refusals.NoteRefusal.TheVariants.{OutOfRange}
use Rattle.note.specs.Numbers.{number}
use Rattle.note.specs.Notes.{is_order, is_other, is_quantity}
use Rattle.note.specs.Reading.{onward, judged, read_number, read_trade}

-- the second order is judged by its range, then against the first
second : (order : ℕ) (bytes : List ℕ) → read_number (is_other order) bytes ≡ onward (read_number is_order bytes) (λ x. cond (not (eqb x.0 order)) (Ok x) (Err OutOfRange))
second order bytes = by (number bytes) where
  step : (b : Bool) (x : ℕ × List ℕ) → cond (b && not (eqb x.0 order)) (Ok x) (Err OutOfRange) ≡ onward (cond b (Ok x) (Err OutOfRange)) (λ y. cond (not (eqb y.0 order)) (Ok y) (Err OutOfRange))
  step true x = refl
  step false x = refl

  by : (o : Option (ℕ × List ℕ)) → judged (is_other order) o ≡ onward (judged is_order o) (λ x. cond (not (eqb x.0 order)) (Ok x) (Err OutOfRange))
  by None = refl
  by (Some (n, rest)) = step (is_order n) (n, rest)

-- a trade, number by number
pub trade_read : (bytes : List ℕ) → read_trade bytes ≡ onward (read_number is_order bytes) (λ buy. onward (onward (read_number is_order buy.1) (λ x. cond (not (eqb x.0 buy.0)) (Ok x) (Err OutOfRange))) (λ sell. onward (read_number is_quantity sell.1) (λ quantity. Ok (record { buy = buy.0; sell = sell.0; quantity = quantity.0 }, quantity.1))))
unfolding read_trade
trade_read bytes = simp second refl
