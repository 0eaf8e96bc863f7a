-- What a caller of the reader learns of the bytes from its answer. Assumes nothing.
use Rattle.std.proofs.Common.{◌≡◌, ℕ, ◌≤◌, ◌&&◌, leb, List, length, take, drop, Ok, Err, Result, sym, refl, ap, ◌∙◌, arith}
use Rattle.std.proofs.lemmas.List.{take_at}
use Rattle.std.proofs.lemmas.Bool.{leb-true, le-leb, and_parts, cond-true}
use Rattle.note.specs.declared.refusals.NoteRefusal.{NoteRefusal}
use Rattle.note.specs.declared.refusals.NoteRefusal.TheVariants.{RegisterShort}
use Rattle.note.specs.declared.trades.Heading.{Heading}
use Rattle.note.specs.declared.trades.Trade.{Trade}
use Rattle.note.specs.Notes.{Note, is_price, is_count, are_trades}
use Rattle.note.specs.Reading.{onward, placed, read_note, read_answer, read_register}
use Rattle.note.proofs.Round.{went, ok_when, only_written, within_most}
use Rattle.note.proofs.Placing.{register_placed}

-- an accepted note: its heading is the answer, and its trades are the first in the register
pub record Accepted (bytes : List ℕ) (register : List Trade) (heading : Heading) : Type 0 where
  pub note : Note
  pub read : read_note bytes ≡ Ok note
  pub head : heading ≡ record { price = note.price; count = length note.trades }
  pub trades : take heading.count (read_register bytes register) ≡ note.trades
  pub fits : heading.count ≤ length register
  pub few : heading.count ≤ 255

-- a note that is read has at most 255 trades
few_trades : (bytes : List ℕ) (n : Note) → read_note bytes ≡ Ok n → length n.trades ≤ 255
few_trades bytes n is =
    let legal = (only_written bytes n is).legal in
    let body = (and_parts (is_price n.price) (is_count (length n.trades) && are_trades n.trades) legal).1 in
    within_most 255 (length n.trades) (and_parts (is_count (length n.trades)) (are_trades n.trades) body).0

pub accepted : (bytes : List ℕ) (register : List Trade) (heading : Heading) → Ok heading ≡ read_answer bytes (length register) → Accepted bytes register heading
accepted bytes register heading e =
    let w = went (read_note bytes) (placed (length register)) heading (sym e) in
    let n = w.first in
    let kept = ok_when (leb (length n.trades) (length register)) (record { price = n.price; count = length n.trades }) heading RegisterShort w.then in
    let fits = leb-true (length n.trades) (length register) kept.0 in
    record {
      note = n;
      read = w.was;
      head = sym kept.1;
      trades = ap (take heading.count) (register_placed bytes n w.was register fits) ∙ take_at n.trades (drop (length n.trades) register) heading.count (ap (λ h. h.count) kept.1);
      fits = omega (arith, ap (λ h. h.count) kept.1);
      few = omega (arith, ap (λ h. h.count) kept.1, few_trades bytes n w.was);
    }

-- with 255 places or more, a refusal is one of the bytes
pub refused : (bytes : List ℕ) (places : ℕ) (why : NoteRefusal) → 255 ≤ places → Err why ≡ read_answer bytes places → read_note bytes ≡ Err why
refused bytes places why enough e = by (read_note bytes) refl e where
  by : (r : Result Note NoteRefusal) → read_note bytes ≡ r → Err why ≡ onward r (placed places) → r ≡ Err why
  by (Err other) is e = let same : other ≡ why = cc in ap Err same
  by (Ok n) is e =
      let most = few_trades bytes n is in
      let placed_ok : placed places n ≡ Ok (record { price = n.price; count = length n.trades }) = cond-true (leb (length n.trades) places) (Ok (record { price = n.price; count = length n.trades })) (Err RegisterShort) (le-leb (length n.trades) places (omega arith)) in
      absurd (grind arith)
