-- What is answered and stored of a note that was read. Assumes nothing.
use Rattle.std.proofs.Common.{◌≡◌, ℕ, ◌≤◌, leb, List, ◌++◌, length, drop, Ok, Err, ap, ◌∙◌}
use Rattle.std.proofs.lemmas.Bool.{le-leb, cond-true}
use Rattle.note.specs.declared.refusals.NoteRefusal.TheVariants.{RegisterShort}
use Rattle.note.specs.declared.trades.Trade.{Trade}
use Rattle.note.specs.Notes.{Note}
use Rattle.note.specs.Reading.{onward, placed, filled, read_note, read_answer, read_register}

module _ (bytes : List ℕ) (n : Note) (is : read_note bytes ≡ Ok n) where
  pub answer_placed : (places : ℕ) → length n.trades ≤ places → read_answer bytes places ≡ Ok (record { price = n.price; count = length n.trades })
  answer_placed places h =
      ap (λ r. onward r (placed places)) is ∙ cond-true (leb (length n.trades) places) (Ok (record { price = n.price; count = length n.trades })) (Err RegisterShort) (le-leb (length n.trades) places h)

  pub register_placed : (register : List Trade) → length n.trades ≤ length register → read_register bytes register ≡ n.trades ++ drop (length n.trades) register
  register_placed register h =
      ap (λ r. filled r register) is ∙ cond-true (leb (length n.trades) (length register)) (n.trades ++ drop (length n.trades) register) register (le-leb (length n.trades) (length register) h)
