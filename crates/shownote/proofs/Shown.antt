-- What is printed of what the reader answered is what is printed of the input. Assumes nothing.
use Rattle.std.proofs.Common.{◌≡◌, ℕ, ◌≤◌, List, length, take, Ok, Err, sym, ap, ◌∙◌}
use Rattle.note.specs.declared.refusals.NoteRefusal.{NoteRefusal}
use Rattle.note.specs.declared.trades.Heading.{Heading}
use Rattle.note.specs.declared.trades.Trade.{Trade}
use Rattle.note.specs.Reading.{read_note, read_answer, read_register}
use Rattle.note.proofs.Outcome.{accepted, refused}
use Rattle.shownote.specs.Reports.{note_text, refusal_text, report_text}

module _ (input rest : List ℕ) (all : rest ≡ input) where
  pub note_shown : (register after : List Trade) (heading : Heading) → Ok heading ≡ read_answer rest (length register) → after ≡ read_register rest register → (k : ℕ) → k ≡ heading.count → note_text heading.price (take k after) ≡ report_text (read_note input)
  note_shown register after heading value left k is =
      let a = accepted rest register heading value in
      let trades : take k after ≡ a.note.trades = ap (λ n. take n after) is ∙ ap (take heading.count) left ∙ a.trades in
      ap (λ p. note_text p (take k after)) (ap (λ h. h.price) a.head) ∙ ap (note_text a.note.price) trades ∙ sym (ap report_text (ap read_note (sym all) ∙ a.read))

  pub refusal_shown : (places : ℕ) → 255 ≤ places → (why : NoteRefusal) → Err why ≡ read_answer rest places → refusal_text why ≡ report_text (read_note input)
  refusal_shown places enough why value = sym (ap report_text (ap read_note (sym all) ∙ refused rest places why enough value))
