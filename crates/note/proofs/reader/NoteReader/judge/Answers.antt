use Rattle.std.proofs.Common.{length, sym, ap, ◌∙◌, subst}
use Rattle.std.proofs.lemmas.Bool.{eqb-true}
use Rattle.note.specs.Steps.{Stands}
use Rattle.note.proofs.Judging.{legal_note}
use Rattle.note.proofs.reader.NoteReader.judge.Goals as goal

pub returns : goal.returns
returns c =
    let first = c.new-trades.ensures ∙ c.self.view_is in
    let none = ap length (sym c.self-2.view_is) ∙ eqb-true _ 0 (sym c.if-not-is_empty.ensures) in
    subst (Stands c.args.self _) (sym first) (legal_note c.in_ok-price.ensures c.in_ok-count.ensures c.in_ok-pass_trades.ensures none)
