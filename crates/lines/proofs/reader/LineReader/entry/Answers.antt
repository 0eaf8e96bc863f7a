use Rattle.lines.specs.Kinds.{Entry, Cut}
use Rattle.lines.specs.Steps.{behind}
use Rattle.lines.proofs.Lining.{no_form, no_fields, entry_of}
use Rattle.lines.proofs.reader.LineReader.entry.Goals as goal

pub returns-in_err-side : goal.returns-in_err-side
returns-in_err-side c = rw c.from_residual-in_err-side.ensures (no_form Entry c.in_ok-pass.ensures (c.in_err-side.ensures (behind Cut)))

pub returns-in_err-quantity : goal.returns-in_err-quantity
returns-in_err-quantity c = rw c.from_residual-in_err-quantity.ensures (no_form Entry c.in_ok-pass.ensures (no_fields c.in_ok-side.side c.in_ok-side.ensures c.in_err-quantity.ensures))

pub returns : goal.returns
returns c = entry_of c.in_ok-side.side c.in_ok-quantity.quantity c.in_ok-quantity.price c.in_ok-pass.ensures c.in_ok-side.ensures c.in_ok-quantity.ensures
