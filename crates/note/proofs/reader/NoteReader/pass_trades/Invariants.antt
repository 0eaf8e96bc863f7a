use Rattle.std.proofs.Common.{◌≡◌, ◌-◌}
use Rattle.note.specs.Steps.{pass_trades}
use Rattle.note.proofs.reader.NoteReader.pass_trades.Given as goal

abbrev pub invariant-loop-i : goal.invariant-loop-i
invariant-loop-i l = pass_trades l.count l.initial.self ≡ pass_trades (l.count - l._i) l.self
