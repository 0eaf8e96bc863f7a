use Rattle.std.proofs.Common.{◌≡◌, ◌-◌, length, take}
use Rattle.note.specs.Reading.{read_trades}
use Rattle.note.proofs.Trading.{after_done}
use Rattle.note.proofs.reader.NoteReader.store_trades.Given as goal

abbrev pub invariant-loop-place : goal.invariant-loop-place
invariant-loop-place l =
    read_trades (length l.initial.place-items) l.initial.self ≡ after_done (take l.place-index l.place-items) (read_trades (length l.initial.place-items - l.place-index) l.self)
