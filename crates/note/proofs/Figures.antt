-- The worked figures, by computing. Assumes nothing.
use Rattle.std.proofs.Common.{refl}
use Rattle.note.specs.Numbers.{groups, encoded, leading}
use Rattle.note.specs.Notes.{trades_bytes}
use Rattle.note.specs.Reading.{read_trade, read_trades, read_note}
use Rattle.note.specs.Figures.{NoteFigures}

pub note_figures : NoteFigures
unfolding groups encoded leading trades_bytes read_trade read_trades read_note
note_figures = record { sample_written = refl; sample_read = refl; one_group = refl; three_groups = refl; over_long = refl }
