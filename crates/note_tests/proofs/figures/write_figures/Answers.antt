use Rattle.note.proofs.Figures.{note_figures}
use Rattle.note_tests.proofs.figures.write_figures.Goals as goal

pub returns : goal.returns
returns c = note_figures
