-- The worked figures of a note, to be computed from the definitions. Assumes nothing.
use Rattle.std.specs.Prelude.{◌≡◌, ℕ, List, [], ◌∷◌, Ok, Err}
use Rattle.note.specs.declared.refusals.NoteRefusal.TheVariants.{BadNumber}
use Rattle.note.specs.Numbers.{encoded}
use Rattle.note.specs.Notes.{Note, note_bytes}
use Rattle.note.specs.Reading.{read_note}

-- price 10,000, order 1 with order 3 for 6 contracts, order 2 with order 3 for 2
abbrev pub sample : Note
sample =
    record {
      price = 10000;
      trades = record { buy = 1; sell = 3; quantity = 6 } ∷ record { buy = 2; sell = 3; quantity = 2 } ∷ [];
    }

abbrev pub sample_bytes : List ℕ
sample_bytes = 0x90 ∷ 0x4e ∷ 0x02 ∷ 0x01 ∷ 0x03 ∷ 0x06 ∷ 0x02 ∷ 0x03 ∷ 0x02 ∷ []

pub record NoteFigures : Type 0 where
  pub sample_written : note_bytes sample ≡ sample_bytes
  pub sample_read : read_note sample_bytes ≡ Ok sample
  pub one_group : encoded 127 ≡ 0x7f ∷ []
  pub three_groups : encoded 60000 ≡ 0xe0 ∷ 0xd4 ∷ 0x03 ∷ []
  pub over_long : read_note (0x80 ∷ 0x00 ∷ []) ≡ Err BadNumber
