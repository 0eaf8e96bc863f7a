-- The number of each refusal of a book. Assumes nothing.
use Rattle.std.specs.Prelude.{ℕ}
use Rattle.book.specs.declared.refusals.BookRefusal.{BookRefusal}
use Rattle.book.specs.declared.refusals.BookRefusal.TheVariants.{UnknownOrder, CutRange, Full, NumbersSpent}

abbrev pub numbered : BookRefusal → ℕ
numbered UnknownOrder = 7
numbered CutRange = 8
numbered Full = 9
numbered NumbersSpent = 10
