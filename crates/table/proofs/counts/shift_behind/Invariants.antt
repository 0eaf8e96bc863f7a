use Rattle.std.proofs.Common.{◌≡◌, ℕ, ◌++◌, map, take, drop}
use Rattle.book.specs.Meaning.{order_of}
use Rattle.table.specs.Aheads.{shifted}
use Rattle.table.proofs.counts.shift_behind.Given as goal

-- the counts of the first rows are moved
abbrev pub invariant-loop-row : goal.invariant-loop-row
invariant-loop-row g l = (f : ℕ → ℕ) → ((x y : ℕ) → g.F.Fn.post l.initial.moved (x, tt) y → y ≡ f x) → l.rows ≡ map (shifted f (order_of l.live)) (take l.row-index l.initial.rows) ++ drop l.row-index l.initial.rows
