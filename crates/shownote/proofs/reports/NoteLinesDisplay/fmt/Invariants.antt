use Rattle.std.proofs.Common.{take}
use Rattle.std.specs.Fmt.{HasWritten, IsPlainFormatter}
use Rattle.shownote.specs.Reports.{trades_text}
use Rattle.shownote.proofs.reports.NoteLinesDisplay.fmt.Given as goal

-- since the loop began, the lines of the trades before the i-th were written
abbrev pub invariant-loop-i : goal.invariant-loop-i
invariant-loop-i g l =
    IsPlainFormatter l.initial.f → HasWritten g.W.Write.write_str_gives l.initial.f (trades_text 1 (take l.i l.trade-items)) l.f
