use Rattle.std.proofs.Common.{take, flat_map}
use Rattle.std.specs.Fmt.{HasWritten, IsPlainFormatter}
use Rattle.auction.specs.Reports.{trade_text}
use Rattle.auction.proofs.reports.UncrossedLinesDisplay.fmt.Given as goal

-- since the loop began, the lines of the trades so far were written
abbrev pub invariant-loop-trade : goal.invariant-loop-trade
invariant-loop-trade g l =
    IsPlainFormatter l.initial.f → HasWritten g.W.Write.write_str_gives l.initial.f (flat_map trade_text (take l.trade-index l.trade-items)) l.f
