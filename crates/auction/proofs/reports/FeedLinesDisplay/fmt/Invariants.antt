use Rattle.std.proofs.Common.{take, flat_map}
use Rattle.std.specs.Fmt.{HasWritten, IsPlainFormatter}
use Rattle.feed.specs.Replies.{read}
use Rattle.auction.specs.Reports.{told_text}
use Rattle.auction.proofs.reports.FeedLinesDisplay.fmt.Given as goal

-- since the loop began, the lines of the answers so far were written
abbrev pub invariant-loop-reply : goal.invariant-loop-reply
invariant-loop-reply g l =
    IsPlainFormatter l.initial.f → HasWritten g.W.Write.write_str_gives l.initial.f (flat_map (λ r. told_text (read l.log r)) (take l.reply-index l.reply-items)) l.f
