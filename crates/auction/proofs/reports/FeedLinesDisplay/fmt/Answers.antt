use Rattle.std.proofs.Common.{flat_map, sym, ap, ◌∙◌, arith}
use Rattle.std.proofs.lemmas.List.{take_all}
use Rattle.auction.proofs.Texts.{one_text, read_one_by_one}
use Rattle.auction.proofs.reports.FeedLinesDisplay.fmt.Goals as goal

pub returns-clause-writes : goal.returns-clause-writes
returns-clause-writes g c = λ plain always.
    let log = c.args.self.now.log.now in
    let rs = c.args.self.now.replies.now in
    let all = ap (flat_map (one_text log)) (take_all c.loop-reply.reply-index rs (omega arith)) ∙ read_one_by_one log rs in
    rw (sym all) (c.loop-reply.invariant plain)
