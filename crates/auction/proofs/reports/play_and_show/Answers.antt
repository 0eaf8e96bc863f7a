use Rattle.std.proofs.Common.{flat_map, ap, ◌∙◌}
use Rattle.std.proofs.lemmas.Result.{IfOk-weaker}
use Rattle.feed.specs.Replies.{read_all}
use Rattle.auction.specs.Reports.{told_text}
use Rattle.auction.proofs.Texts.{printed}
use Rattle.auction.proofs.reports.play_and_show.Goals as goal

pub returns : goal.returns
returns c =
    let replies = ap (λ rs. flat_map told_text (read_all c.deref-2.result.now rs)) c.deref.ensures.value in
    let log = ap (λ ts. flat_map told_text (read_all ts c.in_ok-played.played.replies.items)) c.deref-2.ensures.value in
    IfOk-weaker c.format.result _ _ (λ text is. printed _ _ _ _ _ _ c.in_ok-played.ensures.plays c.in_ok-book.ensures c.requires _ (is ∙ replies ∙ log)) c.format.ensures.ok
