use Rattle.std.proofs.Common.{rules, ◌≡◌, ◌∙◌}
use Rattle.std.specs.List.{count_by}
use Rattle.book.specs.Meaning.{order_of}
use Rattle.book.specs.Ranks.{ahead}
use Rattle.table.proofs.Chains.{counted_rows}
use Rattle.table.proofs.counts.count_ahead.Goals as goal

pub returns : goal.returns
returns c =
    let told : c.count.result ≡ count_by (λ r. ahead (order_of r.live) (order_of c.args.live.now)) c.args.rows.now = search rules in
    told ∙ counted_rows (order_of c.args.live.now) c.args.rows.now
