use Rattle.std.proofs.Common.{◌+◌, ◌++◌, length, get_or, take, ap, ◌∙◌, append_assoc, arith, rules}
use Rattle.std.proofs.lemmas.List.{take_all}
use Rattle.std.proofs.lemmas.Grind.{put_two}
use Rattle.note.specs.declared.trades.Trade.{Trade}
use Rattle.shownote.specs.Reports.{contracts, price_text, counts_text, trade_text, trades_text}
use Rattle.shownote.proofs.Totals.{text_more, text_none}
use Rattle.shownote.proofs.reports.NoteLinesDisplay.fmt.Goals as goal

pub loop-i-init : goal.loop-i-init
loop-i-init g c = λ plain. rw text_none (search rules)

pub loop-i-preserved : goal.loop-i-preserved
loop-i-preserved g c = λ plain.
    let ts = c.args.self.now.trades.now in
    let i = c.loop-i.i in
    let none : Trade = record { buy = 0; sell = 0; quantity = 0 } in
    put_two _ _ _ _ (trades_text 1 (take i ts)) (trade_text (i + 1) (get_or ts i none)) _ (c.loop-i.invariant plain) (search rules) (text_more ts i none (omega arith))

pub returns-clause-writes : goal.returns-clause-writes
returns-clause-writes g c = λ plain always.
    let ts = c.args.self.now.trades.now in
    let price = price_text c.args.self.now.price in
    let counts = counts_text (length ts) (contracts ts) in
    let all = ap (trades_text 1) (take_all c.loop-i.i ts (omega arith)) in
    put_two _ _ _ _ (price ++ counts) (trades_text 1 (take c.loop-i.i ts)) _ (search rules) (c.loop-i.invariant (search rules)) (append_assoc price counts _ ∙ ap (λ text. price ++ (counts ++ text)) all)
