use Rattle.std.proofs.Common.{Some, sym, subst, arith}
use Rattle.note.specs.declared.trades.Trade.{Trade}
use Rattle.engine.specs.Pairings.{Next}
use Rattle.engine.proofs.Fronting.{next_none, next_some, left_of}
use Rattle.engine.proofs.pairing.next_trade.Goals as goal

pub returns-then-quantity-eq-NOTHING : goal.returns-then-quantity-eq-NOTHING
returns-then-quantity-eq-NOTHING g c = next_none _ _ _ _ c.requires c.refilled-buys.ensures c.refilled-sells.ensures (omega arith)

pub returns : goal.returns
returns g c =
    let os = (g.B.OrderBook.meaning c.args.book.now).orders in
    let trade : Trade = record { buy = c.refilled-buys.result.number; sell = c.refilled-sells.result.number; quantity = c.min-quantity.result } in
    let next = next_some os c.args.fronts.now c.refilled-buys.result c.refilled-sells.result c.min-quantity.result c.refilled-buys.ensures c.refilled-sells.ensures c.min-quantity.ensures c.if-quantity-eq-NOTHING.false in
    let bought = subst (λ b. Next os c.args.fronts.now (Some trade) (record { buys = b; sells = left_of c.refilled-sells.result c.min-quantity.result })) (sym c.lessened-fronts.ensures) next in
    subst (λ s. Next os c.args.fronts.now (Some trade) (record { buys = c.lessened-fronts.result; sells = s })) (sym c.lessened-fronts-2.ensures) bought
