use Rattle.std.proofs.Common.{sym, subst, arith}
use Rattle.rules.specs.Prices.{Chosen}
use Rattle.rules.specs.Schedule.{schedule}
use Rattle.price.proofs.Choosing.{settled}
use Rattle.price.proofs.markets.Market.price.Goals as goal

pub returns-then-goes_up : goal.returns-then-goes_up
returns-then-goes_up g c =
    (settled _ _ c.args.self.now.crossed c.crossing-p.ensures.crossing c.crossing-p.ensures.low c.traded_at-here.ensures c.traded_at-next.ensures).up c.if-goes_up.ensures

pub returns-then-size-gt-LEVEL : goal.returns-then-size-gt-LEVEL
returns-then-size-gt-LEVEL g c =
    (settled _ _ c.args.self.now.crossed c.crossing-p.ensures.crossing c.crossing-p.ensures.low c.traded_at-here.ensures c.traded_at-next.ensures).stays c.if-goes_up.ensures (omega (arith, c.if-size-gt-LEVEL.true, c.size.ensures))

pub returns : goal.returns
returns g c =
    let s = settled _ _ c.args.self.now.crossed c.crossing-p.ensures.crossing c.crossing-p.ensures.low c.traded_at-here.ensures c.traded_at-next.ensures in
    let chosen = s.between c.if-goes_up.ensures (omega (arith, c.if-size-gt-LEVEL.false, c.size.ensures)) _ c.lowest_same.ensures in
    subst (Chosen (schedule (g.B.OrderBook.meaning c.args.self.now.book.now).orders c.args.self.now.most)) (sym c.middle.ensures) chosen
