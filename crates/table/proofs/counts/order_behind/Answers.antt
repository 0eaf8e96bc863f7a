use Rattle.std.proofs.Common.{arith, sym}
use Rattle.table.proofs.Chains.{first_here, first_later, first_past}
use Rattle.table.proofs.counts.order_behind.Goals as goal

pub returns-then-stands_behind : goal.returns-then-stands_behind
returns-then-stands_behind c = sym (first_here c.args.side c.args.ahead c.args.rows.now c.loop-row.row-index c.row-item.result (omega arith) c.row-item.is c.loop-row.invariant (sym c.if-stands_behind.ensures))

pub loop-row-preserved : goal.loop-row-preserved
loop-row-preserved c = first_later c.args.side c.args.ahead c.args.rows.now c.loop-row.row-index c.row-item.result (omega arith) c.row-item.is c.loop-row.invariant (sym c.if-stands_behind.ensures)

pub returns : goal.returns
returns c = sym (first_past c.args.side c.args.ahead c.args.rows.now c.loop-row.row-index (omega arith) c.loop-row.invariant)
