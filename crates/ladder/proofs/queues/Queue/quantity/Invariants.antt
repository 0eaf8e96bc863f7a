use Rattle.ladder.specs.Ladders.{orders_of}
use Rattle.ladder.proofs.Queueing.{Summed}
use Rattle.ladder.proofs.queues.Queue.quantity.Given as goal

abbrev pub invariant-loop-order : goal.invariant-loop-order
invariant-loop-order g l = Summed g.S.OneSide.SIDE l.m (orders_of l.self.run.items) l.order-index l.sum
