use Rattle.std.proofs.Common.{length, ap, ◌∙◌, arith}
use Rattle.book.specs.Meaning.{rising}
use Rattle.table.specs.Tables.{orders_of}
use Rattle.table.proofs.Tabling.{none_rises}
use Rattle.table.proofs.tables.Table.new.Goals as goal

pub invariant_of-result : goal.invariant_of-result
invariant_of-result c =
    let made = c.in_ok-rows.ensures in
    let run = c.in_ok-rows.rows.run in
    record {
      fits = omega (arith, run.ok.0, ap length made.0);
      room = made.1;
      rises = ap (λ n. rising 0 (orders_of run.items) n) c.new-intake.ensures.last ∙ ap (λ l. rising 0 (orders_of l) 0) made.0 ∙ none_rises;
    }
