use Rattle.std.proofs.Common.{length, sym, ap, arith}
use Rattle.std.proofs.Math.Nat.{sub-zero}
use Rattle.note.proofs.Written.{front_reads}
use Rattle.note.proofs.writer.write_note.Goals as goal

pub returns-clause-reads_back : goal.returns-clause-reads_back
returns-clause-reads_back c =
    let one = c.write_number.ensures in
    let two = c.write_number-2.ensures in
    let three = simp sub-zero at c.write_trades.ensures in
    front_reads c.args.price c.args.count c.args.register.now (sym c.if-not-is_writable.ensures) _ _ _ _ one two three _ (omega (arith, ap length one, ap length two, ap length three, c.encoded_len-price_len.ensures.value, c.encoded_len-count_len.ensures.value, c.trades_len.ensures.value))
