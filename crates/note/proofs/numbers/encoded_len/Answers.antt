use Rattle.std.proofs.Common.{ap, arith}
use lib.Count.{count_leading_zeros}
use Rattle.note.proofs.Encoding.{length_by_zeros}
use Rattle.note.proofs.numbers.encoded_len.Goals as goal

pub returns : goal.returns
returns c =
    record {
      value = length_by_zeros c.args.n (count_leading_zeros 32 c.max.result) c.div_ceil.result (omega arith)
          (ap (count_leading_zeros 32) c.max.ensures) c.div_ceil.ensures;
      bound = omega (arith, c.div_ceil.ensures);
    }
