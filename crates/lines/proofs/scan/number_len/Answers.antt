use Rattle.std.proofs.Common.{◌≡◌, cond, sym, ap, ◌∙◌}
use Rattle.lines.proofs.Numbering.{leading, most_digits}
use Rattle.lines.proofs.scan.number_len.Goals as goal
use Rattle.lines.proofs.scan.number_len.Goals.{then-starts_with, else-starts_with}

pub returns : goal.returns
returns c =
    let most : c.if-starts_with.most ≡ cond c.starts_with.result 1 9 = elim c.if-starts_with.branch [
      | then-starts_with w ↦ w.most-is ∙ sym (ap (λ t. cond t 1 9) w.if-starts_with.true)
      | else-starts_with w ↦ w.most-is ∙ sym (ap (λ t. cond t 1 9) w.if-starts_with.false)
    ] in
    leading _ _ _ c.digits_len.ensures (most_digits c.args.bytes.now c.starts_with.result _ c.starts_with.ensures.value most)
