use Rattle.std.proofs.Common.{◌≡◌, refl, ◌∙◌, rules, arith}
use Rattle.std.specs.List.{fold}
use Rattle.std.proofs.iter.runs.Made.{chains}
use Rattle.lines.proofs.Numbering.{with_digit, cap_fold, number_small}
use Rattle.lines.proofs.fields.Field.value.Goals as goal

pub returns : goal.returns
returns c =
    let text = c.args.self.text.now in
    let folded : c.fold.result ≡ fold with_digit 0 text = search (rules, chains) in
    let is = folded ∙ cap_fold 0 0 text refl in
    record { exact = λ h. (omega (arith, is, number_small text h), omega (arith, is, number_small text h)); capped = is }
