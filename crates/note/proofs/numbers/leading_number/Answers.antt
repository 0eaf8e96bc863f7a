use Rattle.std.proofs.Common.{◌+◌, ◌*◌, get_or, Some, sym, refl, ◌∙◌, subst, arith}
use Rattle.std.proofs.lemmas.List.{take_rest}
use Rattle.note.proofs.Groups.{Sofar, begin, with_next, in_place, not_fifth, holds, more, last, refused, cut_off}
use Rattle.note.proofs.numbers.leading_number.Goals as goal

pub loop-place-init : goal.loop-place-init
loop-place-init c = begin _

pub returns-then-is_misplaced : goal.returns-then-is_misplaced
returns-then-is_misplaced c = sym (refused c.loop-place.invariant (omega arith) (omega arith) (sym c.if-is_misplaced.ensures))

pub loop-place-preserved : goal.loop-place-preserved
loop-place-preserved c =
    let i = c.loop-place.place in
    let b = get_or c.args.bytes.now i 0 in
    let top = (in_place i b (sym c.if-is_misplaced.ensures)).1 in
    let below = not_fifth i b c.loop-place.invariant.few (omega arith) top in
    let is = with_next c.loop-place.value b (7 * i) c.from.result c.from.ensures c.loop-place.invariant.small (holds c.loop-place.invariant b (λ h. absurd (omega arith))) in
    subst (Sofar c.args.bytes.now (i + 1)) (sym is) (more c.loop-place.invariant b below (omega arith) refl (omega arith) (omega arith))

pub returns-then-byte-lt-MORE : goal.returns-then-byte-lt-MORE
returns-then-byte-lt-MORE c =
    let bytes = c.args.bytes.now in
    let i = c.loop-place.place in
    let b = get_or bytes i 0 in
    let both = in_place i b (sym c.if-is_misplaced.ensures) in
    let is = with_next c.loop-place.value b (7 * i) c.from.result c.from.ensures c.loop-place.invariant.small (holds c.loop-place.invariant b (λ h. omega (arith, both.1 h))) in
    (λ j. Some (is j, take_rest bytes (i + 1) j)) ∙ sym (last c.loop-place.invariant b (omega arith) refl (omega arith) both.0 both.1)

pub returns : goal.returns
returns c = sym (cut_off c.loop-place.invariant (omega arith))
