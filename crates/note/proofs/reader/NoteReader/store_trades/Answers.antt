use Rattle.std.proofs.Common.{◌+◌, ◌-◌, length, take, sym, ap, ◌∙◌, arith}
use Rattle.std.proofs.lemmas.List.{take_more_set, take_all}
use Rattle.std.proofs.lemmas.Result.{err_from_is_err_and}
use Rattle.note.specs.Reading.{read_trades}
use Rattle.note.proofs.Trading.{after_done, read_none, read_more, read_refused}
use Rattle.note.proofs.reader.NoteReader.store_trades.Goals as goal

pub returns-in_err-place : goal.returns-in_err-place
returns-in_err-place c =
    let p = err_from_is_err_and c.from_residual.result c.from_residual.ensures.1 in
    let left = length c.args.places.now - c.loop-place.place-index in
    rw (p.1, p.2) (sym (c.loop-place.invariant ∙ read_refused left (length c.args.places.now - (c.loop-place.place-index + 1)) _ (omega arith) _ c.in_err-place.ensures))

pub loop-place-preserved : goal.loop-place-preserved
loop-place-preserved c =
    let less = length c.args.places.now - (c.loop-place.place-index + 1) in
    let step = read_more (length c.args.places.now - c.loop-place.place-index) less _ (omega arith) _ c.in_ok-place.ensures in
    c.loop-place.invariant ∙ step ∙ ap (λ done. after_done done (read_trades less c.trade.new.self)) (sym (take_more_set c.loop-place.place-items c.loop-place.place-index c.in_ok-place.field-0 (omega arith)))

pub returns : goal.returns
returns c =
    let all = take_all c.loop-place.place-index c.loop-place.place-items (omega arith) in
    let none = read_none (length c.args.places.now - c.loop-place.place-index) (take c.loop-place.place-index c.loop-place.place-items) c.loop-place.self (omega arith) in
    rw all at (sym (c.loop-place.invariant ∙ none))
