use Rattle.std.proofs.Common.{◌≡◌, ℕ, List, Option, ◌<◌, [], ◌∷◌, map, length, vec_items, Some, Ok, Err, sym, refl, ap, ◌∙◌, subst}
use Rattle.book.specs.declared.orders.Live.{Live}
use Rattle.book.specs.Meaning.{Order, order_of, seen, cut_judged, left_of}
use Rattle.book.specs.Runs.{Stands, those}
use Rattle.book.proofs.Standing.{cut_told, cut_less, cut_whole}
use Rattle.book.proofs.runs.cut_in.Goals as goal

-- the item stands at its place in the run that is behind the loan
abbrev place : {H : Type 0} (order : H → Order) (n i : ℕ) {run now : List H} → now ≡ run → (i < length now) × Stands (map order now) n i → (i < length run) × Stands (map order run) n i
place order n i is told = subst (λ l. (i < length l) × Stands (map order l) n i) is told

pub returns-in-Err-clause-answer : goal.returns-in-Err-clause-answer
returns-in-Err-clause-answer g c =
    let order = g.H.Holds.order in
    let told = place order c.args.number c.in_ok-i.i c.deref.ensures.value c.in_ok-i.ensures in
    let judged = subst (λ o. cut_judged (Some o) c.args.quantity ≡ Err c.in-Err.why) c.live.ensures c.in-Err.ensures in
    cut_told order (vec_items c.args.run.now) c.args.number c.args.quantity c.in_ok-i.i c.index.result.now told.0 c.index.ensures told.1 (Err c.in-Err.why) judged

pub returns-in-Ok-Some : goal.returns-in-Ok-Some
returns-in-Ok-Some g c =
    let order = g.H.Holds.order in
    let run = vec_items c.args.run.now in
    let told = place order c.args.number c.in_ok-i.i c.deref.ensures.value c.in_ok-i.ensures in
    let left = sym (ap (λ (o : Option Live). those (seen o)) c.in-Ok-Some.field-0-is) ∙ c.in-Ok-Some.ensures.1 in
    let judged = subst (λ o. (cut_judged (Some o) c.args.quantity ≡ Ok tt) × (order_of c.in-Ok-Some.live ∷ [] ≡ left_of o c.args.quantity)) c.live.ensures (c.in-Ok-Some.ensures.0, left) in
    record {
      answer = cut_told order run c.args.number c.args.quantity c.in_ok-i.i c.index.result.now told.0 c.index.ensures told.1 (Ok tt) judged.0;
      after = cut_less order run c.args.number c.args.quantity c.in_ok-i.i c.index.result.now told.0 c.index.ensures told.1 c.hold.new.self (ap (λ o. o ∷ []) c.hold.ensures ∙ judged.1);
      capacity = refl;
    }

pub returns-in-Ok-None : goal.returns-in-Ok-None
returns-in-Ok-None g c =
    let order = g.H.Holds.order in
    let run = vec_items c.args.run.now in
    let told = place order c.args.number c.in_ok-i.i c.deref.ensures.value c.in_ok-i.ensures in
    let left = sym (ap (λ (o : Option Live). those (seen o)) c.in-Ok-None.field-0-is) ∙ c.in-Ok-None.ensures.1 in
    let judged = subst (λ o. (cut_judged (Some o) c.args.quantity ≡ Ok tt) × ([] ≡ left_of o c.args.quantity)) c.live.ensures (c.in-Ok-None.ensures.0, left) in
    record {
      answer = cut_told order run c.args.number c.args.quantity c.in_ok-i.i c.index.result.now told.0 c.index.ensures told.1 (Ok tt) judged.0;
      after = ap (map order) c.remove.ensures.items ∙ cut_whole order run c.args.number c.args.quantity c.in_ok-i.i c.index.result.now told.0 c.index.ensures told.1 judged.1;
      capacity = c.remove.ensures.capacity;
    }
