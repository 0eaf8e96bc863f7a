-- What the loop over a run in rank sums, and what stands at a place. Assumes nothing.
use Rattle.std.proofs.Common.{◌≡◌, ℕ, zero, suc, ◌+◌, ◌-◌, ◌*◌, ◌<◌, ◌≤◌, true, false, ◌&&◌, ◌⊎◌, List, [], ◌∷◌, map, length, get_or, drop, Some, None, Ok, Err, Option, Result, subst, sym, refl, ap, ◌∙◌, ⊎_elim, arith}
use lib.ListN.{length-map}
use Rattle.std.proofs.lemmas.List.{drop_more, drop_all, get_or-map}
use Rattle.std.proofs.lemmas.Option.{slice_get-get_or, slice_get_past}
use Rattle.std.proofs.lemmas.Bool.{cond-true, cond-false, and_parts, and_from, and_right}
use Rattle.ranking.specs.Runs.{none_before, in_rank}
use Rattle.ranking.proofs.Placing.{ranked_cons}
use Rattle.book.specs.declared.orders.Side.{Side}
use Rattle.book.specs.Meaning.{Order, is_side, meets, part_of, quantity_at}
use Rattle.book.specs.Ranks.{before, at_place}
use Rattle.book.specs.Runs.{all_of, run_after}
use Rattle.book.specs.declared.refusals.BookRefusal.{BookRefusal}
use Rattle.book.proofs.Bests.{worse_none}
use Rattle.book.proofs.Listing.{all_cons, quantity_nil, quantity_cons}

-- i orders of a run in rank are summed
pub record Summed (s : Side) (m : ℕ) (os : List Order) (i sum : ℕ) : Type 0 where
  pub bound : sum ≤ 6858 * i
  pub rest : sum + quantity_at s m (drop i os) ≡ quantity_at s m os
  pub sided : all_of s (drop i os) ≡ true
  pub ranked : in_rank (before s) (drop i os) ≡ true

pub summed_none : (s : Side) (m : ℕ) (os : List Order) → all_of s os ≡ true → in_rank (before s) os ≡ true → Summed s m os 0 0
summed_none s m os a r = record { bound = omega arith; rest = omega arith; sided = a; ranked = r }

module _ {H : Type 0} (order : H → Order) (run : List H) (s : Side) (m i sum : ℕ) (item : H) (inside : i < length run) (is : item ≡ get_or run i item) (h : Summed s m (map order run) i sum) where
  next : drop i (map order run) ≡ order item ∷ drop (i + 1) (map order run)
  next = drop_more (map order run) i (order item) (simp length-map inside) ∙ ap (λ o. o ∷ drop (i + 1) (map order run)) (get_or-map order run i item (order item) inside ∙ ap order (sym is))

  of : (is_side s (order item).side ≡ true) × (all_of s (drop (i + 1) (map order run)) ≡ true)
  of = and_parts (is_side s (order item).side) (all_of s (drop (i + 1) (map order run))) (sym (all_cons s (order item) (drop (i + 1) (map order run))) ∙ sym (ap (all_of s) next) ∙ h.sided)

  ranks : (none_before (before s) (order item) (drop (i + 1) (map order run)) ≡ true) × (in_rank (before s) (drop (i + 1) (map order run)) ≡ true)
  ranks = and_parts (none_before (before s) (order item) (drop (i + 1) (map order run))) (in_rank (before s) (drop (i + 1) (map order run))) (sym (ranked_cons (before s) (order item) (drop (i + 1) (map order run))) ∙ sym (ap (in_rank (before s)) next) ∙ h.ranked)

  pub summed_more : meets s m (order item).limit ≡ true → (order item).quantity ≤ 6858 → Summed s m (map order run) (i + 1) (sum + (order item).quantity)
  summed_more t small =
      let part : part_of s m (order item) ≡ (order item).quantity = cond-true (is_side s (order item).side && meets s m (order item).limit) _ _ (and_from (is_side s (order item).side) (meets s m (order item).limit) of.0 t) in
      record {
        bound = omega (arith, h.bound);
        rest = omega (arith, h.rest, ap (quantity_at s m) next, quantity_cons s m (order item) (drop (i + 1) (map order run)));
        sided = of.1;
        ranked = ranks.1;
      }

  pub summed_stop : meets s m (order item).limit ≡ false → sum ≡ quantity_at s m (map order run)
  summed_stop f =
      let part : part_of s m (order item) ≡ 0 = cond-false (is_side s (order item).side && meets s m (order item).limit) _ _ (and_right (is_side s (order item).side) (meets s m (order item).limit) f) in
      omega (arith, h.rest, ap (quantity_at s m) next, quantity_cons s m (order item) (drop (i + 1) (map order run)), worse_none s m (order item) (drop (i + 1) (map order run)) f ranks.0)

pub summed_all : (s : Side) (m : ℕ) (os : List Order) (i sum : ℕ) → length os ≤ i → Summed s m os i sum → sum ≡ quantity_at s m os
summed_all s m os i sum past h = omega (arith, h.rest, ap (quantity_at s m) (drop_all i os past), quantity_nil s m)

-- what stands at a place that is counted from 1
pub place_none : {X : Type 0} (xs : List X) (k : ℕ) → (k ≡ 0) ⊎ ((k ≡ 0 → ⊥) × (length xs < k)) → None ≡ at_place xs k
place_none xs zero h = refl
place_none xs (suc k) h = sym (slice_get_past xs k (⊎_elim (λ e. absurd (omega arith)) (λ l. omega arith) h))

pub place_some : {X : Type 0} (xs : List X) (k : ℕ) (d : X) → 0 < k → k ≤ length xs → Some (get_or xs (k - 1) d) ≡ at_place xs k
place_some xs zero d some within = absurd (omega arith)
place_some xs (suc k) d some within = let e : suc k - 1 ≡ k = omega arith in ap (λ j. Some (get_or xs j d)) e ∙ sym (slice_get-get_or xs k d (omega arith))

-- Of no order everything is so.

pub none_ranked : (s : Side) → in_rank (before s) [] ≡ true
unfolding in_rank
none_ranked s = refl

pub none_sided : (s : Side) → all_of s [] ≡ true
unfolding all_of
none_sided s = refl

-- what holds of a run and of its cut holds after a cut, however it was answered
pub after_run : (P : List Order → Type 0) (r : Option (Result (Unit {0}) BookRefusal)) (new old : List Order) {now : List Order} → now ≡ run_after r new old → P new → P old → P now
after_run P None new old e p q = subst P (sym e) q
after_run P (Some (Ok _)) new old e p q = subst P (sym e) p
after_run P (Some (Err why)) new old e p q = subst P (sym e) q
