-- What chains over the rows of a table give, in the words of the rules. Assumes nothing.
use Rattle.std.proofs.Common.{◌≡◌, ℕ, ◌+◌, ◌*◌, ◌<◌, ◌≤◌, Bool, true, false, cond, ◌&&◌, eqb, List, [], ◌∷◌, length, get_or, drop, Some, None, sym, refl, ap, ◌∙◌, arith}
use Rattle.std.specs.List.{count_by}
use Rattle.std.proofs.lemmas.List.Recursion.{is_sum_by}
use Rattle.std.proofs.lemmas.List.{drop_more, drop_all}
use Rattle.std.proofs.lemmas.Bool.{cond-true, cond-false}
use Rattle.std.proofs.Math.Bool.{and_comm}
use Rattle.book.specs.declared.orders.Side.{Side}
use Rattle.book.specs.Meaning.{Order, order_of, is_side, meets, part_of, quantity_at}
use Rattle.book.proofs.Listing.{quantity_nil, quantity_cons}
use Rattle.table.specs.declared.row.Row.{Row}
use Rattle.book.specs.Ranks.{ahead, counted}
use Rattle.book.proofs.Places.{counted_nil, counted_cons}
use Rattle.table.specs.Aheads.{first_at}
use Rattle.table.specs.Tables.{orders_of, aheads_in}

pub counted_rows : (y : Order) (rows : List Row) → count_by (λ r. ahead (order_of r.live) y) rows ≡ counted (orders_of rows) y
counted_rows y rows = sym (is_sum_by (λ l. counted (orders_of l) y) (λ r. cond (ahead (order_of r.live) y) 1 0) (counted_nil y) (λ r l. counted_cons (order_of r.live) (orders_of l) y) rows)

-- the first order of a side with a count
module _ (s : Side) (a : ℕ) where
  pub first_nil : (hs : List ℕ) → first_at s a [] hs ≡ None
  unfolding first_at
  first_nil hs = refl

  pub first_cons : (o : Order) (os : List Order) (h : ℕ) (hs : List ℕ) → first_at s a (o ∷ os) (h ∷ hs) ≡ cond (is_side s o.side && eqb h a) (Some o) (first_at s a os hs)
  unfolding first_at
  first_cons o os h hs = refl

  abbrev pub stands : Row → Bool
  stands r = eqb r.ahead a && is_side s r.live.body.side

  first_of : (r : Row) (rows : List Row) → first_at s a (orders_of (r ∷ rows)) (aheads_in (r ∷ rows)) ≡ cond (stands r) (Some (order_of r.live)) (first_at s a (orders_of rows) (aheads_in rows))
  first_of r rows = first_cons (order_of r.live) (orders_of rows) r.ahead (aheads_in rows) ∙ ap (λ b. cond b (Some (order_of r.live)) (first_at s a (orders_of rows) (aheads_in rows))) (and_comm (is_side s r.live.body.side) (eqb r.ahead a))

-- a search that has passed i rows
module _ (s : Side) (a : ℕ) (rows : List Row) (i : ℕ) where
  abbrev pub Passed : Type 0
  Passed = first_at s a (orders_of rows) (aheads_in rows) ≡ first_at s a (orders_of (drop i rows)) (aheads_in (drop i rows))

  module _ (r : Row) (inside : i < length rows) (is : r ≡ get_or rows i r) (passed : Passed) where
    here : first_at s a (orders_of rows) (aheads_in rows) ≡ cond (stands s a r) (Some (order_of r.live)) (first_at s a (orders_of (drop (i + 1) rows)) (aheads_in (drop (i + 1) rows)))
    here = passed ∙ ap (λ l. first_at s a (orders_of l) (aheads_in l)) (drop_more rows i r inside ∙ ap (λ x. x ∷ drop (i + 1) rows) (sym is)) ∙ first_of s a r (drop (i + 1) rows)

    pub first_here : stands s a r ≡ true → first_at s a (orders_of rows) (aheads_in rows) ≡ Some (order_of r.live)
    first_here t = here ∙ cond-true (stands s a r) _ _ t

    pub first_later : stands s a r ≡ false → first_at s a (orders_of rows) (aheads_in rows) ≡ first_at s a (orders_of (drop (i + 1) rows)) (aheads_in (drop (i + 1) rows))
    first_later f = here ∙ cond-false (stands s a r) _ _ f

  pub first_past : length rows ≤ i → Passed → first_at s a (orders_of rows) (aheads_in rows) ≡ None
  first_past past passed = passed ∙ ap (λ l. first_at s a (orders_of l) (aheads_in l)) (drop_all i rows past) ∙ first_nil s a []

-- the quantity of a side at a limit, summed over the first i rows
pub record Summing (s : Side) (m : ℕ) (rows : List Row) (i sum : ℕ) : Type 0 where
  pub bound : sum ≤ 6858 * i
  pub rest : sum + quantity_at s m (orders_of (drop i rows)) ≡ quantity_at s m (orders_of rows)

module _ (s : Side) (m : ℕ) (rows : List Row) (i sum : ℕ) (r : Row) (inside : i < length rows) (is : r ≡ get_or rows i r) (h : Summing s m rows i sum) where
  next : drop i rows ≡ r ∷ drop (i + 1) rows
  next = drop_more rows i r inside ∙ ap (λ x. x ∷ drop (i + 1) rows) (sym is)

  left : quantity_at s m (orders_of (drop i rows)) ≡ part_of s m (order_of r.live) + quantity_at s m (orders_of (drop (i + 1) rows))
  left = ap (λ l. quantity_at s m (orders_of l)) next ∙ quantity_cons s m (order_of r.live) (orders_of (drop (i + 1) rows))

  pub summing_one : (is_side s r.live.body.side && meets s m r.live.body.limit) ≡ true → Summing s m rows (i + 1) (sum + r.live.body.quantity)
  summing_one t =
      let part : part_of s m (order_of r.live) ≡ r.live.body.quantity = cond-true (is_side s r.live.body.side && meets s m r.live.body.limit) _ _ t in
      record { bound = omega (arith, h.bound, r.live.body.sized.1); rest = omega (arith, part, h.rest, left) }

  pub summing_none : (is_side s r.live.body.side && meets s m r.live.body.limit) ≡ false → Summing s m rows (i + 1) sum
  summing_none f =
      let part : part_of s m (order_of r.live) ≡ 0 = cond-false (is_side s r.live.body.side && meets s m r.live.body.limit) _ _ f in
      record { bound = omega (arith, h.bound); rest = omega (arith, part, h.rest, left) }

pub summing_all : (s : Side) (m : ℕ) (rows : List Row) (i sum : ℕ) → length rows ≤ i → Summing s m rows i sum → sum ≡ quantity_at s m (orders_of rows)
summing_all s m rows i sum past h = omega (arith, h.rest, ap (λ l. quantity_at s m (orders_of l)) (drop_all i rows past), quantity_nil s m)
