-- The orders of two runs, by number. Assumes nothing.
use Rattle.std.proofs.Common.{◌≡◌, ℕ, ◌+◌, ◌<◌, Bool, true, false, cond, ◌&&◌, List, [], ◌∷◌, ◌++◌, length, sym, refl, ap, ◌∙◌, subst, append-nil, arith}
use Rattle.std.proofs.lemmas.Bool.{cond-true, cond-false, le-ltb, and_parts, and_left}
use Rattle.ranking.specs.Runs.{placed, in_rank, sorted}
use Rattle.ranking.proofs.Placing.{placed_none, placed_later}
use Rattle.ranking.proofs.Sorting.{Shuffle, then, back, same_length, shuffle_sorted, Apart, other_shuffle, apart_shuffle, sorted_shuffle, sorted_ranked, sorted_id, one_rank}
use Rattle.book.specs.declared.orders.Side.{Side}
use Rattle.book.specs.declared.orders.Side.TheVariants.{Buy, Sell}
use Rattle.book.specs.Meaning.{Order, is_side, rising, find_in, cut_in, part_of, quantity_at, meets}
use Rattle.book.specs.Ranks.{before, earlier, of_side, ranked}
use Rattle.book.specs.Runs.{all_of}
use Rattle.book.proofs.Turns.{number_of, irreflexive, transitive, level, earlier_irreflexive, earlier_transitive, earlier_level, quantity_shuffle, side_shuffle, find_shuffle, cut_shuffle, rank_cut, apart_cut}
use Rattle.book.proofs.Listing.{rising_ends, rising_parts, rising_apart, rising_below_all, side_apart}
use Rattle.ladder.specs.Ladders.{merged}

-- The order with the highest number is placed last.
place_last : (low : ℕ) (os : List Order) (high : ℕ) (o : Order) → rising low os high ≡ true → high < o.number → placed earlier o os ≡ os ++ o ∷ []
place_last low [] high o h l = placed_none earlier o
place_last low (x ∷ os) high o h l =
    let p = rising_parts low x os high h in
    placed_later earlier o x os (le-ltb o.number x.number (omega (arith, rising_ends x.number os high p.1))) ∙ ap (λ ys. x ∷ ys) (place_last x.number os high o p.1 l)

-- Sides.

of_side_all : (s : Side) (os : List Order) → all_of s os ≡ true → of_side s os ≡ os
unfolding of_side all_of
of_side_all s [] h = refl
of_side_all s (o ∷ os) h = let both = and_parts (is_side s o.side) (all_of s os) h in cond-true (is_side s o.side) _ _ both.0 ∙ ap (λ ys. o ∷ ys) (of_side_all s os both.1)

of_side_append : (s : Side) (xs ys : List Order) → of_side s (xs ++ ys) ≡ of_side s xs ++ of_side s ys
unfolding of_side
of_side_append s [] ys = refl
of_side_append s (x ∷ xs) ys = ap (λ l. cond (is_side s x.side) (x ∷ l) l) (of_side_append s xs ys) ∙ by (is_side s x.side) where
  by : (b : Bool) → cond b (x ∷ (of_side s xs ++ of_side s ys)) (of_side s xs ++ of_side s ys) ≡ cond b (x ∷ of_side s xs) (of_side s xs) ++ of_side s ys
  by true = refl
  by false = refl

other_side : (s t : Side) → (s ≡ t → ⊥) → (u : Side) → is_side t u ≡ true → is_side s u ≡ false
other_side Buy Buy ne u h = absurd (ne refl)
other_side Buy Sell ne Buy h = absurd (grind arith)
other_side Buy Sell ne Sell h = refl
other_side Sell Buy ne Buy h = refl
other_side Sell Buy ne Sell h = absurd (grind arith)
other_side Sell Sell ne u h = absurd (ne refl)

of_side_none : (s t : Side) → (s ≡ t → ⊥) → (os : List Order) → all_of t os ≡ true → of_side s os ≡ []
unfolding of_side all_of
of_side_none s t ne [] h = refl
of_side_none s t ne (o ∷ os) h =
    let both = and_parts (is_side t o.side) (all_of t os) h in
    cond-false (is_side s o.side) _ _ (other_side s t ne o.side both.0) ∙ of_side_none s t ne os both.1

quantity_append : (s : Side) (m : ℕ) (xs ys : List Order) → quantity_at s m (xs ++ ys) ≡ quantity_at s m xs + quantity_at s m ys
unfolding quantity_at
quantity_append s m [] ys = omega arith
quantity_append s m (x ∷ xs) ys = omega (arith, quantity_append s m xs ys)

quantity_none : (s t : Side) → (s ≡ t → ⊥) → (m : ℕ) (os : List Order) → all_of t os ≡ true → quantity_at s m os ≡ 0
unfolding quantity_at all_of
quantity_none s t ne m [] h = refl
quantity_none s t ne m (o ∷ os) h =
    let both = and_parts (is_side t o.side) (all_of t os) h in
    let part : part_of s m o ≡ 0 = cond-false (is_side s o.side && meets s m o.limit) _ _ (and_left (is_side s o.side) (meets s m o.limit) (other_side s t ne o.side both.0)) in
    omega (arith, quantity_none s t ne m os both.1)

buy_not_sell : Buy ≡ Sell → ⊥
buy_not_sell e = grind arith

sell_not_buy : Sell ≡ Buy → ⊥
sell_not_buy e = grind arith

-- Two runs, each of a side and in rank, whose orders by number rise.
module _ (buys sells : List Order) (last : ℕ) (rises : rising 0 (merged buys sells) last ≡ true) where
  turned : Shuffle (merged buys sells) (buys ++ sells)
  turned = shuffle_sorted earlier (buys ++ sells)

  apart : Apart number_of (buys ++ sells)
  apart = apart_shuffle number_of turned (rising_apart 0 (merged buys sells) last rises)

  pub merged_length : length (merged buys sells) ≡ length (buys ++ sells)
  merged_length = same_length turned

  pub merged_find : (n : ℕ) → find_in (merged buys sells) n ≡ find_in (buys ++ sells) n
  merged_find n = find_shuffle n turned (rising_apart 0 (merged buys sells) last rises)

  -- an order of the next number is the last
  pub merged_enter : (buys' sells' : List Order) (o : Order) → last < o.number → Shuffle (buys' ++ sells') (o ∷ (buys ++ sells)) → merged buys' sells' ≡ merged buys sells ++ o ∷ []
  unfolding sorted
  merged_enter buys' sells' o next s =
      let high = rising_below_all 0 (merged buys sells) last o.number next rises in
      let whole : Apart number_of (o ∷ (buys ++ sells)) = (other_shuffle number_of o.number turned high, apart) in
      sorted_shuffle earlier number_of earlier_irreflexive earlier_transitive earlier_level s (apart_shuffle number_of (back s) whole) ∙ place_last 0 (merged buys sells) last o rises next

  pub merged_cut : (buys' sells' : List Order) (n q : ℕ) → buys' ++ sells' ≡ cut_in (buys ++ sells) n q → merged buys' sells' ≡ cut_in (merged buys sells) n q
  merged_cut buys' sells' n q e =
      let cuts = cut_shuffle n q turned (rising_apart 0 (merged buys sells) last rises) in
      let left : in_rank earlier (merged buys' sells') ≡ true = sorted_ranked earlier number_of earlier_irreflexive earlier_transitive earlier_level (buys' ++ sells') in
      let right : in_rank earlier (cut_in (merged buys sells) n q) ≡ true = rank_cut earlier (λ o z k. refl) (λ o z k. refl) n q (merged buys sells) (sorted_ranked earlier number_of earlier_irreflexive earlier_transitive earlier_level (buys ++ sells)) in
      let shuffled : Shuffle (merged buys' sells') (cut_in (merged buys sells) n q) = then (shuffle_sorted earlier (buys' ++ sells')) (subst (λ l. Shuffle l (cut_in (merged buys sells) n q)) (sym e) (back cuts)) in
      let own : Apart number_of (merged buys' sells') = apart_shuffle number_of (back shuffled) (apart_cut n q (merged buys sells) (rising_apart 0 (merged buys sells) last rises)) in
      one_rank earlier number_of earlier_irreflexive earlier_transitive earlier_level (merged buys' sells') (cut_in (merged buys sells) n q) left right own shuffled

  module _ (buys_sided : all_of Buy buys ≡ true) (sells_sided : all_of Sell sells ≡ true) where
    pub merged_bought : (m : ℕ) → quantity_at Buy m (merged buys sells) ≡ quantity_at Buy m buys
    merged_bought m = omega (arith, quantity_shuffle Buy m turned, quantity_append Buy m buys sells, quantity_none Buy Sell buy_not_sell m sells sells_sided)

    pub merged_sold : (m : ℕ) → quantity_at Sell m (merged buys sells) ≡ quantity_at Sell m sells
    merged_sold m = omega (arith, quantity_shuffle Sell m turned, quantity_append Sell m buys sells, quantity_none Sell Buy sell_not_buy m buys buys_sided)

    pub buys_only : of_side Buy (buys ++ sells) ≡ buys
    buys_only = of_side_append Buy buys sells ∙ ap (λ l. l ++ of_side Buy sells) (of_side_all Buy buys buys_sided) ∙ ap (λ l. buys ++ l) (of_side_none Buy Sell buy_not_sell sells sells_sided) ∙ append-nil buys

    pub sells_only : of_side Sell (buys ++ sells) ≡ sells
    sells_only = of_side_append Sell buys sells ∙ ap (λ l. l ++ of_side Sell sells) (of_side_none Sell Buy sell_not_buy buys buys_sided) ∙ of_side_all Sell sells sells_sided

    ranked_turned : (s : Side) → ranked s (merged buys sells) ≡ ranked s (buys ++ sells)
    ranked_turned s = sorted_shuffle (before s) number_of (irreflexive s) (transitive s) (level s) (side_shuffle s turned) (side_apart s (merged buys sells) (rising_apart 0 (merged buys sells) last rises))

    pub merged_buys : in_rank (before Buy) buys ≡ true → ranked Buy (merged buys sells) ≡ buys
    merged_buys r = ranked_turned Buy ∙ ap (sorted (before Buy)) buys_only ∙ sorted_id (before Buy) number_of (irreflexive Buy) (transitive Buy) (level Buy) buys r (subst (Apart number_of) buys_only (side_apart Buy (buys ++ sells) apart))

    pub merged_sells : in_rank (before Sell) sells ≡ true → ranked Sell (merged buys sells) ≡ sells
    merged_sells r = ranked_turned Sell ∙ ap (sorted (before Sell)) sells_only ∙ sorted_id (before Sell) number_of (irreflexive Sell) (transitive Sell) (level Sell) sells r (subst (Apart number_of) sells_only (side_apart Sell (buys ++ sells) apart))
