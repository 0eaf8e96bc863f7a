-- What an entry and a cut keep of the two runs of a ladder. Assumes nothing.
use Rattle.std.proofs.Common.{◌≡◌, ℕ, ◌+◌, ◌<◌, ◌≤◌, Bool, true, false, cond, ◌⊎◌, List, [], ◌∷◌, ◌++◌, map, length, is_ok, Some, None, Ok, Err, Option, Result, sym, refl, ap, ◌∙◌, subst, inl, inr, ⊎_elim, append_assoc, arith, length-append}
use Rattle.std.specs.Option.{unwrap_or}
use Rattle.std.proofs.lemmas.Bool.{cases_Bool, cases_eq, cond-true, cond-false}
use Rattle.ranking.specs.Runs.{placed, in_rank, sorted}
use Rattle.ranking.proofs.Placing.{placed_none, placed_here, placed_later, rank_placed}
use Rattle.ranking.proofs.Sorting.{Shuffle, then, same_length, to_front, beside, behind, shuffle_placed}
use Rattle.book.specs.declared.orders.Side.{Side}
use Rattle.book.specs.declared.orders.Side.TheVariants.{Buy, Sell}
use Rattle.book.specs.declared.refusals.BookRefusal.{BookRefusal}
use Rattle.book.specs.declared.refusals.BookRefusal.TheVariants.{UnknownOrder}
use Rattle.book.specs.Meaning.{Order, Book, fresh, is_side, rising, find_in, cut, cut_in, cut_judged, cut_answer, cut_after, left_of, unless_refused}
use Rattle.book.specs.Ranks.{before, earlier}
use Rattle.book.specs.Runs.{all_of, run_cut, run_after}
use Rattle.book.proofs.Listing.{rising_push, rising_cut, all_from, all_parts, all_cut, length_cut}
use Rattle.book.proofs.Makes.{Went}
use Rattle.book.proofs.Turns.{irreflexive, transitive, cut_here, cut_later, rank_cut}
use Rattle.book.proofs.Standing.{judged, unjudged, none_found, find_here, find_later, find_past, cut_past}
use Rattle.ladder.specs.Ladders.{merged, ladder_book, joined, CutBoth}
use Rattle.ladder.proofs.Merging.{merged_length, merged_find, merged_enter, merged_cut}

-- placing commutes with a map that keeps the ranking
pub map_placed : {X Y : Type 0} (goes : X → X → Bool) (rank : Y → Y → Bool) (f : X → Y) → ((x y : X) → goes x y ≡ rank (f x) (f y)) → (x : X) (xs : List X) → map f (placed goes x xs) ≡ placed rank (f x) (map f xs)
map_placed goes rank f alike x [] = ap (map f) (placed_none goes x) ∙ sym (placed_none rank (f x))
map_placed goes rank f alike x (y ∷ ys) =
    ⊎_elim (λ t. ap (map f) (placed_here goes x y ys t) ∙ sym (placed_here rank (f x) (f y) (map f ys) (sym (alike x y) ∙ t)))
    (λ n. ap (map f) (placed_later goes x y ys n) ∙ ap (λ l. f y ∷ l) (map_placed goes rank f alike x ys) ∙ sym (placed_later rank (f x) (f y) (map f ys) (sym (alike x y) ∙ n)))
    (cases_Bool (goes x y))

pub all_placed : (s : Side) (o : Order) (os : List Order) → is_side s o.side ≡ true → all_of s os ≡ true → all_of s (placed (before s) o os) ≡ true
all_placed s o [] p h = ap (all_of s) (placed_none (before s) o) ∙ all_from s o [] p h
all_placed s o (x ∷ xs) p h =
    let both = all_parts s x xs h in
    ⊎_elim (λ t. ap (all_of s) (placed_here (before s) o x xs t) ∙ all_from s o (x ∷ xs) p h)
    (λ n. ap (all_of s) (placed_later (before s) o x xs n) ∙ all_from s x (placed (before s) o xs) both.0 (all_placed s o xs p both.1))
    (cases_Bool (before s o x))

-- An order that enters.
module _ (s : Side) (o : Order) (os : List Order) where
  pub joined_own : is_side s o.side ≡ true → placed (before s) o os ≡ joined s o os
  joined_own t = sym (cond-true (is_side s o.side) _ _ t)

  pub joined_other : is_side s o.side ≡ false → os ≡ joined s o os
  joined_other f = sym (cond-false (is_side s o.side) _ _ f)

  joined_rank : in_rank (before s) os ≡ true → in_rank (before s) (joined s o os) ≡ true
  joined_rank r = by (is_side s o.side) where
    by : (b : Bool) → in_rank (before s) (cond b (placed (before s) o os) os) ≡ true
    by true = rank_placed (before s) (irreflexive s) (transitive s) o os r
    by false = r

  joined_all : all_of s os ≡ true → all_of s (joined s o os) ≡ true
  joined_all h =
      ⊎_elim (λ t. ap (all_of s) (cond-true (is_side s o.side) _ _ t) ∙ all_placed s o os t h)
      (λ f. ap (all_of s) (cond-false (is_side s o.side) _ _ f) ∙ h)
      (cases_Bool (is_side s o.side))

joined_shuffle : (o : Order) (buys sells : List Order) → Shuffle (joined Buy o buys ++ joined Sell o sells) (o ∷ (buys ++ sells))
joined_shuffle o buys sells = by o.side where
  by : (s : Side) → Shuffle (cond (is_side Buy s) (placed (before Buy) o buys) buys ++ cond (is_side Sell s) (placed (before Sell) o sells) sells) (o ∷ (buys ++ sells))
  by Buy = beside sells (shuffle_placed (before Buy) o buys)
  by Sell = then (behind buys (shuffle_placed (before Sell) o sells)) (to_front o buys sells)

joined_length : (o : Order) (buys sells : List Order) → length (joined Buy o buys) + length (joined Sell o sells) ≡ length buys + length sells + 1
joined_length o buys sells = omega (arith, same_length (joined_shuffle o buys sells), length-append (joined Buy o buys) (joined Sell o sells), length-append buys sells)

-- A cut in the first run that has the number.
pub found_first : (xs ys : List Order) (n : ℕ) (o : Order) → find_in xs n ≡ Some o → find_in (xs ++ ys) n ≡ Some o
found_first [] ys n o h = let none = none_found n in absurd (grind arith)
found_first (x ∷ xs) ys n o h =
    ⊎_elim (λ e. find_here x (xs ++ ys) n e ∙ sym (find_here x xs n e) ∙ h)
    (λ ne. find_later x (xs ++ ys) n ne ∙ found_first xs ys n o (sym (find_later x xs n ne) ∙ h))
    (cases_eq x.number n)

cut_first : (xs ys : List Order) (n q : ℕ) (o : Order) → find_in xs n ≡ Some o → cut_in (xs ++ ys) n q ≡ cut_in xs n q ++ ys
cut_first [] ys n q o h = let none = none_found n in absurd (grind arith)
cut_first (x ∷ xs) ys n q o h =
    ⊎_elim (λ e. cut_here x (xs ++ ys) n q e ∙ sym (append_assoc (left_of x q) xs ys) ∙ ap (λ l. l ++ ys) (sym (cut_here x xs n q e)))
    (λ ne. cut_later x (xs ++ ys) n q ne ∙ ap (λ l. x ∷ l) (cut_first xs ys n q o (sym (find_later x xs n ne) ∙ h)) ∙ ap (λ l. l ++ ys) (sym (cut_later x xs n q ne)))
    (cases_eq x.number n)

module _ (buys sells : List Order) (n q : ℕ) where
  pub cut_buy : (buys' : List Order) (r : Result (Unit {0}) BookRefusal) → Some r ≡ run_cut buys n q → buys' ≡ run_after (Some r) (cut_in buys n q) buys → CutBoth buys sells buys' sells n q r
  cut_buy buys' (Ok u) e after =
      let found = judged (find_in buys n) q (Ok u) e in
      let o = found.0 in
      record { answer = found.1.1 ∙ ap (λ x. cut_judged x q) (found.1.0 ∙ sym (found_first buys sells n o found.1.0)); whole = ap (λ l. l ++ sells) after ∙ sym (cut_first buys sells n q o found.1.0); first = inr after; second = inl refl }
  cut_buy buys' (Err why) e after =
      let found = judged (find_in buys n) q (Err why) e in
      let o = found.0 in
      record { answer = found.1.1 ∙ ap (λ x. cut_judged x q) (found.1.0 ∙ sym (found_first buys sells n o found.1.0)); whole = ap (λ l. l ++ sells) after; first = inl after; second = inl refl }

  module _ (buys' sells' : List Order) (none : find_in buys n ≡ None) (stay : buys' ≡ buys) where
    cut_sell : (r : Result (Unit {0}) BookRefusal) → Some r ≡ run_cut sells n q → sells' ≡ run_after (Some r) (cut_in sells n q) sells → CutBoth buys sells buys' sells' n q r
    cut_sell (Ok u) e after =
        let found = judged (find_in sells n) q (Ok u) e in
        record { answer = found.1.1 ∙ ap (λ x. cut_judged x q) (sym (find_past buys sells n none)); whole = ap (λ l. l ++ sells') stay ∙ ap (λ l. buys ++ l) after ∙ sym (cut_past buys sells n q none); first = inl stay; second = inr after }
    cut_sell (Err why) e after =
        let found = judged (find_in sells n) q (Err why) e in
        record { answer = found.1.1 ∙ ap (λ x. cut_judged x q) (sym (find_past buys sells n none)); whole = ap (λ l. l ++ sells') stay ∙ ap (λ l. buys ++ l) after; first = inl stay; second = inl after }

    cut_neither : find_in sells n ≡ None → sells' ≡ sells → CutBoth buys sells buys' sells' n q (Err UnknownOrder)
    cut_neither unsold still = record { answer = sym (ap (λ x. cut_judged x q) (find_past buys sells n none ∙ unsold)); whole = ap (λ l. l ++ sells') stay ∙ ap (λ l. buys ++ l) still; first = inl stay; second = inl still }

    pub cut_second : (o : Option (Result (Unit {0}) BookRefusal)) → o ≡ run_cut sells n q → sells' ≡ run_after o (cut_in sells n q) sells → CutBoth buys sells buys' sells' n q (unwrap_or o (Err UnknownOrder))
    cut_second None e after = cut_neither (unjudged (find_in sells n) q e) after
    cut_second (Some r) e after = cut_sell r e after

-- what holds of a run and of its cut
either_run : (P : List Order → Type 0) (xs xs' : List Order) (n q : ℕ) → (xs' ≡ xs) ⊎ (xs' ≡ cut_in xs n q) → P xs → P (cut_in xs n q) → P xs'
either_run P xs xs' n q way p c = ⊎_elim (λ e. subst P (sym e) p) (λ e. subst P (sym e) c) way

-- What every ladder keeps of its two runs.
pub record Kept (places last : ℕ) (buys sells : List Order) : Type 0 where
  pub fits : length buys + length sells ≤ places
  pub buys_ranked : in_rank (before Buy) buys ≡ true
  pub sells_ranked : in_rank (before Sell) sells ≡ true
  pub buys_sided : all_of Buy buys ≡ true
  pub sells_sided : all_of Sell sells ≡ true
  pub rises : rising 0 (merged buys sells) last ≡ true

pub kept_none : (places : ℕ) → Kept places 0 [] []
unfolding all_of sorted rising in_rank
kept_none places = record { fits = omega arith; buys_ranked = refl; sells_ranked = refl; buys_sided = refl; sells_sided = refl; rises = refl }

pub fresh_ladder : (places : ℕ) → ladder_book places 0 [] [] ≡ fresh places
unfolding sorted
fresh_ladder places = refl

module _ (places last : ℕ) (buys sells : List Order) (kept : Kept places last buys sells) where
  pub orders_length : length (merged buys sells) ≡ length buys + length sells
  orders_length = merged_length buys sells last kept.rises ∙ length-append buys sells

  -- an order of the next number
  module _ (o : Order) (next : o.number ≡ last + 1) where
    entered_orders : merged (joined Buy o buys) (joined Sell o sells) ≡ merged buys sells ++ o ∷ []
    entered_orders = merged_enter buys sells last kept.rises (joined Buy o buys) (joined Sell o sells) o (omega arith) (joined_shuffle o buys sells)

    kept_enter : length buys + length sells < places → Kept places (last + 1) (joined Buy o buys) (joined Sell o sells)
    kept_enter room =
        record {
          fits = omega (arith, joined_length o buys sells);
          buys_ranked = joined_rank Buy o buys kept.buys_ranked;
          sells_ranked = joined_rank Sell o sells kept.sells_ranked;
          buys_sided = joined_all Buy o buys kept.buys_sided;
          sells_sided = joined_all Sell o sells kept.sells_sided;
          rises = ap (λ l. rising 0 l (last + 1)) entered_orders ∙ subst (λ n. rising 0 (merged buys sells ++ o ∷ []) n ≡ true) next (rising_push 0 (merged buys sells) last o kept.rises (omega arith));
        }

    -- and the runs that hold it then
    module _ (buys' sells' : List Order) (bought : buys' ≡ joined Buy o buys) (sold : sells' ≡ joined Sell o sells) where
      pub now_entered : merged buys' sells' ≡ merged buys sells ++ o ∷ []
      now_entered = ap (λ l. merged l sells') bought ∙ ap (λ l. merged (joined Buy o buys) l) sold ∙ entered_orders

      pub kept_entered : length buys + length sells < places → Kept places (last + 1) buys' sells'
      kept_entered room = subst (λ l. Kept places (last + 1) l sells') (sym bought) (subst (λ l. Kept places (last + 1) (joined Buy o buys) l) (sym sold) (kept_enter room))

  module _ (buys' sells' : List Order) (n q : ℕ) (r : Result (Unit {0}) BookRefusal) (both : CutBoth buys sells buys' sells' n q r) where
    cut_orders : (r₀ : Result (Unit {0}) BookRefusal) → buys' ++ sells' ≡ cond (is_ok r₀) (cut_in (buys ++ sells) n q) (buys ++ sells) → merged buys' sells' ≡ cond (is_ok r₀) (cut_in (merged buys sells) n q) (merged buys sells)
    cut_orders (Ok u) e = merged_cut buys sells last kept.rises buys' sells' n q e
    cut_orders (Err why) e = ap (sorted earlier) e

    cut_rises : (r₀ : Result (Unit {0}) BookRefusal) → rising 0 (cond (is_ok r₀) (cut_in (merged buys sells) n q) (merged buys sells)) last ≡ true
    cut_rises (Ok u) = rising_cut 0 (merged buys sells) last n q kept.rises
    cut_rises (Err why) = kept.rises

    pub kept_cut : Kept places last buys' sells'
    kept_cut =
        let fewer_buys : length buys' ≤ length buys = either_run (λ l. length l ≤ length buys) buys buys' n q both.first (omega arith) (length_cut n q buys) in
        let fewer_sells : length sells' ≤ length sells = either_run (λ l. length l ≤ length sells) sells sells' n q both.second (omega arith) (length_cut n q sells) in
        record {
          fits = omega (arith, kept.fits);
          buys_ranked = either_run (λ l. in_rank (before Buy) l ≡ true) buys buys' n q both.first kept.buys_ranked (rank_cut (before Buy) (λ o z k. refl) (λ o z k. refl) n q buys kept.buys_ranked);
          sells_ranked = either_run (λ l. in_rank (before Sell) l ≡ true) sells sells' n q both.second kept.sells_ranked (rank_cut (before Sell) (λ o z k. refl) (λ o z k. refl) n q sells kept.sells_ranked);
          buys_sided = either_run (λ l. all_of Buy l ≡ true) buys buys' n q both.first kept.buys_sided (all_cut Buy n q buys kept.buys_sided);
          sells_sided = either_run (λ l. all_of Sell l ≡ true) sells sells' n q both.second kept.sells_sided (all_cut Sell n q sells kept.sells_sided);
          rises = ap (λ l. rising 0 l last) (cut_orders r both.whole) ∙ cut_rises r;
        }

    pub cut_went : let m : Book = record { places = places; last = last; orders = merged buys sells } in let m' : Book = record { places = places; last = last; orders = merged buys' sells' } in Went r (cut_answer m n q) m' (cut_after m n q)
    unfolding cut_answer cut_after
    cut_went =
        let m : Book = record { places = places; last = last; orders = merged buys sells } in
        let answer : r ≡ cut_judged (find_in (merged buys sells) n) q = both.answer ∙ ap (λ x. cut_judged x q) (sym (merged_find buys sells last kept.rises n)) in
        record {
          answer = answer;
          after = ap (λ l. record { places = places; last = last; orders = l }) (cut_orders r both.whole) ∙ by r ∙ ap (λ x. unless_refused x (cut m n q) m) answer;
        } where
          by : (r₀ : Result (Unit {0}) BookRefusal) → let m : Book = record { places = places; last = last; orders = merged buys sells } in ◌≡◌ {A = Book} (record { places = places; last = last; orders = cond (is_ok r₀) (cut_in (merged buys sells) n q) (merged buys sells) }) (unless_refused r₀ (cut m n q) m)
          by (Ok u) = refl
          by (Err why) = refl
