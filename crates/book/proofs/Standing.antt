-- Where an order stands in a run, and what is found and cut there. Assumes nothing.
use Rattle.std.proofs.Common.{◌≡◌, ℕ, suc, ◌+◌, ◌<◌, ◌≤◌, Bool, cond, not, subst, eqb, ltb, List, [], ◌∷◌, ◌++◌, map, length, get_or, take, drop, set, Some, None, Option, Result, sym, refl, ap, ◌∙◌, ⊎_elim, add-one, arith}
use lib.ListN.{length-map}
use Rattle.std.specs.List.{position_or_len}
use Rattle.std.specs.Option.{MatchOption}
use Rattle.std.proofs.lemmas.List.Sums.{passes_at_first}
use Rattle.std.proofs.lemmas.List.{take_all, drop_more, take-append-drop, get_or_default, get_or-map, get_or_at, length-take-le, map-set, map-append, take-map, drop-map, set_split}
use Rattle.std.proofs.lemmas.Bool.{cond-true, cond-false, eq-eqb, ne_eqb, cases_eq, cases_Bool, ltb-true, ltb-false, eqb-true}
use Rattle.std.specs.List.{remove}
use Rattle.std.specs.Option.{option_map}
use Rattle.book.specs.declared.refusals.BookRefusal.{BookRefusal}
use Rattle.book.specs.Meaning.{Order, find_in, cut_in, cut_judged, left_of}
use Rattle.book.specs.Runs.{Stands, run_cut}
use Rattle.book.proofs.Turns.{cut_here, cut_later}

pub none_found : (n : ℕ) → find_in [] n ≡ None
unfolding find_in
none_found n = refl

pub find_here : (o : Order) (os : List Order) (n : ℕ) → o.number ≡ n → find_in (o ∷ os) n ≡ Some o
unfolding find_in
find_here o os n e = cond-true (eqb o.number n) _ _ (eq-eqb o.number n e)

pub find_later : (o : Order) (os : List Order) (n : ℕ) → (o.number ≡ n → ⊥) → find_in (o ∷ os) n ≡ find_in os n
unfolding find_in
find_later o os n ne = cond-false (eqb o.number n) _ _ (ne_eqb o.number n ne)

-- past orders that do not have the number
pub find_past : (xs ys : List Order) (n : ℕ) → find_in xs n ≡ None → find_in (xs ++ ys) n ≡ find_in ys n
unfolding find_in
find_past [] ys n h = refl
find_past (x ∷ xs) ys n h =
    ⊎_elim (λ e. let here = find_here x xs n e in absurd (grind arith))
    (λ ne. find_later x (xs ++ ys) n ne ∙ find_past xs ys n (sym (find_later x xs n ne) ∙ h))
    (cases_eq x.number n)

pub cut_past : (xs ys : List Order) (n q : ℕ) → find_in xs n ≡ None → cut_in (xs ++ ys) n q ≡ xs ++ cut_in ys n q
cut_past [] ys n q h = refl
cut_past (x ∷ xs) ys n q h =
    ⊎_elim (λ e. let here = find_here x xs n e in absurd (grind arith))
    (λ ne. cut_later x (xs ++ ys) n q ne ∙ ap (λ l. x ∷ l) (cut_past xs ys n q (sym (find_later x xs n ne) ∙ h)))
    (cases_eq x.number n)

-- A search that has passed i items.
module _ {H : Type 0} (order : H → Order) (run : List H) (n i : ℕ) (item : H) (inside : i < length run) (is : item ≡ get_or run i item) (passed : find_in (take i (map order run)) n ≡ None) where
  within : i < length (map order run)
  within = simp length-map inside

  here : get_or (map order run) i (order item) ≡ order item
  here = get_or-map order run i item (order item) inside ∙ ap order (sym is)

  stands : (order item).number ≡ n → Stands (map order run) n i
  stands e =
      record {
        order = order item;
        split = sym (take-append-drop i (map order run)) ∙ ap (λ l. take i (map order run) ++ l) (drop_more (map order run) i (order item) within ∙ ap (λ o. o ∷ drop (i + 1) (map order run)) here);
        number = e;
        first = passed;
      }

-- What a search by number answers.
module _ {H : Type 0} (order : H → Order) (n : ℕ) where
  abbrev pub has : H → Bool
  has h = eqb (order h).number n

  before_first : (run : List H) → find_in (take (position_or_len has run) (map order run)) n ≡ None
  before_first [] = none_found n
  before_first (x ∷ xs) =
      let i = position_or_len has xs in
      ⊎_elim
      (λ e.
      let first : position_or_len has (x ∷ xs) ≡ 0 = ap (λ b. cond (not b) (1 + i) 0) (eq-eqb (order x).number n e) in
      ap (λ k. find_in (take k (map order (x ∷ xs))) n) first ∙ none_found n)
      (λ ne.
      let later : position_or_len has (x ∷ xs) ≡ suc i = ap (λ b. cond (not b) (1 + i) 0) (ne_eqb (order x).number n ne) ∙ omega arith in
      ap (λ k. find_in (take k (map order (x ∷ xs))) n) later ∙ find_later (order x) (take i (map order xs)) n ne ∙ before_first xs)
      (cases_eq (order x).number n)

  -- the first item with the number, if there is one
  pub searched : (run : List H) (r : Option ℕ) → r ≡ cond (ltb (position_or_len has run) (length run)) (Some (position_or_len has run)) None
      → MatchOption r (find_in (map order run) n ≡ None) (λ i. (i < length run) × Stands (map order run) n i)
  searched [] r e = subst (λ (o : Option ℕ). MatchOption o (find_in [] n ≡ None) (λ i. (i < 0) × Stands [] n i)) (sym e) (none_found n)
  searched (x ∷ xs) r e =
      let run = x ∷ xs in
      let i = position_or_len has run in
      let says : Option ℕ → Type 0 = λ o. MatchOption o (find_in (map order run) n ≡ None) (λ k. (k < length run) × Stands (map order run) n k) in
      ⊎_elim
      (λ t.
      let inside : i < length run = ltb-true i (length run) t in
      let item = get_or run i x in
      let same = eqb-true (order item).number n (passes_at_first has run x inside) in
      subst says (sym (e ∙ cond-true (ltb i (length run)) _ _ t)) (inside, stands order run n i item inside (get_or_default run i x item inside) (before_first run) same))
      (λ f.
      let past : length run ≤ i = omega (arith, ltb-false i (length run) f) in
      subst says (sym (e ∙ cond-false (ltb i (length run)) _ _ f)) (sym (ap (λ l. find_in l n) (take_all i (map order run) (simp length-map past))) ∙ before_first run))
      (cases_Bool (ltb i (length run)))

-- what stands there is found, and cut there
module _ {os : List Order} {n i : ℕ} (s : Stands os n i) where
  pub stands_found : find_in os n ≡ Some s.order
  stands_found = ap (λ l. find_in l n) s.split ∙ find_past (take i os) (s.order ∷ drop (i + 1) os) n s.first ∙ find_here s.order (drop (i + 1) os) n s.number

  pub stands_cut : (q : ℕ) → cut_in os n q ≡ take i os ++ (left_of s.order q ++ drop (i + 1) os)
  stands_cut q = ap (λ l. cut_in l n q) s.split ∙ cut_past (take i os) (s.order ∷ drop (i + 1) os) n q s.first ∙ ap (λ l. take i os ++ l) (cut_here s.order (drop (i + 1) os) n q s.number)

  pub stands_at : i < length os → (d : Order) → get_or os i d ≡ s.order
  stands_at inside d = ap (λ l. get_or l i d) s.split ∙ get_or_at (take i os) s.order (drop (i + 1) os) d i (length-take-le i os (omega arith))

-- the code's item at the place, and what is answered and left of a cut of it
module _ {H : Type 0} (order : H → Order) (run : List H) (n q i : ℕ) (item : H) (inside : i < length run) (is : item ≡ get_or run i item) (s : Stands (map order run) n i) where
  holds : s.order ≡ order item
  holds = sym (stands_at s (simp length-map inside) (order item)) ∙ get_or-map order run i item (order item) inside ∙ ap order (sym is)

  finds : find_in (map order run) n ≡ Some (order item)
  finds = stands_found s ∙ ap Some holds

  pub cut_told : (r : Result (Unit {0}) BookRefusal) → cut_judged (Some (order item)) q ≡ r → Some r ≡ run_cut (map order run) n q
  cut_told r e = sym (ap (option_map (λ o. cut_judged (Some o) q)) finds ∙ ap Some e)

  pub cut_found : (r : Result (Unit {0}) BookRefusal) → cut_judged (Some (order item)) q ≡ r → r ≡ cut_judged (find_in (map order run) n) q
  cut_found r e = sym (ap (λ o. cut_judged o q) finds ∙ e)

  parts : cut_in (map order run) n q ≡ take i (map order run) ++ (left_of (order item) q ++ drop (i + 1) (map order run))
  parts = stands_cut s q ∙ ap (λ o. take i (map order run) ++ (left_of o q ++ drop (i + 1) (map order run))) holds

  pub cut_less : (item' : H) → order item' ∷ [] ≡ left_of (order item) q → map order (set run i item') ≡ cut_in (map order run) n q
  cut_less item' kept =
      map-set order run i item' ∙ set_split (map order run) i (order item') (simp length-map inside) ∙ ap (λ k. take i (map order run) ++ order item' ∷ drop k (map order run)) (sym (add-one i)) ∙ sym (parts ∙ ap (λ l. take i (map order run) ++ (l ++ drop (i + 1) (map order run))) (sym kept))

  pub cut_whole : [] ≡ left_of (order item) q → map order (remove run i) ≡ cut_in (map order run) n q
  cut_whole gone =
      map-append order (take i run) (drop (suc i) run) ∙ ap (λ l. l ++ map order (drop (suc i) run)) (sym (take-map order i run)) ∙ ap (λ l. take i (map order run) ++ l) (sym (drop-map order (suc i) run)) ∙ ap (λ k. take i (map order run) ++ drop k (map order run)) (sym (add-one i)) ∙ sym (parts ∙ ap (λ l. take i (map order run) ++ (l ++ drop (i + 1) (map order run))) (sym gone))

-- the order that an answer judges
pub judged : (found : Option Order) (q : ℕ) (r : Result (Unit {0}) BookRefusal) → Some r ≡ option_map (λ o. cut_judged (Some o) q) found → (o : Order) × ((found ≡ Some o) × (r ≡ cut_judged found q))
judged None q r e = absurd (grind arith)
judged (Some o) q r e = (o, (refl, grind arith))

pub unjudged : (found : Option Order) (q : ℕ) → None ≡ option_map (λ o. cut_judged (Some o) q) found → found ≡ None
unjudged None q e = refl
unjudged (Some o) q e = absurd (grind arith)
