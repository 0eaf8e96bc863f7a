-- How the rows of a table move as an order enters, is cut or leaves. Assumes nothing.
use Rattle.std.proofs.Common.{◌≡◌, ℕ, suc, ◌+◌, ◌<◌, ◌≤◌, Bool, true, false, cond, eqb, List, [], ◌∷◌, ◌++◌, map, length, get_or, take, drop, set, sym, refl, ap, ◌∙◌, subst, ⊎_elim, append-nil, add-one, arith}
use lib.ListN.{length-map}
use Rattle.std.proofs.lemmas.List.{map-append, map-set, take-map, drop-map, take-append-drop, drop_more, get_or-map, set-get_or, set_split}
use Rattle.std.proofs.lemmas.Bool.{cases_Bool, cond-true, cond-false, and_right}
use Rattle.std.specs.List.{remove}
use Rattle.book.specs.declared.orders.Live.{Live}
use Rattle.book.specs.Meaning.{Order, order_of, is_side, left_of}
use Rattle.book.specs.Ranks.{before}
use Rattle.book.proofs.Turns.{irreflexive, lessened}
use Rattle.table.specs.declared.row.Row.{Row}
use Rattle.book.specs.Ranks.{ahead, counted}
use Rattle.table.specs.Aheads.{aheads_of, raised, lowered, shifted}
use Rattle.table.specs.Tables.{orders_of, aheads_in}
use Rattle.book.proofs.Places.{counted_nil, counted_cons}

module _ (f : ℕ → ℕ) (o : Order) where
  pub moves : (x : Row) → ahead o (order_of x.live) ≡ true → (n : ℕ) → n ≡ f x.ahead → ◌≡◌ {A = Row} (record { live = x.live; ahead = n }) (shifted f o x)
  moves x t n e = ap (λ k. record { live = x.live; ahead = k }) (e ∙ sym (cond-true (ahead o (order_of x.live)) (f x.ahead) x.ahead t))

  pub stays : (x : Row) → ahead o (order_of x.live) ≡ false → x ≡ shifted f o x
  stays x t = ap (λ k. record { live = x.live; ahead = k }) (sym (cond-false (ahead o (order_of x.live)) (f x.ahead) x.ahead t))

  shifted_orders : (rows : List Row) → orders_of (map (shifted f o) rows) ≡ orders_of rows
  shifted_orders [] = refl
  shifted_orders (x ∷ rows) = ap (λ l. order_of x.live ∷ l) (shifted_orders rows)

  -- rows that hold c of each order hold it moved for those that o goes before
  module _ (c d : Order → ℕ) (each : (x : Order) → cond (ahead o x) (f (c x)) (c x) ≡ d x) where
    shifted_aheads : (rows : List Row) → aheads_in rows ≡ map c (orders_of rows) → aheads_in (map (shifted f o) rows) ≡ map d (orders_of rows)
    shifted_aheads [] e = refl
    shifted_aheads (x ∷ rows) e =
        let first : x.ahead ≡ c (order_of x.live) = grind arith in
        let rest : aheads_in rows ≡ map c (orders_of rows) = grind arith in
        ap (λ h. cond (ahead o (order_of x.live)) (f h) h ∷ aheads_in (map (shifted f o) rows)) first ∙ ap (λ h. h ∷ aheads_in (map (shifted f o) rows)) (each (order_of x.live)) ∙ ap (λ l. d (order_of x.live) ∷ l) (shifted_aheads rows rest)

map_same : {X Y : Type 0} (f g : X → Y) → ((x : X) → f x ≡ g x) → (xs : List X) → map f xs ≡ map g xs
map_same f g e [] = refl
map_same f g e (x ∷ xs) = ap (λ y. y ∷ map f xs) (e x) ∙ ap (λ l. g x ∷ l) (map_same f g e xs)

counted_few : (y : Order) (xs : List Order) → counted xs y ≤ length xs
counted_few y [] = omega (arith, counted_nil y)
counted_few y (x ∷ xs) =
    ⊎_elim (λ t. let one : ◌≡◌ {A = ℕ} (cond (ahead x y) 1 0) 1 = cond-true (ahead x y) _ _ t in omega (arith, one, counted_cons x xs y, counted_few y xs))
    (λ f. let zero : ◌≡◌ {A = ℕ} (cond (ahead x y) 1 0) 0 = cond-false (ahead x y) _ _ f in omega (arith, zero, counted_cons x xs y, counted_few y xs))
    (cases_Bool (ahead x y))

-- an order counts wherever it stands
counted_with : (y o : Order) (xs ys : List Order) → counted (xs ++ o ∷ ys) y ≡ counted (xs ++ ys) y + cond (ahead o y) 1 0
counted_with y o [] ys = omega (arith, counted_cons o ys y)
counted_with y o (x ∷ xs) ys = omega (arith, counted_cons x (xs ++ o ∷ ys) y, counted_cons x (xs ++ ys) y, counted_with y o xs ys)

self_behind : (o : Order) → ahead o o ≡ false
self_behind o = and_right (is_side o.side o.side) (before o.side o o) (irreflexive o.side o)

-- A row enters behind the others.
module _ (live : Live) (rows : List Row) (counts : aheads_in rows ≡ aheads_of (orders_of rows)) (few : length (orders_of rows) ≤ 256) (moved rows' : List Row) where
  abbrev o : Order
  o = order_of live

  abbrev os : List Order
  os = orders_of rows

  with_last : (x : Order) → counted (os ++ o ∷ []) x ≡ counted os x + cond (ahead o x) 1 0
  with_last x = counted_with x o os [] ∙ ap (λ l. counted l x + cond (ahead o x) 1 0) (append-nil os)

  more_ahead : (x : Order) → cond (ahead o x) (raised (counted os x)) (counted os x) ≡ counted (os ++ o ∷ []) x
  more_ahead x =
      ⊎_elim
      (λ t. let one : ◌≡◌ {A = ℕ} (cond (ahead o x) 1 0) 1 = cond-true (ahead o x) _ _ t in cond-true (ahead o x) _ _ t ∙ omega (arith, one, with_last x, counted_few x os))
      (λ f. let zero : ◌≡◌ {A = ℕ} (cond (ahead o x) 1 0) 0 = cond-false (ahead o x) _ _ f in cond-false (ahead o x) _ _ f ∙ omega (arith, zero, with_last x))
      (cases_Bool (ahead o x))

  own_count : counted os o ≡ counted (os ++ o ∷ []) o
  own_count = let zero : ◌≡◌ {A = ℕ} (cond (ahead o o) 1 0) 0 = cond-false (ahead o o) _ _ (self_behind o) in omega (arith, zero, with_last o)

  module _ (n : ℕ) (is : n ≡ counted os o) (shifts : moved ≡ map (shifted raised o) rows) (pushed : rows' ≡ moved ++ record { live = live; ahead = n } ∷ []) where
    entered : rows' ≡ map (shifted raised o) rows ++ record { live = live; ahead = n } ∷ []
    entered = pushed ∙ ap (λ l. l ++ record { live = live; ahead = n } ∷ []) shifts

    pub entered_orders : orders_of rows' ≡ os ++ o ∷ []
    entered_orders = ap orders_of entered ∙ map-append (λ (x : Row). order_of x.live) (map (shifted raised o) rows) _ ∙ ap (λ l. l ++ o ∷ []) (shifted_orders raised o rows)

    pub entered_counts : aheads_in rows' ≡ aheads_of (orders_of rows')
    entered_counts =
        ap aheads_in entered ∙ map-append (λ (x : Row). x.ahead) (map (shifted raised o) rows) _ ∙ ap (λ l. l ++ n ∷ []) (shifted_aheads raised o (counted os) (counted (os ++ o ∷ [])) more_ahead rows counts) ∙ ap (λ h. map (counted (os ++ o ∷ [])) os ++ h ∷ []) (is ∙ own_count) ∙ sym (map-append (counted (os ++ o ∷ [])) os (o ∷ [])) ∙ ap aheads_of (sym entered_orders)

-- An order that stands among others.
module _ (o : Order) (xs ys : List Order) where
  less_ahead : (x : Order) → cond (ahead o x) (lowered (counted (xs ++ o ∷ ys) x)) (counted (xs ++ o ∷ ys) x) ≡ counted (xs ++ ys) x
  less_ahead x =
      ⊎_elim
      (λ t. let one : ◌≡◌ {A = ℕ} (cond (ahead o x) 1 0) 1 = cond-true (ahead o x) _ _ t in cond-true (ahead o x) _ _ t ∙ omega (arith, one, counted_with x o xs ys))
      (λ f. let zero : ◌≡◌ {A = ℕ} (cond (ahead o x) 1 0) 0 = cond-false (ahead o x) _ _ f in cond-false (ahead o x) _ _ f ∙ omega (arith, zero, counted_with x o xs ys))
      (cases_Bool (ahead o x))

  module _ (q : ℕ) where
    same_count : (x : Order) → counted (xs ++ lessened o q ∷ ys) x ≡ counted (xs ++ o ∷ ys) x
    same_count x = counted_with x (lessened o q) xs ys ∙ sym (counted_with x o xs ys)

    pub lessened_aheads : aheads_of (xs ++ lessened o q ∷ ys) ≡ aheads_of (xs ++ o ∷ ys)
    lessened_aheads =
        map_same _ _ same_count (xs ++ lessened o q ∷ ys) ∙ map-append (counted (xs ++ o ∷ ys)) xs (lessened o q ∷ ys) ∙ ap (λ n. map (counted (xs ++ o ∷ ys)) xs ++ n ∷ map (counted (xs ++ o ∷ ys)) ys) (alike (xs ++ o ∷ ys)) ∙ sym (map-append (counted (xs ++ o ∷ ys)) xs (o ∷ ys)) where
          alike : (zs : List Order) → counted zs (lessened o q) ≡ counted zs o
          alike [] = counted_nil (lessened o q) ∙ sym (counted_nil o)
          alike (z ∷ zs) = counted_cons z zs (lessened o q) ∙ ap (λ n. cond (ahead z o) 1 0 + n) (alike zs) ∙ sym (counted_cons z zs o)

pub map_removed : {X Y : Type 0} (f : X → Y) (xs : List X) (i : ℕ) → map f (remove xs i) ≡ remove (map f xs) i
map_removed f xs i = map-append f (take i xs) (drop (suc i) xs) ∙ ap (λ l. l ++ map f (drop (suc i) xs)) (sym (take-map f i xs)) ∙ ap (λ l. take i (map f xs) ++ l) (sym (drop-map f (suc i) xs))

-- A row stands among the others.
module _ (rows : List Row) (counts : aheads_in rows ≡ aheads_of (orders_of rows)) (i : ℕ) (row : Row) (inside : i < length rows) (is : row ≡ get_or rows i row) (rows' : List Row) where
  abbrev here : Order
  here = order_of row.live

  abbrev all : List Order
  all = orders_of rows

  split : all ≡ take i all ++ here ∷ drop (suc i) all
  split = sym (take-append-drop i all) ∙ ap (λ l. take i all ++ l) (drop_more all i here (simp length-map inside) ∙ ap (λ o. o ∷ drop (i + 1) all) (get_or-map (λ (x : Row). order_of x.live) rows i row here inside ∙ ap (λ (x : Row). order_of x.live) (sym is))) ∙ ap (λ k. take i all ++ here ∷ drop k all) (add-one i)

  module _ (left : rows' ≡ map (shifted lowered here) (remove rows i)) where
    pub left_orders : orders_of rows' ≡ remove all i
    left_orders = ap orders_of left ∙ shifted_orders lowered here (remove rows i) ∙ map_removed (λ (x : Row). order_of x.live) rows i

    pub left_counts : aheads_in rows' ≡ aheads_of (orders_of rows')
    left_counts =
        let before : aheads_in (remove rows i) ≡ map (counted all) (orders_of (remove rows i)) = map_removed (λ (x : Row). x.ahead) rows i ∙ ap (λ l. remove l i) counts ∙ sym (map_removed (counted all) all i) ∙ ap (map (counted all)) (sym (map_removed (λ (x : Row). order_of x.live) rows i)) in
        let each : (x : Order) → cond (ahead here x) (lowered (counted all x)) (counted all x) ≡ counted (remove all i) x = λ x. subst (λ l. cond (ahead here x) (lowered (counted l x)) (counted l x) ≡ counted (remove all i) x) (sym split) (less_ahead here (take i all) (drop (suc i) all) x) in
        ap aheads_in left ∙ shifted_aheads lowered here (counted all) (counted (remove all i)) each (remove rows i) before ∙ ap (map (counted (remove all i))) (map_removed (λ (x : Row). order_of x.live) rows i) ∙ ap aheads_of (sym left_orders)

  module _ (q : ℕ) (live' : Live) (cut : order_of live' ∷ [] ≡ left_of here q) (kept : rows' ≡ set rows i (record { live = live'; ahead = row.ahead })) where
    less : order_of live' ≡ lessened here q
    less = by (eqb here.quantity q) cut where
      by : (b : Bool) → order_of live' ∷ [] ≡ cond b [] (lessened here q ∷ []) → order_of live' ≡ lessened here q
      by true e = absurd (grind arith)
      by false e = grind arith

    pub kept_orders : orders_of rows' ≡ set all i (order_of live')
    kept_orders = ap orders_of kept ∙ map-set (λ (x : Row). order_of x.live) rows i (record { live = live'; ahead = row.ahead })

    pub kept_counts : aheads_in rows' ≡ aheads_of (orders_of rows')
    kept_counts =
        let same : set (aheads_in rows) i row.ahead ≡ aheads_in rows = ap (set (aheads_in rows) i) (sym (get_or-map (λ (x : Row). x.ahead) rows i row row.ahead inside ∙ ap (λ (x : Row). x.ahead) (sym is))) ∙ set-get_or (aheads_in rows) i row.ahead in
        let now : orders_of rows' ≡ take i all ++ lessened here q ∷ drop (suc i) all = kept_orders ∙ set_split all i (order_of live') (simp length-map inside) ∙ ap (λ o. take i all ++ o ∷ drop (suc i) all) less in
        ap aheads_in kept ∙ map-set (λ (x : Row). x.ahead) rows i (record { live = live'; ahead = row.ahead }) ∙ same ∙ counts ∙ ap aheads_of split ∙ sym (lessened_aheads here (take i all) (drop (suc i) all) q) ∙ ap aheads_of (sym now)
