-- What a judged price answers, by its range and the tick. Assumes nothing.
use Rattle.std.proofs.Common.{◌≡◌, ℕ, ◌*◌, ◌/◌, ◌%◌, ◌≤◌, Bool, true, false, leb, cond, IfSome, Some, None, Ok, Err, Option, Result, sym, refl, ap, ◌∙◌, subst, ⊎_elim, div-add-mod', arith}
use native.Mathlib.Nat.{mul-mod_left}
use Rattle.std.proofs.lemmas.Bool.{and_parts, and_from, leb-true, le-leb, lt-leb, eq-eqb, ne_eqb, cases_lt, cases_eq}
use Rattle.session.specs.declared.judgements.PriceRefusal.{PriceRefusal}
use Rattle.session.specs.declared.judgements.PriceRefusal.TheVariants.{PriceRange, OffTick}
use Rattle.session.specs.Ranges.{Within, within, InPrice}
use Rattle.session.specs.Judgements.{price_judged, Judged, OnTick, passed, given_judged, onward, passed_as}

range_judged : (tick price : ℕ) → (InPrice price → ⊥) → price_judged tick price ≡ Err PriceRange
unfolding price_judged
range_judged tick price out =
    ⊎_elim (λ low. rw (lt-leb 1 price low) refl)
    (λ some. ⊎_elim (λ high. rw (le-leb 1 price some, lt-leb price 10000000 high) refl) (λ in_range. absurd (out (some, in_range))) (cases_lt 10000000 price))
    (cases_lt price 1)

module _ (tick price : ℕ) (low : 1 ≤ price) (high : price ≤ 10000000) where
  off_judged : (price % tick ≡ 0 → ⊥) → price_judged tick price ≡ Err OffTick
  unfolding price_judged
  off_judged off = rw (le-leb 1 price low, le-leb price 10000000 high, ne_eqb (price % tick) 0 off) refl

  ticks_judged : price % tick ≡ 0 → price_judged tick price ≡ Ok (price / tick)
  unfolding price_judged
  ticks_judged on = rw (le-leb 1 price low, le-leb price 10000000 high, eq-eqb (price % tick) 0 on) refl

no_multiple : (tick price multiples : ℕ) → (price % tick ≡ 0 → ⊥) → price ≡ multiples * tick → ⊥
no_multiple tick price multiples off is = off (ap (λ p. p % tick) is ∙ mul-mod_left multiples tick)

whole_ticks : (tick price : ℕ) → price % tick ≡ 0 → price ≡ price / tick * tick
whole_ticks tick price on = omega (arith, div-add-mod' price tick)

-- Every price is judged in one of three ways.
module _ (tick price : ℕ) where
  at : (r : Result ℕ PriceRefusal) → price_judged tick price ≡ r → Judged tick price r → Judged tick price (price_judged tick price)
  at r is fact = subst (λ v. Judged tick price v) (sym is) fact

  in_range : InPrice price → Judged tick price (price_judged tick price)
  in_range legal =
      ⊎_elim (λ on. at (Ok (price / tick)) (ticks_judged tick price legal.0 legal.1 on) (legal, whole_ticks tick price on))
      (λ off. at (Err OffTick) (off_judged tick price legal.0 legal.1 off) (legal, λ multiples is. no_multiple tick price multiples off is))
      (cases_eq (price % tick) 0)

  out_of_range : (InPrice price → ⊥) → Judged tick price (price_judged tick price)
  out_of_range out = at (Err PriceRange) (range_judged tick price out) out

  pub judging : Judged tick price (price_judged tick price)
  judging =
      ⊎_elim (λ low. out_of_range (λ legal. omega (arith, low, legal.0)))
      (λ some. ⊎_elim (λ high. out_of_range (λ legal. omega (arith, high, legal.1))) (λ few. in_range (some, few)) (cases_lt 10000000 price))
      (cases_lt price 1)

-- a test of a range, and the range
module _ (most n : ℕ) where
  pub within_so : within most n ≡ true → Within most n
  within_so t = let both = and_parts (leb 1 n) (leb n most) t in (leb-true 1 n both.0, leb-true n most both.1)

  pub so_within : Within most n → within most n ≡ true
  so_within range = and_from (leb 1 n) (leb n most) (le-leb 1 n range.0) (le-leb n most range.1)

-- A judgement that passes passes in each of its parts.
module _ {E : Type 0} where
  pub both_passed : {Y : Type 0} (a : Result (Unit {0}) E) (b : Result Y E) (y : Y) → onward a b ≡ Ok y → (a ≡ Ok tt) × (b ≡ Ok y)
  both_passed (Ok x) b y is = (refl, is)
  both_passed (Err why) b y is = absurd cc

  pub passed_both : {Y : Type 0} (a : Result (Unit {0}) E) (b : Result Y E) (y : Y) → a ≡ Ok tt → b ≡ Ok y → onward a b ≡ Ok y
  passed_both a b y first second = ap (λ v. onward v b) first ∙ second

  pub test_passed : {Y : Type 0} (t : Bool) (x y : Y) (why : E) → ◌≡◌ {A = Result Y E} (cond {A = Result Y E} t (Ok x) (Err why)) (Ok y) → (t ≡ true) × (◌≡◌ {A = Result Y E} (Ok x) (Ok y))
  test_passed true x y why is = (refl, is)
  test_passed false x y why is = absurd cc

  -- a price that passes is in range and on the tick
  on_tick : (called : PriceRefusal → E) (tick price : ℕ) (r : Result ℕ PriceRefusal) → Judged tick price r → passed_as called r ≡ Ok tt → OnTick tick price
  on_tick called tick price (Ok ticks) told is = record { legal = told.0; ticks = ticks; exact = told.1 }
  on_tick called tick price (Err why) told is = absurd cc

  module _ (called : PriceRefusal → E) (tick price : ℕ) where
    pub price_on_tick : passed_as called (price_judged tick price) ≡ Ok tt → OnTick tick price
    price_on_tick is = on_tick called tick price (price_judged tick price) (judging tick price) is

    once : (r : Result ℕ PriceRefusal) → passed_as called (passed r) ≡ passed_as called r
    once (Ok ticks) = refl
    once (Err why) = refl

    pub given_on_tick : (o : Option ℕ) → passed_as called (given_judged tick o) ≡ Ok tt → o ≡ Some price → OnTick tick price
    given_on_tick o is there = price_on_tick (sym (once (price_judged tick price)) ∙ sym (ap (λ x. passed_as called (given_judged tick x)) there) ∙ is)

    pub on_tick_passes : OnTick tick price → passed_as called (price_judged tick price) ≡ Ok tt
    on_tick_passes on = ap (passed_as called) (ticks_judged tick price on.legal.0 on.legal.1 (ap (λ p. p % tick) on.exact ∙ mul-mod_left on.ticks tick))

  -- the same of a price that may be absent
  module _ (called : PriceRefusal → E) (tick : ℕ) where
    pub given_found : (o : Option ℕ) → passed_as called (given_judged tick o) ≡ Ok tt → IfSome o (OnTick tick)
    given_found None is = tt
    given_found (Some price) is = given_on_tick called tick price (Some price) is refl

    pub found_given : (o : Option ℕ) → IfSome o (OnTick tick) → passed_as called (given_judged tick o) ≡ Ok tt
    found_given None on = refl
    found_given (Some price) on = once called tick price (price_judged tick price) ∙ on_tick_passes called tick price on
