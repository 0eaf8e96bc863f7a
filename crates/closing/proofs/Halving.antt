-- The price in the middle of a survey in rank halves it. Assumes nothing.
use Rattle.std.proofs.Common.{◌≡◌, ℕ, zero, suc, ◌+◌, ◌*◌, ◌<◌, ◌≤◌, Bool, true, cond, not, ◌&&◌, eqb, ltb, leb, List, [], ◌∷◌, length, All, count_by, sym, ap, ◌∙◌, ⊎_elim, arith}
use Rattle.std.proofs.lemmas.List.Sums.{sum_by-cons}
use Rattle.std.proofs.lemmas.List.Elements.{All-nil, All-cons, All-head, All-tail, All-get_or, All-map, All-weaker}
use Rattle.std.proofs.lemmas.List.{length-map}
use Rattle.std.proofs.lemmas.Bool.{and_parts, or_parts, not-true, ltb-false, leb-true, le-leb, cases_Bool}
use Rattle.ranking.specs.declared.surveys.SurveyPrice.{SurveyPrice}
use Rattle.ranking.specs.Runs.{in_rank, none_before}
use Rattle.ranking.specs.Surveys.{survey_before}
use Rattle.ranking.proofs.Placing.{ranked_cons, none_cons}
use Rattle.closing.specs.Criteria.{price_at}
use Rattle.closing.specs.Grounds.{Halves}

-- counting
module _ {X : Type 0} where
  count_yes : (p : X → Bool) (x : X) (xs : List X) → p x ≡ true → count_by p (x ∷ xs) ≡ 1 + count_by p xs
  count_yes p x xs t = sum_by-cons (λ y. cond (p y) 1 0) x xs ∙ ap (λ b. cond b 1 0 + count_by p xs) t

  count_rest : (p : X → Bool) (x : X) (xs : List X) → count_by p xs ≤ count_by p (x ∷ xs)
  count_rest p x xs = omega (arith, sum_by-cons (λ y. cond (p y) 1 0) x xs)

  count_all : (p : X → Bool) (xs : List X) → All (λ x. p x ≡ true) xs → length xs ≤ count_by p xs
  count_all p [] all = omega arith
  count_all p (x ∷ xs) all =
      let P = λ (y : X). p y ≡ true in
      omega (arith, count_yes p x xs (All-head P x xs all), count_all p xs (All-tail P x xs all))

  pub count_weaker : (p q : X → Bool) → ((x : X) → p x ≡ true → q x ≡ true) → (xs : List X) → count_by p xs ≤ count_by q xs
  count_weaker p q h [] = omega arith
  count_weaker p q h (x ∷ xs) =
      ⊎_elim (λ t. omega (arith, count_yes p x xs t, count_yes q x xs (h x t), count_weaker p q h xs))
      (λ f. omega (arith, sum_by-cons (λ y. cond (p y) 1 0) x xs ∙ ap (λ b. cond b 1 0 + count_by p xs) f, count_rest q x xs, count_weaker p q h xs))
      (cases_Bool (p x))

-- a survey in rank: what comes later is not lower
not_lower : (item : SurveyPrice) (survey : List SurveyPrice) → none_before survey_before item survey ≡ true → All (λ later. item.price ≤ later.price) survey
not_lower item [] none = All-nil (λ later. item.price ≤ later.price)
not_lower item (later ∷ survey) none =
    let both = and_parts (not (survey_before later item)) (none_before survey_before item survey) (sym (none_cons survey_before item later survey) ∙ none) in
    let lower = or_parts (ltb later.price item.price) (eqb later.price item.price && ltb later.contributor item.contributor) (not-true (survey_before later item) both.0) in
    All-cons (λ later. item.price ≤ later.price) later survey (ltb-false later.price item.price lower.0) (not_lower item survey both.1)

rises : (item : SurveyPrice) (survey : List SurveyPrice) → in_rank survey_before (item ∷ survey) ≡ true → All (λ later. item.price ≤ later.price) survey × (in_rank survey_before survey ≡ true)
rises item survey ranked =
    let both = and_parts (none_before survey_before item survey) (in_rank survey_before survey) (sym (ranked_cons survey_before item survey) ∙ ranked) in
    (not_lower item survey both.0, both.1)

at_later : (least : ℕ) (survey : List SurveyPrice) (k : ℕ) → k < length survey → All (λ later. least ≤ later.price) survey → least ≤ price_at survey k
at_later least survey k inside all = All-get_or (λ price. least ≤ price) _ k 0 (omega (arith, length-map survey (λ (item : SurveyPrice). item.price))) (All-map (λ price. least ≤ price) (λ (item : SurveyPrice). item.price) survey all)

-- a later place has no lower price
pub ascends : (survey : List SurveyPrice) (k : ℕ) → in_rank survey_before survey ≡ true → suc k < length survey → price_at survey k ≤ price_at survey (suc k)
ascends [] k ranked inside = absurd (omega arith)
ascends (item ∷ survey) zero ranked inside = at_later item.price survey 0 (omega arith) (rises item survey ranked).0
ascends (item ∷ survey) (suc k) ranked inside = ascends survey k (rises item survey ranked).1 (omega arith)

-- as many prices as stand up to a place are at most the one there, and those from there on are at least that one
pub many_at_most : (survey : List SurveyPrice) (k : ℕ) → in_rank survey_before survey ≡ true → k < length survey → k + 1 ≤ count_by (λ item. leb item.price (price_at survey k)) survey
many_at_most [] k ranked inside = absurd (omega arith)
many_at_most (item ∷ survey) zero ranked inside = omega (arith, count_yes (λ x. leb x.price item.price) item survey (le-leb item.price item.price (omega arith)))
many_at_most (item ∷ survey) (suc k) ranked inside =
    let up = rises item survey ranked in
    let below : item.price ≤ price_at survey k = at_later item.price survey k (omega arith) up.0 in
    omega (arith, count_yes (λ x. leb x.price (price_at survey k)) item survey (le-leb item.price (price_at survey k) below), many_at_most survey k up.1 (omega arith))

pub many_at_least : (survey : List SurveyPrice) (k : ℕ) → in_rank survey_before survey ≡ true → k < length survey → length survey ≤ k + count_by (λ item. leb (price_at survey k) item.price) survey
many_at_least [] k ranked inside = absurd (omega arith)
many_at_least (item ∷ survey) zero ranked inside =
    let none_lower = All-weaker (λ later. item.price ≤ later.price) (λ later. leb item.price later.price ≡ true) (λ later h. le-leb item.price later.price h) survey (rises item survey ranked).0 in
    omega (arith, count_all (λ x. leb item.price x.price) (item ∷ survey) (All-cons (λ x. leb item.price x.price ≡ true) item survey (le-leb item.price item.price (omega arith)) none_lower))
many_at_least (item ∷ survey) (suc k) ranked inside =
    let up = rises item survey ranked in
    omega (arith, count_rest (λ x. leb (price_at survey k) x.price) item survey, many_at_least survey k up.1 (omega arith))

pub halves_at : (survey : List SurveyPrice) (k : ℕ) → in_rank survey_before survey ≡ true → k < length survey → length survey ≤ 2 * (k + 1) → 2 * k ≤ length survey → Halves survey (price_at survey k)
halves_at survey k ranked inside low high = record { at_most = omega (arith, many_at_most survey k ranked inside); at_least = omega (arith, many_at_least survey k ranked inside) }

-- so does every price between two that halve it
pub halves_between : (survey : List SurveyPrice) (lower upper price : ℕ) → Halves survey lower → Halves survey upper → lower ≤ price → price ≤ upper → Halves survey price
halves_between survey lower upper price of_lower of_upper low high =
    record {
      at_most = omega (arith, of_lower.at_most, count_weaker (λ item. leb item.price lower) (λ item. leb item.price price) (λ item t. le-leb item.price price (omega (arith, low, leb-true item.price lower t))) survey);
      at_least = omega (arith, of_upper.at_least, count_weaker (λ item. leb upper item.price) (λ item. leb price item.price) (λ item t. le-leb price item.price (omega (arith, high, leb-true upper item.price t))) survey);
    }
