-- The rounded mean is the nearest multiple. Assumes nothing.
use Rattle.std.proofs.Common.{◌≡◌, ℕ, ◌+◌, ◌*◌, ◌^◌, ◌<◌, ◌≤◌, Bool, true, false, cond, ltb, IfSome, Some, None, refl, ⊎_elim, div-mul-le_self, arith}
use native.Mathlib.Nat.{lt-div-mul-add}
use Rattle.std.proofs.lemmas.Bool.{ne_eqb, eq-eqb, cases_eq}
use Rattle.session.specs.Rounding.{Nearest, units, nearest, rounded_answer}

near : (n unit sum weight : ℕ) → n * (2 * (unit * weight)) ≤ 2 * sum + unit * weight → 2 * sum + unit * weight < n * (2 * (unit * weight)) + 2 * (unit * weight) → Nearest unit sum weight (n * unit)
near n unit sum weight low high = record { multiples = n; multiple = refl; below = omega arith; above = omega arith }

pub nearness : (unit sum weight : ℕ) → (unit * weight ≡ 0 → ⊥) → Nearest unit sum weight (nearest unit sum weight)
nearness unit sum weight some =
    let all = 2 * sum + unit * weight in
    near (units unit sum weight) unit sum weight (div-mul-le_self all (2 * (unit * weight))) (lt-div-mul-add {a = all} {b = 2 * (unit * weight)} (omega (arith, some)))

if_fits : (t : Bool) (price : ℕ) (P : ℕ → Type 0) → P price → IfSome (cond t (Some price) None) P
if_fits true price P is = is
if_fits false price P is = tt

-- what is answered is the nearest multiple
pub answer_near : (unit sum weight : ℕ) → IfSome (rounded_answer unit sum weight) (λ price. Nearest unit sum weight price)
answer_near unit sum weight =
    ⊎_elim
    (λ none. rw (eq-eqb (unit * weight) 0 none) tt)
    (λ some. rw (ne_eqb (unit * weight) 0 some) (if_fits (ltb (nearest unit sum weight) (2 ^ 64)) (nearest unit sum weight) (λ price. Nearest unit sum weight price) (nearness unit sum weight some)))
    (cases_eq (unit * weight) 0)
