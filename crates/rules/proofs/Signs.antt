-- The size and the sign of the imbalance, from what is bought and sold. Assumes nothing.
use Rattle.std.proofs.Common.{◌≡◌, ℕ, zero, suc, ◌+◌, ◌-◌, ◌≤◌, pos, ◌-ℤ◌, ◌≤ℤ◌, nat_abs, arith}
use Rattle.std.proofs.lemmas.Int.{ints}
use Rattle.std.proofs.lemmas.Bool.Decides.{nat_tests}
use Rattle.rules.specs.Schedule.{Schedule, imbalance, Signed}
use Rattle.rules.specs.Crossings.{Monotone}

size_of : (b s : ℕ) → (b - s) + (s - b) ≡ nat_abs (pos b -ℤ pos s)
size_of b zero = grind (arith, nat_tests)
size_of b (suc s) = grind (arith, nat_tests)

pub signed : (k : Schedule) (m : ℕ) → Signed k m
signed k m =
    record {
      size_is = size_of (k.bought m) (k.sold m);
      positive = (λ h. omega (arith, ints), λ h. omega (arith, ints));
      negative = (λ h. omega (arith, ints), λ h. omega (arith, ints));
      zero = (λ h. omega (arith, ints), λ h. omega (arith, ints));
    }

pub never_rises : (k : Schedule) → Monotone k → (m n : ℕ) → m ≤ n → imbalance k n ≤ℤ imbalance k m
never_rises k mono m n le = omega (arith, ints, mono.falls m n le, mono.rises m n le)
