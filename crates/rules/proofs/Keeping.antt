-- Kept prices agree in volume and in size, and a price that agrees with one is kept. Assumes nothing.
use Rattle.std.proofs.Common.{◌≡◌, ℕ, arith}
use Rattle.rules.specs.Schedule.{Schedule, Admissible, volume, size}
use Rattle.rules.specs.Prices.{Fullest, Kept}

pub kept_same : (k : Schedule) (m n : ℕ) → Kept k m → Kept k n → (volume k m ≡ volume k n) × (size k m ≡ size k n)
kept_same k m n a b = (
  omega (arith, a.full.most n b.full.admissible, b.full.most m a.full.admissible),
  omega (arith, a.least n b.full, b.least m a.full),
)

pub full_like : (k : Schedule) (m n : ℕ) → Fullest k m → Admissible k n → volume k n ≡ volume k m → Fullest k n
full_like k m n a ok v = record { admissible = ok; trades = omega (arith, a.trades, v); most = λ i h. omega (arith, a.most i h, v) }

pub kept_like : (k : Schedule) (m n : ℕ) → Kept k m → Admissible k n → volume k n ≡ volume k m → size k n ≡ size k m → Kept k n
kept_like k m n a ok v s = record { full = full_like k m n a.full ok v; least = λ i h. omega (arith, a.least i h, s) }
