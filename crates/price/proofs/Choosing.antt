-- What the two prices at the crossing trade decides between them. Assumes nothing.
use Rattle.std.proofs.Common.{◌≡◌, ℕ, ◌+◌, ◌<◌, ◌≤◌, ◌⊎◌, List, inl, inr, ⊎_elim, arith}
use Rattle.std.proofs.lemmas.Bool.{cases_lt}
use Rattle.book.specs.Meaning.{Order}
use Rattle.rules.specs.Schedule.{Schedule, schedule, mean, Positive, Zero}
use Rattle.rules.specs.Crossings.{Crossing, LowestSame}
use Rattle.rules.specs.Prices.{Chosen}
use Rattle.rules.proofs.Curves.{monotone}
use Rattle.rules.proofs.Decisions.{Lower, Upper, decided}
use Rattle.price.specs.declared.quantities.Quantities.{Quantities}
use Rattle.price.specs.Crossed.{Crossed}
use Rattle.price.specs.Steps.{TradedAt, volume_of, size_of, GoesUp, Stays}

module _ (k : Schedule) (least most p : ℕ) (c : Crossed k least most) (t : Crossing k p) (from : least ≤ p + 1) (to : p ≤ most) (a b : Quantities) (here : TradedAt k p a) (next : TradedAt k (p + 1) b) where
  -- one of the two trades
  some : (0 < volume_of a) ⊎ (0 < volume_of b)
  some =
      ⊎_elim
      (λ lt.
      let high : p + 1 ≤ most = omega (arith, c.order) in
      let v = next.volume_is (record { low = omega arith; high = omega (arith, c.within) }) in
      inr (omega (arith, c.trades (p + 1) from high)))
      (λ le.
      let v = here.volume_is (record { low = omega (arith, c.one); high = t.within }) in
      inl (omega (arith, c.trades p le to)))
      (cases_lt p least)

  upper : GoesUp a b → Upper k p
  upper h =
      let trades : 0 < volume_of b = ⊎_elim (λ x. omega arith) (λ x. x) some in
      let at_next = next.price trades in
      let v = next.volume_is at_next in
      let s = next.size_is trades in
      record {
        high = omega (arith, at_next.high);
        trades = omega arith;
        beats = λ low.
            let w = here.volume_is (record { low = low; high = t.within }) in
            ⊎_elim (λ less. inl (omega arith)) (λ e. let z = here.size_is (omega arith) in inr (omega arith, omega arith)) h;
      }

  module _ (h : Stays a b) where
    trades_here : 0 < volume_of a
    trades_here = ⊎_elim (λ x. x) (λ x. omega arith) some

    lower : Lower k p
    lower =
        let at_p = here.price trades_here in
        let v = here.volume_is at_p in
        let s = here.size_is trades_here in
        let one = trades_here in
        record {
          low = at_p.low;
          trades = omega arith;
          beats = λ high.
              let w = next.volume_is (record { low = omega arith; high = omega arith }) in
              ⊎_elim (λ less. inl (omega arith)) (λ e. let z = next.size_is (omega arith) in inr (omega arith, omega arith)) h;
        }

    positive : 0 < size_of a → Positive k p
    positive some_size =
        let at_p = here.price trades_here in
        let s = here.size_is trades_here in
        let e = t.upto p at_p.low (omega arith) in
        omega arith

    level : size_of a ≡ 0 → Zero k p
    level none = let s = here.size_is trades_here in omega arith

    reached : least ≤ p
    reached =
        let at_p = here.price trades_here in
        let v = here.volume_is at_p in
        let one = trades_here in
        ⊎_elim (λ lt. absurd (omega (arith, c.below p lt))) (λ le. le) (cases_lt p least)

-- what is chosen, and that the lower of the two trades if it stays
pub record Settled (k : Schedule) (least p : ℕ) (a b : Quantities) : Type 0 where
  pub up : GoesUp a b → Chosen k (p + 1)
  pub stays : Stays a b → 0 < size_of a → Chosen k p
  pub between : Stays a b → size_of a ≡ 0 → (m : ℕ) → LowestSame k p m → Chosen k (mean m p)
  pub reached : Stays a b → least ≤ p

pub settled : (os : List Order) (most : ℕ) {least p : ℕ} {a b : Quantities} → Crossed (schedule os most) least most → Crossing (schedule os most) p → least ≤ p + 1 → TradedAt (schedule os most) p a → TradedAt (schedule os most) (p + 1) b → Settled (schedule os most) least p a b
settled os most {least} {p} {a} {b} c t from here next =
    let k = schedule os most in
    let d = decided k (monotone os most) p t in
    record {
      up = λ h. d.upper (upper k least most p c t from t.within a b here next h);
      stays = λ h some. d.lower (lower k least most p c t from t.within a b here next h) (positive k least most p c t from t.within a b here next h some);
      between = λ h none. d.level (lower k least most p c t from t.within a b here next h) (level k least most p c t from t.within a b here next h none);
      reached = reached k least most p c t from t.within a b here next;
    }
