-- From the best buy and the best sell: between which prices something trades. Assumes nothing.
use Rattle.std.proofs.Common.{◌≡◌, ℕ, ◌<◌, ◌≤◌, min, List, Some, None, sym, ⊎_elim, arith}
use Rattle.std.proofs.lemmas.Bool.{cases_lt, le-leb, lt-leb}
use Rattle.book.specs.declared.orders.Side.TheVariants.{Buy, Sell}
use Rattle.book.specs.declared.orders.Live.{Live}
use Rattle.book.specs.Meaning.{Order, order_of}
use Rattle.book.specs.Ranks.{ranked, at_place}
use Rattle.book.proofs.Bests.{no_best, best_stops, best_trades}
use Rattle.rules.specs.Schedule.{schedule, volume, Admissible}
use Rattle.rules.specs.Literal.{equilibrium}
use Rattle.rules.proofs.Choices.{equilibrium_is}
use Rattle.rules.specs.Prices.{Fullest, Kept, Highest, Lowest, Chosen, NothingTrades}
use Rattle.rules.specs.Prices.Chosen.{positive, negative, mixed, level}
use Rattle.price.specs.Crossed.{Crossed}

pub no_buys : (os : List Order) (top : ℕ) → None ≡ at_place (ranked Buy os) 1 → None ≡ equilibrium (schedule os top)
no_buys os top e = sym (equilibrium_is (schedule os top) None (λ n a. omega (arith, no_best Buy os (sym e) n)))

pub no_sells : (os : List Order) (top : ℕ) → None ≡ at_place (ranked Sell os) 1 → None ≡ equilibrium (schedule os top)
no_sells os top e = sym (equilibrium_is (schedule os top) None (λ n a. omega (arith, no_best Sell os (sym e) n)))

-- Prices that do not trade can be left out above.
module _ (os : List Order) (top most : ℕ) (le : most ≤ top) (dead : (n : ℕ) → most < n → n ≤ top → volume (schedule os top) n ≡ 0) where
  wide : (m : ℕ) → Admissible (schedule os most) m → Admissible (schedule os top) m
  wide m a = record { low = a.low; high = omega (arith, a.high) }

  wide_full : (m : ℕ) → Fullest (schedule os most) m → Fullest (schedule os top) m
  wide_full m f =
      record {
        admissible = wide m f.admissible;
        trades = f.trades;
        most = λ n a. ⊎_elim (λ gt. omega (arith, dead n gt a.high)) (λ ok. f.most n (record { low = a.low; high = ok })) (cases_lt most n);
      }

  thin_full : (m : ℕ) → Fullest (schedule os top) m → Fullest (schedule os most) m
  thin_full m f =
      let high : m ≤ most = ⊎_elim (λ gt. absurd (omega (arith, dead m gt f.admissible.high, f.trades))) (λ ok. ok) (cases_lt most m) in
      record { admissible = record { low = f.admissible.low; high = high }; trades = f.trades; most = λ n a. f.most n (wide n a) }

  wide_kept : (m : ℕ) → Kept (schedule os most) m → Kept (schedule os top) m
  wide_kept m h = record { full = wide_full m h.full; least = λ n f. h.least n (thin_full n f) }

  thin_kept : (m : ℕ) → Kept (schedule os top) m → Kept (schedule os most) m
  thin_kept m h = record { full = thin_full m h.full; least = λ n f. h.least n (wide_full n f) }

  wide_highest : (P : ℕ → Type 0) (m : ℕ) → Highest (schedule os most) P m → Highest (schedule os top) P m
  wide_highest P m h = record { kept = wide_kept m h.kept; holds = h.holds; bound = λ n k p. h.bound n (thin_kept n k) p }

  wide_lowest : (P : ℕ → Type 0) (m : ℕ) → Lowest (schedule os most) P m → Lowest (schedule os top) P m
  wide_lowest P m h = record { kept = wide_kept m h.kept; holds = h.holds; bound = λ n k p. h.bound n (thin_kept n k) p }

  wide_chosen : (m : ℕ) → Chosen (schedule os most) m → Chosen (schedule os top) m
  wide_chosen m (positive e h) = positive (λ n k. e n (thin_kept n k)) (wide_highest _ m h)
  wide_chosen m (negative e h) = negative (λ n k. e n (thin_kept n k)) (wide_lowest _ m h)
  wide_chosen m (mixed a b x y s) = mixed a b (wide_highest _ a x) (wide_lowest _ b y) s
  wide_chosen m (level a b e x y s) = level a b (λ n k. e n (thin_kept n k)) (wide_lowest _ a x) (wide_highest _ b y) s

module _ (os : List Order) (top most : ℕ) (buy sell : Live) (first : Some (order_of buy) ≡ at_place (ranked Buy os) 1) (second : Some (order_of sell) ≡ at_place (ranked Sell os) 1) (is : most ≡ min buy.body.limit top) where
  -- above the lesser of the best buy's limit and the top nothing is bought
  dead : (n : ℕ) → most < n → n ≤ top → volume (schedule os top) n ≡ 0
  dead n gt high = omega (arith, best_stops Buy os (order_of buy) (sym first) n (lt-leb n buy.body.limit (omega arith)))

  nothing : most < sell.body.limit → NothingTrades (schedule os top)
  nothing lt n a =
      ⊎_elim
      (λ below. omega (arith, best_stops Sell os (order_of sell) (sym second) n (lt-leb sell.body.limit n below)))
      (λ above. dead n (omega arith) a.high)
      (cases_lt n sell.body.limit)

  pub apart : most < sell.body.limit → None ≡ equilibrium (schedule os top)
  apart lt = sym (equilibrium_is (schedule os top) None (nothing lt))

  pub crossed : sell.body.limit ≤ most → Crossed (schedule os most) sell.body.limit most
  crossed le =
      record {
        one = sell.body.limited.0;
        order = le;
        within = omega arith;
        below = λ m lt. best_stops Sell os (order_of sell) (sym second) m (lt-leb sell.body.limit m lt);
        above = λ m gt high. absurd (omega arith);
        trades = λ m low high. omega (arith, buy.body.sized.0, sell.body.sized.0, best_trades Buy os (order_of buy) (sym first) m (le-leb m buy.body.limit (omega arith)), best_trades Sell os (order_of sell) (sym second) m (le-leb sell.body.limit m low));
      }

  pub answered : (m : ℕ) → Chosen (schedule os most) m → Some m ≡ equilibrium (schedule os top)
  answered m c = sym (equilibrium_is (schedule os top) (Some m) (wide_chosen os top most (omega arith) dead m c))
