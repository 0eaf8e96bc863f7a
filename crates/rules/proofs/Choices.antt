-- What is chosen is one, is kept, is what the letter of the rule answers, and has no better rival. Assumes nothing.
use Rattle.std.proofs.Common.{◌≡◌, ℕ, zero, suc, ◌+◌, ◌<◌, ◌≤◌, List, Some, None, Option, refl, ap, subst, ⊎_elim, arith}
use Rattle.std.proofs.lemmas.Bool.{cases_lt}
use Rattle.book.specs.Meaning.{Order}
use Rattle.rules.specs.Schedule.{Schedule, schedule, Admissible, volume, size, mean, Positive, Negative, Zero}
use Rattle.rules.specs.Crossings.{Monotone, Crossing, Same, SignChange}
use Rattle.rules.specs.Prices.{Fullest, Kept, Highest, Lowest, Chosen, NothingTrades, Answered}
use Rattle.rules.specs.Prices.Chosen.{positive, negative, mixed, level}
use Rattle.rules.specs.Literal.{equilibrium}
use Rattle.rules.specs.Rivals.{NoRivalAbove}
use Rattle.rules.proofs.Signs.{never_rises}
use Rattle.rules.proofs.Curves.{monotone}
use Rattle.rules.proofs.Keeping.{kept_same, full_like, kept_like}
use Rattle.rules.proofs.Letters.{equilibrium_answered}
use Rattle.rules.proofs.Rivalry.{no_rival_more}

highest_one : (k : Schedule) (P : ℕ → Type 0) (a b : ℕ) → Highest k P a → Highest k P b → a ≡ b
highest_one k P a b x y = omega (arith, x.bound b y.kept y.holds, y.bound a x.kept x.holds)

lowest_one : (k : Schedule) (P : ℕ → Type 0) (a b : ℕ) → Lowest k P a → Lowest k P b → a ≡ b
lowest_one k P a b x y = omega (arith, x.bound b y.kept y.holds, y.bound a x.kept x.holds)

same_mean : (a b c d m n : ℕ) → a ≡ c → b ≡ d → m ≡ mean a b → n ≡ mean c d → m ≡ n
same_mean a b c d m n p q r s = cc

pub chosen_one : (k : Schedule) (m n : ℕ) → Chosen k m → Chosen k n → m ≡ n
chosen_one k m n (positive e h) (positive e' h') = highest_one k (Positive k) m n h h'
chosen_one k m n (positive e h) (negative e' h') = absurd (omega (arith, e' m h.kept, h.holds))
chosen_one k m n (positive e h) (mixed a b x y s) = absurd (omega (arith, e b y.kept, y.holds))
chosen_one k m n (positive e h) (level a b e' x y s) = absurd (omega (arith, e' m h.kept, h.holds))
chosen_one k m n (negative e h) (positive e' h') = absurd (omega (arith, e' m h.kept, h.holds))
chosen_one k m n (negative e h) (negative e' h') = lowest_one k (Negative k) m n h h'
chosen_one k m n (negative e h) (mixed a b x y s) = absurd (omega (arith, e a x.kept, x.holds))
chosen_one k m n (negative e h) (level a b e' x y s) = absurd (omega (arith, e' m h.kept, h.holds))
chosen_one k m n (mixed a b x y s) (positive e h) = absurd (omega (arith, e b y.kept, y.holds))
chosen_one k m n (mixed a b x y s) (negative e h) = absurd (omega (arith, e a x.kept, x.holds))
chosen_one k m n (mixed a b x y s) (mixed c d z w t) = same_mean a b c d m n (highest_one k (Positive k) a c x z) (lowest_one k (Negative k) b d y w) s t
chosen_one k m n (mixed a b x y s) (level c d e z w t) = absurd (omega (arith, e a x.kept, x.holds))
chosen_one k m n (level a b e x y s) (positive e' h) = absurd (omega (arith, e n h.kept, h.holds))
chosen_one k m n (level a b e x y s) (negative e' h) = absurd (omega (arith, e n h.kept, h.holds))
chosen_one k m n (level a b e x y s) (mixed c d z w t) = absurd (omega (arith, e c z.kept, z.holds))
chosen_one k m n (level a b e x y s) (level c d e' z w t) = same_mean a b c d m n (lowest_one k (Zero k) a c x z) (highest_one k (Zero k) b d y w) s t

-- some price is kept where one is chosen
chosen_some : (k : Schedule) (m : ℕ) → Chosen k m → (n : ℕ) × Kept k n
chosen_some k m (positive e h) = (m, h.kept)
chosen_some k m (negative e h) = (m, h.kept)
chosen_some k m (mixed a b x y s) = (a, x.kept)
chosen_some k m (level a b e x y s) = (a, x.kept)

not_idle : (k : Schedule) (m : ℕ) → Chosen k m → NothingTrades k → ⊥
not_idle k m c h = let s = chosen_some k m c in omega (arith, h s.0 s.1.full.admissible, s.1.full.trades)

one_answer : (k : Schedule) (r s : Option ℕ) → Answered k r → Answered k s → r ≡ s
one_answer k None None a b = refl
one_answer k None (Some n) a b = absurd (not_idle k n b a)
one_answer k (Some m) None a b = absurd (not_idle k m a b)
one_answer k (Some m) (Some n) a b = ap (λ (i : ℕ). Some i) (chosen_one k m n a b)

-- the letter of the rule answers what its words do, and only that
pub equilibrium_is : (k : Schedule) (r : Option ℕ) → Answered k r → equilibrium k ≡ r
equilibrium_is k r a = one_answer k (equilibrium k) r (equilibrium_answered k) a

pub equilibrium_words : (k : Schedule) → Answered k (equilibrium k)
equilibrium_words k = equilibrium_answered k

-- between the last kept price with buyers left over and the first with sellers there is no other
neighbours : (k : Schedule) → Monotone k → (a b : ℕ) → Highest k (Positive k) a → Lowest k (Negative k) b → b ≡ a + 1
neighbours k mono a b x y =
    let e = kept_same k a b x.kept y.kept in
    let below : a < b = ⊎_elim (λ lt. lt) (λ le. absurd (omega (arith, mono.falls b a le, mono.rises b a le, x.holds, y.holds))) (cases_lt a b) in
    let ok = x.kept.full.admissible in
    let ok' = y.kept.full.admissible in
    let m : ℕ = a + 1 in
    let no_more : m < b → ⊥ = λ lt.
    let adm : Admissible k m = record { low = omega arith; high = omega (arith, ok'.high) } in
    let f1 = mono.falls a m (omega arith) in
    let f2 = mono.falls m b (omega arith) in
    let r1 = mono.rises a m (omega arith) in
    let r2 = mono.rises m b (omega arith) in
    let most = x.kept.full.most m adm in
    let xp = x.holds in
    let yn = y.holds in
    let v : volume k m ≡ volume k a = omega arith in
    let full : Fullest k m = record { admissible = adm; trades = omega (arith, x.kept.full.trades, v); most = λ n h. omega (arith, x.kept.full.most n h, v) } in
    let ge = x.kept.least m full in
    let s : size k m ≡ size k a = omega arith in
    let kept = kept_like k a m x.kept adm v s in
    ⊎_elim
    (λ pos. omega (arith, x.bound m kept pos))
    (λ le. let neg : Negative k m = omega arith in omega (arith, y.bound m kept neg))
    (cases_lt (k.sold m) (k.bought m))
    in
    ⊎_elim (λ lt. absurd (no_more lt)) (λ le. omega arith) (cases_lt m b)

-- what lies between two level prices is level
between : (k : Schedule) → Monotone k → (a b m : ℕ) → a ≤ m → m ≤ b → Lowest k (Zero k) a → Highest k (Zero k) b → Kept k m
between k mono a b m le ge x y =
    let e = kept_same k a b x.kept y.kept in
    let f1 = mono.falls a m le in
    let f2 = mono.falls m b ge in
    let r1 = mono.rises a m le in
    let r2 = mono.rises m b ge in
    let xp = x.holds in
    let yn = y.holds in
    let ok = x.kept.full.admissible in
    let ok' = y.kept.full.admissible in
    kept_like k a m x.kept (record { low = omega (arith, ok.low); high = omega (arith, ok'.high) }) (omega arith) (omega arith)

pub chosen_kept : (k : Schedule) → Monotone k → (m : ℕ) → Chosen k m → Kept k m
chosen_kept k mono m (positive e h) = h.kept
chosen_kept k mono m (negative e h) = h.kept
chosen_kept k mono m (mixed a b x y s) =
    let n = neighbours k mono a b x y in
    let same : b ≡ m = omega arith in
    subst (Kept k) same y.kept
chosen_kept k mono m (level a b e x y s) =
    let le = x.bound b y.kept y.holds in
    between k mono a b m (omega arith) (omega arith) x y

-- no rival, at any admissible price, trades more than the chosen price, and none trades where no price does
pub unrivalled : (os : List Order) (top m : ℕ) → Chosen (schedule os top) m → NoRivalAbove os (schedule os top) (volume (schedule os top) m)
unrivalled os top m c n ts a f =
    let h = chosen_kept (schedule os top) (monotone os top) m c in
    omega (arith, h.full.most n a, no_rival_more os top n ts f)

pub no_rival : (os : List Order) (top : ℕ) → NothingTrades (schedule os top) → NoRivalAbove os (schedule os top) 0
no_rival os top idle n ts a f = omega (arith, idle n a, no_rival_more os top n ts f)

-- The one change of sign.

-- from a price above which sellers are left over, down
crossing_from : (k : Schedule) → Monotone k → (n : ℕ) → n ≤ k.top → ((m : ℕ) → n < m → m ≤ k.top → k.bought m < k.sold m) → (p : ℕ) × Crossing k p
crossing_from k mono zero le past = (0, record { within = le; upto = λ m one to. absurd (omega arith); past = past })
crossing_from k mono (suc n) le past =
    ⊎_elim
    (λ lt. crossing_from k mono n (omega arith) (λ m from to. let ge : suc n ≤ m = from in omega (arith, mono.falls (suc n) m ge, mono.rises (suc n) m ge)))
    (λ ge. (suc n, record { within = le; upto = λ m one to. omega (arith, mono.falls m (suc n) to, mono.rises m (suc n) to); past = past }))
    (cases_lt (k.bought (suc n)) (k.sold (suc n)))

module _ (k : Schedule) (mono : Monotone k) (p : ℕ) (t : Crossing k p) where
  before_crossing : (m : ℕ) → Kept k m → m ≤ p → Same k p m
  before_crossing m h le =
      let low = h.full.admissible.low in
      let here : Admissible k p = record { low = omega arith; high = t.within } in
      let sells = mono.rises m p le in
      let buys = mono.falls m p le in
      let at_m = t.upto m low le in
      let at_p = t.upto p (omega arith) (omega arith) in
      let most = h.full.most p here in
      let v : volume k p ≡ volume k m = omega arith in
      let least = h.least p (full_like k m p h.full here v) in
      (omega arith, omega arith)

  behind_crossing : (m : ℕ) → Kept k m → p < m → Same k (p + 1) m
  behind_crossing m h lt =
      let high = h.full.admissible.high in
      let here : Admissible k (p + 1) = record { low = omega arith; high = omega arith } in
      let sells = mono.rises (p + 1) m (omega arith) in
      let buys = mono.falls (p + 1) m (omega arith) in
      let at_m = t.past m lt high in
      let at_p = t.past (p + 1) (omega arith) (omega arith) in
      let most = h.full.most (p + 1) here in
      let v : volume k (p + 1) ≡ volume k m = omega arith in
      let least = h.least (p + 1) (full_like k m (p + 1) h.full here v) in
      (omega arith, omega arith)

pub sign_change : (k : Schedule) → Monotone k → SignChange k
sign_change k mono =
    let found = crossing_from k mono k.top (omega arith) (λ m from to. absurd (omega arith)) in
    record {
      monotone = mono;
      never_rises = never_rises k mono;
      place = found.0;
      crossing = found.1;
      before = before_crossing k mono found.0 found.1;
      behind = behind_crossing k mono found.0 found.1;
      neighbours = neighbours k mono;
    }
