-- The equilibrium price in the words of the rule: which prices are kept, and which of them is chosen. Assumes nothing.
use Rattle.std.specs.Prelude.{◌≡◌, ℕ, ◌<◌, ◌≤◌, Some, None, Option}
use Rattle.rules.specs.Schedule.{Schedule, Admissible, volume, size, mean, Positive, Negative, Zero}

-- an admissible price that trades, and than which none trades more
pub record Fullest (k : Schedule) (m : ℕ) : Type 0 where
  pub admissible : Admissible k m
  pub trades : 0 < volume k m
  pub most : (n : ℕ) → Admissible k n → volume k n ≤ volume k m

-- and of these one than which none has a smaller imbalance
pub record Kept (k : Schedule) (m : ℕ) : Type 0 where
  pub full : Fullest k m
  pub least : (n : ℕ) → Fullest k n → size k m ≤ size k n

-- the highest and the lowest of the kept prices of a sign
pub record Highest (k : Schedule) (P : ℕ → Type 0) (m : ℕ) : Type 0 where
  pub kept : Kept k m
  pub holds : P m
  pub bound : (n : ℕ) → Kept k n → P n → n ≤ m

pub record Lowest (k : Schedule) (P : ℕ → Type 0) (m : ℕ) : Type 0 where
  pub kept : Kept k m
  pub holds : P m
  pub bound : (n : ℕ) → Kept k n → P n → m ≤ n

-- all kept prices are of the sign
abbrev pub EachKept : Schedule → (ℕ → Type 0) → Type 0
EachKept k P = (n : ℕ) → Kept k n → P n

-- the tie rule: all positive, all negative, both signs, all zero
pub data Chosen (k : Schedule) (m : ℕ) : Type 0 where
  positive : EachKept k (Positive k) → Highest k (Positive k) m → Chosen k m
  negative : EachKept k (Negative k) → Lowest k (Negative k) m → Chosen k m
  mixed : (a b : ℕ) → Highest k (Positive k) a → Lowest k (Negative k) b → m ≡ mean a b → Chosen k m
  level : (a b : ℕ) → EachKept k (Zero k) → Lowest k (Zero k) a → Highest k (Zero k) b → m ≡ mean a b → Chosen k m

-- no admissible price has volume above 0
abbrev pub NothingTrades : Schedule → Type 0
NothingTrades k = (n : ℕ) → Admissible k n → volume k n ≡ 0

-- what the rule answers
abbrev pub Answered : Schedule → Option ℕ → Type 0
Answered k None = NothingTrades k
Answered k (Some m) = Chosen k m
