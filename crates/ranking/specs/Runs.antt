-- Where a ranking places an item in a run, and when a run is in rank. Assumes nothing.
use Rattle.std.specs.Prelude.{Bool, true, cond, not, ◌&&◌, List, [], ◌∷◌}

-- an item placed in a run: just before the first that it goes before, or last
unfoldable pub placed : {X : Type 0} → (X → X → Bool) → X → List X → List X
placed before x [] = x ∷ []
placed before x (y ∷ ys) = let later = placed before x ys in cond (before x y) (x ∷ y ∷ ys) (y ∷ later)

-- no item of the run goes before x
unfoldable pub none_before : {X : Type 0} → (X → X → Bool) → X → List X → Bool
none_before before x [] = true
none_before before x (y ∷ ys) = not (before y x) && none_before before x ys

-- a run is in rank if no item goes before an earlier one
unfoldable pub in_rank : {X : Type 0} → (X → X → Bool) → List X → Bool
in_rank before [] = true
in_rank before (x ∷ xs) = none_before before x xs && in_rank before xs

-- a run brought into rank: each item placed in turn
unfoldable pub sorted : {X : Type 0} → (X → X → Bool) → List X → List X
sorted before [] = []
sorted before (x ∷ xs) = placed before x (sorted before xs)
