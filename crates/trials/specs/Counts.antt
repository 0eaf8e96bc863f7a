-- A test that a closure makes. Assumes nothing.
use Rattle.std.specs.Prelude.{◌≡◌, Bool, List, All}

-- whatever a call at one of the items may answer is what the test says of it
abbrev pub Computes : {T : Type 0} → (T → Bool → Type 0) → (T → Bool) → List T → Type 0
Computes answers test xs = All (λ x. (b : Bool) → answers x b → b ≡ test x) xs
