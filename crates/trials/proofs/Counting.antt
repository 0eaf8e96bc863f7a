-- One item more of a count, and what a test's closure answers at it.
use Rattle.std.proofs.Common.{◌≡◌, ◌+◌, List, [], ◌∷◌, ◌++◌, Bool, cond, count_by, length, ◌<◌, take, slice_index_or, arith, sym, ap, subst, ◌∙◌}
use Rattle.std.proofs.lemmas.Grind.{take_at_read}
use Rattle.std.proofs.lemmas.List.Sums.{sum_by-append}
use Rattle.trials.specs.Counts.{Computes}

pub count_by-next : {T : Type 0} (test : T → Bool) (xs : List T) (i : _) (y : T) (b : Bool) → i < length xs → y ≡ slice_index_or xs i y → b ≡ test y → count_by test (take (i + 1) xs) ≡ count_by test (take i xs) + cond b 1 0
count_by-next test xs i y b here is said =
    let more : take (i + 1) xs ≡ take i xs ++ y ∷ [] = (take_at_read xs i y here).1 ∙ ap (λ (x : _). take i xs ++ x ∷ []) (sym is) in
    rw (more, sum_by-append (λ x. cond (test x) 1 0) (take i xs) (y ∷ []), said) (omega arith)

pub computed_at : {T : Type 0} (answers : T → Bool → Type 0) (test : T → Bool) (xs : List T) (i : _) (y : T) (b : Bool) → i < length xs → y ≡ slice_index_or xs i y → Computes answers test xs → answers y b → b ≡ test y
computed_at {T} answers test xs i y b here is computes said =
    let P : T → Type 0 = λ x. (b : Bool) → answers x b → b ≡ test x in
    subst P (sym is) (computes i y here) b said
