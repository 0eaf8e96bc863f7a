-- What the lists of the equilibrium rule hold. Assumes nothing.
use Rattle.std.proofs.Common.{◌≡◌, ℕ, zero, suc, ◌<◌, ◌≤◌, Bool, true, false, cond, ◌⊎◌, List, [], ◌∷◌, sym, refl, ap, ◌∙◌, inl, inr, ⊎_elim, arith}
use Rattle.std.proofs.lemmas.Bool.{cases_lt, cases_eq, both_ways}
use Rattle.rules.specs.Literal.{prices, keep, largest, smallest}

abbrev pub Among : ℕ → List ℕ → Type 0
Among m [] = ⊥
Among m (x ∷ xs) = (m ≡ x) ⊎ Among m xs

pub prices_all : (top m : ℕ) → 1 ≤ m → m ≤ top → Among m (prices top)
unfolding prices
prices_all zero m a b = absurd (omega arith)
prices_all (suc n) m a b = ⊎_elim (λ e. inl e) (λ ne. inr (prices_all n m a (omega arith))) (cases_eq m (suc n))

pub prices_only : (top m : ℕ) → Among m (prices top) → (1 ≤ m) × (m ≤ top)
unfolding prices
prices_only zero m i = elim i [ ]
prices_only (suc n) m (inl e) = (omega arith, omega arith)
prices_only (suc n) m (inr i) = let h = prices_only n m i in (h.0, omega arith)

module _ (p : ℕ → Bool) where
  pub keep_only : (ms : List ℕ) (m : ℕ) → Among m (keep p ms) → Among m ms × (p m ≡ true)
  unfolding keep
  keep_only [] m i = elim i [ ]
  keep_only (x ∷ xs) m i = go (p x) refl (λ j. keep_only xs m j) i
    where
      go : (b : Bool) → p x ≡ b → (Among m (keep p xs) → Among m xs × (p m ≡ true)) → Among m (cond b (x ∷ keep p xs) (keep p xs)) → ((m ≡ x) ⊎ Among m xs) × (p m ≡ true)
      go true e rec (inl s) = (inl s, ap p s ∙ e)
      go true e rec (inr j) = let h = rec j in (inr h.0, h.1)
      go false e rec j = let h = rec j in (inr h.0, h.1)

  pub keep_all : (ms : List ℕ) (m : ℕ) → Among m ms → p m ≡ true → Among m (keep p ms)
  unfolding keep
  keep_all [] m i h = elim i [ ]
  keep_all (x ∷ xs) m i h = go (p x) refl (λ j. keep_all xs m j h) i
    where
      go : (b : Bool) → p x ≡ b → (Among m xs → Among m (keep p xs)) → (m ≡ x) ⊎ Among m xs → Among m (cond b (x ∷ keep p xs) (keep p xs))
      go true e rec (inl s) = inl s
      go true e rec (inr j) = inr (rec j)
      go false e rec (inl s) = absurd (both_ways (p x) e (ap p (sym s) ∙ h))
      go false e rec (inr j) = rec j

module _ (f : ℕ → ℕ) where
  -- a value is reached
  pub record Reached (ms : List ℕ) (v : ℕ) : Type 0 where
    pub at : ℕ
    pub among : Among at ms
    pub value : f at ≡ v

  further : (x : ℕ) (xs : List ℕ) (v w : ℕ) → v ≡ w → Reached xs v → Reached (x ∷ xs) w
  further x xs v w e r = record { at = r.at; among = inr r.among; value = r.value ∙ e }

  pub largest_bound : (ms : List ℕ) (m : ℕ) → Among m ms → f m ≤ largest f ms
  unfolding largest
  largest_bound [] m i = elim i [ ]
  largest_bound (x ∷ xs) m (inl e) = let h = ap f e in omega arith
  largest_bound (x ∷ xs) m (inr i) = omega (arith, largest_bound xs m i)

  pub largest_some : (ms : List ℕ) → 0 < largest f ms → Reached ms (largest f ms)
  unfolding largest
  largest_some [] h = absurd (omega arith)
  largest_some (x ∷ xs) h =
      ⊎_elim
      (λ lt. further x xs (largest f xs) _ (omega arith) (largest_some xs (omega arith)))
      (λ ge. record { at = x; among = inl refl; value = omega arith })
      (cases_lt (f x) (largest f xs))

  pub largest_reached : (x : ℕ) (xs : List ℕ) → Reached (x ∷ xs) (largest f (x ∷ xs))
  unfolding largest
  largest_reached x xs =
      ⊎_elim
      (λ lt. further x xs (largest f xs) _ (omega arith) (largest_some xs (omega arith)))
      (λ ge. record { at = x; among = inl refl; value = omega arith })
      (cases_lt (f x) (largest f xs))

  smallest_start : (d : ℕ) (ms : List ℕ) → smallest f d ms ≤ d
  unfolding smallest
  smallest_start d [] = omega arith
  smallest_start d (x ∷ xs) = omega (arith, smallest_start d xs)

  smallest_within : (d : ℕ) (ms : List ℕ) (m : ℕ) → Among m ms → smallest f d ms ≤ f m
  unfolding smallest
  smallest_within d [] m i = elim i [ ]
  smallest_within d (x ∷ xs) m (inl e) = let h = ap f e in omega arith
  smallest_within d (x ∷ xs) m (inr i) = omega (arith, smallest_within d xs m i)

  pub smallest_bound : (x : ℕ) (xs : List ℕ) (m : ℕ) → Among m (x ∷ xs) → smallest f (f x) xs ≤ f m
  smallest_bound x xs m (inl e) = let h = ap f e in omega (arith, smallest_start (f x) xs)
  smallest_bound x xs m (inr i) = smallest_within (f x) xs m i

  smallest_some : (d : ℕ) (ms : List ℕ) → smallest f d ms < d → Reached ms (smallest f d ms)
  unfolding smallest
  smallest_some d [] h = absurd (omega arith)
  smallest_some d (x ∷ xs) h =
      ⊎_elim
      (λ lt. further x xs (smallest f d xs) _ (omega arith) (smallest_some d xs (omega arith)))
      (λ ge. record { at = x; among = inl refl; value = omega arith })
      (cases_lt (smallest f d xs) (f x))

  pub smallest_reached : (x : ℕ) (xs : List ℕ) → Reached (x ∷ xs) (smallest f (f x) xs)
  smallest_reached x xs =
      ⊎_elim
      (λ lt. further x xs (smallest f (f x) xs) _ refl (smallest_some (f x) xs lt))
      (λ ge. record { at = x; among = inl refl; value = omega (arith, smallest_start (f x) xs) })
      (cases_lt (smallest f (f x) xs) (f x))
