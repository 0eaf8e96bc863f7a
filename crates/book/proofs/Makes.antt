-- What a make of book shows of each way that an entry or a cut goes. Assumes nothing.
use Rattle.std.specs.Result.{result_unwrap_or}
use Rattle.std.proofs.Common.{◌≡◌, ℕ, ◌+◌, ◌<◌, ◌≤◌, Bool, true, false, cond, eqb, ltb, List, length, refl, arith, Some, None, Ok, Err, Result, sym, ap, ◌∙◌}
use Rattle.std.proofs.lemmas.Bool.{both_ways, eq-eqb, ne_eqb, lt-ltb, le-ltb, or_left, or_right, or_from}
use Rattle.book.specs.declared.orders.Body.{Body}
use Rattle.book.specs.declared.refusals.BookRefusal.{BookRefusal}
use Rattle.book.specs.declared.refusals.BookRefusal.TheVariants.{UnknownOrder, CutRange, Full, NumbersSpent}
use Rattle.book.specs.Meaning.{Order, Book, number_answer, number_after, enter_answer, enter_after, entered, find_in, cut_answer, cut_after, cut_judged, cut, unless_refused}

-- a call answered r and left m', where the definitions have r₀ and m₀
pub record Went {T : Type 0} (r r₀ : Result T BookRefusal) (m' m₀ : Book) : Type 0 where
  pub answer : r ≡ r₀
  pub after : m' ≡ m₀

went : {T : Type 0} (r r₀ : Result T BookRefusal) (new old : Book) → r ≡ r₀ → Went r r₀ (unless_refused r new old) (unless_refused r₀ new old)
went r r₀ new old e = record { answer = e; after = ap (λ x. unless_refused x new old) e }

-- a book by its parts
pub book_is : {places places' last last' : ℕ} {orders orders' : List Order} → places ≡ places' → last ≡ last' → orders ≡ orders' → ◌≡◌ {A = Book} (record { places = places; last = last; orders = orders }) (record { places = places'; last = last'; orders = orders' })
book_is p l o = cc

-- What a number that was given out tells.
module _ (places last live n : ℕ) where
  given : (a b : Bool) → Ok n ≡ cond a (Err Full) (cond b (Err NumbersSpent) (Ok (last + 1))) → (a ≡ false) × (b ≡ false) × (n ≡ last + 1)
  given true b e = absurd (grind arith)
  given false true e = absurd (grind arith)
  given false false e = (refl, refl, grind arith)

  pub number_given : Ok n ≡ number_answer places last live → (live ≡ places → ⊥) × (last ≡ 60000 → ⊥) × (n ≡ last + 1)
  number_given e = let told = given (eqb live places) (eqb last 60000) e in (λ x. absurd (both_ways (eqb live places) told.0 (eq-eqb live places x)), λ x. absurd (both_ways (eqb last 60000) told.1 (eq-eqb last 60000 x)), told.2)

  pub number_kept : Ok n ≡ number_answer places last live → number_after places last live ≡ n
  number_kept e = sym (ap (λ r. result_unwrap_or r last) e)

pub number_refused : (places last live : ℕ) (why : BookRefusal) → Err why ≡ number_answer places last live → number_after places last live ≡ last
number_refused places last live why e = sym (ap (λ r. result_unwrap_or r last) e)

module _ (m : Book) (body : Body) where
  pub enter_refused : (why : BookRefusal) → Err why ≡ number_answer m.places m.last (length m.orders) → Went (Err why) (enter_answer m) m (enter_after m body)
  unfolding enter_answer enter_after
  enter_refused why e = went (Err why) _ (entered m body) m e

  pub enter_taken : (n : ℕ) → Ok n ≡ number_answer m.places m.last (length m.orders) → Went (Ok n) (enter_answer m) (entered m body) (enter_after m body)
  unfolding enter_answer enter_after
  enter_taken n e = went (Ok n) _ (entered m body) m e

module _ (m : Book) (n q : ℕ) where
  pub cut_unknown : find_in m.orders n ≡ None → Went (Err UnknownOrder) (cut_answer m n q) m (cut_after m n q)
  unfolding cut_answer cut_after
  cut_unknown e = went (Err UnknownOrder) _ (cut m n q) m (sym (ap (λ o. cut_judged o q) e))

  pub cut_none : (o : Order) → find_in m.orders n ≡ Some o → q ≡ 0 → Went (Err CutRange) (cut_answer m n q) m (cut_after m n q)
  unfolding cut_answer cut_after
  cut_none o e zero = let t = or_left (eqb q 0) (ltb o.quantity q) (eq-eqb q 0 zero) in went (Err CutRange) _ (cut m n q) m (sym (ap (λ x. cut_judged x q) e ∙ rw t))

  pub cut_over : (o : Order) → find_in m.orders n ≡ Some o → o.quantity < q → Went (Err CutRange) (cut_answer m n q) m (cut_after m n q)
  unfolding cut_answer cut_after
  cut_over o e over = let t = or_right (eqb q 0) (ltb o.quantity q) (lt-ltb o.quantity q over) in went (Err CutRange) _ (cut m n q) m (sym (ap (λ x. cut_judged x q) e ∙ rw t))

  pub cut_taken : (o : Order) → find_in m.orders n ≡ Some o → (q ≡ 0 → ⊥) → q ≤ o.quantity → Went (Ok tt) (cut_answer m n q) (cut m n q) (cut_after m n q)
  unfolding cut_answer cut_after
  cut_taken o e some held = let t = or_from (eqb q 0) (ltb o.quantity q) (ne_eqb q 0 some) (le-ltb o.quantity q held) in went (Ok tt) _ (cut m n q) m (sym (ap (λ x. cut_judged x q) e ∙ rw t))
