-- What an entry and a cut keep of a table. Assumes nothing.
use Rattle.std.proofs.Common.{◌≡◌, ℕ, ◌+◌, ◌≤◌, true, cond, List, [], ◌∷◌, ◌++◌, length, is_ok, Ok, Err, Result, refl, ap, ◌∙◌, arith, length-append}
use lib.ListN.{length-map}
use Rattle.table.specs.declared.row.Row.{Row}
use Rattle.book.specs.declared.refusals.BookRefusal.{BookRefusal}
use Rattle.book.specs.Meaning.{Order, Book, rising, find_in, cut, cut_in, cut_judged, cut_answer, cut_after, unless_refused}
use Rattle.book.proofs.Listing.{rising_cut, length_cut}
use Rattle.book.proofs.Makes.{Went}
use Rattle.table.specs.Tables.{orders_of}

pub pushed_length : (run run' : List Row) (o : Order) → orders_of run' ≡ orders_of run ++ o ∷ [] → length run' ≡ length run + 1
pushed_length run run' o e =
    let before : length (orders_of run) ≡ length run = simp length-map refl in
    let after : length (orders_of run') ≡ length run' = simp length-map refl in
    omega (arith, before, after, ap length e, length-append (orders_of run) (o ∷ []))

cut_length : (os : List Order) (n q : ℕ) (r : Result (Unit {0}) BookRefusal) → length (cond (is_ok r) (cut_in os n q) os) ≤ length os
cut_length os n q (Ok u) = length_cut n q os
cut_length os n q (Err why) = omega arith

pub cut_fits : (places a b : ℕ) (run run' : List Row) (n q : ℕ) (r : Result (Unit {0}) BookRefusal) → a ≡ length run → b ≡ length run' → a ≤ places → orders_of run' ≡ cond (is_ok r) (cut_in (orders_of run) n q) (orders_of run) → b ≤ places
cut_fits places a b run run' n q r ea eb fits e =
    let before : length (orders_of run) ≡ length run = simp length-map refl in
    let after : length (orders_of run') ≡ length run' = simp length-map refl in
    omega (arith, before, after, ap length e, cut_length (orders_of run) n q r)

pub cut_rises : (last : ℕ) (os os' : List Order) (n q : ℕ) (r : Result (Unit {0}) BookRefusal) → rising 0 os last ≡ true → os' ≡ cond (is_ok r) (cut_in os n q) os → rising 0 os' last ≡ true
cut_rises last os os' n q (Ok u) h e = ap (λ l. rising 0 l last) e ∙ rising_cut 0 os last n q h
cut_rises last os os' n q (Err why) h e = ap (λ l. rising 0 l last) e ∙ h

pub cut_went : (places last : ℕ) (os os' : List Order) (n q : ℕ) (r : Result (Unit {0}) BookRefusal) → r ≡ cut_judged (find_in os n) q → os' ≡ cond (is_ok r) (cut_in os n q) os → let m : Book = record { places = places; last = last; orders = os } in let m' : Book = record { places = places; last = last; orders = os' } in Went r (cut_answer m n q) m' (cut_after m n q)
unfolding cut_answer cut_after
cut_went places last os os' n q r answer orders =
    let m : Book = record { places = places; last = last; orders = os } in
    record { answer = answer; after = ap (λ l. record { places = places; last = last; orders = l }) orders ∙ by r ∙ ap (λ x. unless_refused x (cut m n q) m) answer } where
      by : (r₀ : Result (Unit {0}) BookRefusal) → let m : Book = record { places = places; last = last; orders = os } in ◌≡◌ {A = Book} (record { places = places; last = last; orders = cond (is_ok r₀) (cut_in os n q) os }) (unless_refused r₀ (cut m n q) m)
      by (Ok u) = refl
      by (Err why) = refl

-- A table with no orders.
pub none_rises : rising 0 [] 0 ≡ true
unfolding rising
none_rises = refl
