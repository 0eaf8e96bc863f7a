-- On each side what is entered is cut, withdrawn, traded or rests, over every list of calls from a fresh book. Assumes nothing.
use Rattle.std.proofs.Common.{◌≡◌, ℕ, ◌+◌, ◌-◌, ◌<◌, ◌≤◌, Bool, true, false, cond, ◌||◌, eqb, ltb, List, [], ◌∷◌, length, IfOk, Some, None, Ok, Err, Option, Result, sym, refl, ap, ◌∙◌, subst, arith}
use Rattle.std.proofs.lemmas.Bool.{eq-eqb, ne_eqb, le-leb, cond-true, cond-false, cond_both, ltb-false, or_parts}
use Rattle.note.specs.declared.trades.Trade.{Trade}
use Rattle.session.specs.declared.refusals.SessionRefusal.{SessionRefusal}
use Rattle.session.specs.declared.refusals.SessionRefusal.TheVariants.{RegisterShort}
use Rattle.book.specs.declared.orders.Side.{Side}
use Rattle.book.specs.declared.refusals.BookRefusal.{BookRefusal}
use Rattle.book.specs.declared.refusals.BookRefusal.TheVariants.{Full, NumbersSpent, CutRange}
use Rattle.book.specs.Meaning.{Book, Order, rising, enter_answer, with_order, find_in, found, cut_answer, cut_judged, cut}
use Rattle.book.proofs.Listing.{rising_cut, rising_push, rising_apart}
use Rattle.rules.specs.Schedule.{Schedule, offered, volume}
use Rattle.rules.specs.Literal.{equilibrium}
use Rattle.rules.specs.Rivals.{total, traded}
use Rattle.rules.specs.Trades.{trades_at, after_trades, counted, resting}
use Rattle.rules.specs.Holding.{Fits}
use Rattle.rules.proofs.Sums.{each_all}
use Rattle.rules.proofs.Cutting.{cut_rest}
use Rattle.rules.proofs.Fitting.{trades_rest, trades_stand}
use Rattle.price.specs.declared.indications.Indication.{Indication}
use Rattle.price.specs.Indications.{heading, indication_answer}
use Rattle.trading.specs.declared.calls.Call.{Call}
use Rattle.trading.specs.declared.calls.Call.TheVariants.{Entry, Cut, Withdrawal, Indication as AskIndication, Uncrossing}
use Rattle.trading.specs.declared.refusals.Refusal.{Refusal}
use Rattle.trading.specs.declared.refusals.Refusal.TheVariants.{Session as OfSession}
use Rattle.trading.specs.Replies.{Reply, uncrossed, refused, Outcome, entry_limit, entry_by_book, entry_by_session, cut_by_book, withdrawal_of, indication_of, crossing_of, uncrossing_at, outcome, replies, after_all}
use Rattle.trading.specs.Law.{Entered, entry, new_entry, first_of, entry_of, of_entry, rest_of, entered_by, cut_by, traded_by, withdrawn_by, taken_by, sum_of, withdrawn_sum, taken_total, Conserved, Fresh}
use Rattle.trading.proofs.Knowing.{Entries, Known, entered_as, known_as, same_zero, known_cut, known_gone, found_known, found_le, rising_trades, known_trades, traded_above, resting_more, known_more}

-- The book m, with the entries f and what was taken from each.
record Stands (f : Entries) (u : ℕ → ℕ) (m : Book) : Type 0 where
  known : Known f u m.orders
  rises : rising 0 m.orders m.last ≡ true
  unused : (k : ℕ) → m.last < k → u k ≡ 0

stands_as : (f : Entries) (u w : ℕ → ℕ) (m : Book) → ((k : ℕ) → u k ≡ w k) → Stands f u m → Stands f w m
stands_as f u w m e h = record {
  known = known_as f u w m.orders (each_all _ (λ o. e o.number) m.orders) h.known;
  rises = h.rises;
  unused = λ k lt. sym (e k) ∙ h.unused k lt;
}

-- f has the entry that a call makes
abbrev Has : Entries → Option Entered → Type 0
Has f None = Unit {0}
Has f (Some e) = f e.number ≡ Some e

-- One call, so answered, that leaves m'.
record Kept (f : Entries) (u : ℕ → ℕ) (m : Book) (c : Call) (o : Outcome) : Type 0 where
  sums : (s : Side) → entered_by s c o.reply + resting s m.orders ≡ cut_by s f c o.reply + withdrawn_by s f u c o.reply + traded_by c o.reply + resting s o.after.orders
  stands : Stands f (λ k. u k + taken_by c o.reply k) o.after

none_traded : (k : ℕ) → traded [] k ≡ 0
unfolding traded
none_traded k = refl

none_total : total [] ≡ 0
unfolding total
none_total = refl

-- a refusal
refused_kept : (f : Entries) (u : ℕ → ℕ) (m : Book) (c : Call) (why : Refusal) → Stands f u m → Kept f u m c (record { reply = refused why; after = m })
refused_kept f u m (Entry side quantity price) why h = record { sums = λ s. omega arith; stands = stands_as f u _ m (λ k. omega arith) h }
refused_kept f u m (Cut number quantity) why h = record { sums = λ s. omega arith; stands = stands_as f u _ m (λ k. omega arith) h }
refused_kept f u m (Withdrawal number) why h = record { sums = λ s. omega arith; stands = stands_as f u _ m (λ k. omega arith) h }
refused_kept f u m AskIndication why h = record { sums = λ s. omega arith; stands = stands_as f u _ m (λ k. omega arith) h }
refused_kept f u m Uncrossing why h = record { sums = λ s. omega (arith, none_total); stands = stands_as f u _ m (λ k. omega (arith, none_traded k)) h }

-- An entry.

number_at : (n : ℕ) (full spent : Bool) → IfOk (cond {A = Result ℕ BookRefusal} full (Err Full) (cond spent (Err NumbersSpent) (Ok n))) (λ k. k ≡ n)
number_at n true spent = tt
number_at n false true = tt
number_at n false false = refl

enter_number : (m : Book) → IfOk (enter_answer m) (λ k. k ≡ m.last + 1)
unfolding enter_answer
enter_number m = number_at (m.last + 1) (eqb (length m.orders) m.places) (eqb m.last 60000)

book_kept : (f : Entries) (u : ℕ → ℕ) (m : Book) (side : Side) (limit quantity price : ℕ) (r : Result ℕ BookRefusal) → IfOk r (λ n. n ≡ m.last + 1) → Stands f u m → Has f (new_entry (Entry side quantity price) (entry_by_book m side limit quantity r).reply) → Kept f u m (Entry side quantity price) (entry_by_book m side limit quantity r)
book_kept f u m side limit quantity price (Err why) e h a = refused_kept f u m (Entry side quantity price) _ h
book_kept f u m side limit quantity price (Ok n) e h a =
    let o : Order = record { number = m.last + 1; side = side; limit = limit; quantity = quantity } in
    let has : f (m.last + 1) ≡ Some (entered_as o quantity) = subst (λ k. f k ≡ Some (record { number = k; side = side; quantity = quantity })) e a in
    let next : Stands f u (with_order m side limit quantity) = record {
      known = known_more f u m.orders o h.known has (h.unused (m.last + 1) (omega arith));
      rises = rising_push 0 m.orders m.last o h.rises (omega arith);
      unused = λ k lt. h.unused k (omega arith);
    } in
    record {
      sums = λ s.
          let all = resting_more s m.orders o in
          let same = ap (counted s side) (let zero_less : quantity - 0 ≡ quantity = omega arith in zero_less) in
          omega arith;
      stands = stands_as f u _ (with_order m side limit quantity) (λ k. omega arith) next;
    }

session_kept : (f : Entries) (u : ℕ → ℕ) (m : Book) (side : Side) (quantity price : ℕ) (r : Result ℕ SessionRefusal) → Stands f u m → Has f (new_entry (Entry side quantity price) (entry_by_session m side quantity r).reply) → Kept f u m (Entry side quantity price) (entry_by_session m side quantity r)
session_kept f u m side quantity price (Err why) h a = refused_kept f u m (Entry side quantity price) _ h
session_kept f u m side quantity price (Ok limit) h a = book_kept f u m side limit quantity price (enter_answer m) (enter_number m) h a

-- A cut.

-- an order of the number n is live, and holds q
record Held (os : List Order) (n q : ℕ) : Type 0 where
  order : Order
  found : find_in os n ≡ Some order
  enough : q ≤ order.quantity

held_at : (os : List Order) (n q : ℕ) (o : Order) (bad : Bool) → find_in os n ≡ Some o → (bad ≡ false → q ≤ o.quantity) → IfOk (cond {A = Result (Unit {0}) BookRefusal} bad (Err CutRange) (Ok tt)) (λ _. Held os n q)
held_at os n q o true found enough = tt
held_at os n q o false found enough = record { order = o; found = found; enough = enough refl }

held_in : (os : List Order) (n q : ℕ) (o : Option Order) → find_in os n ≡ o → IfOk (cut_judged o q) (λ _. Held os n q)
held_in os n q None e = tt
held_in os n q (Some o) e = held_at os n q o (eqb q 0 || ltb o.quantity q) e (λ ok. ltb-false o.quantity q (or_parts (eqb q 0) (ltb o.quantity q) ok).1)

cut_held : (m : Book) (n q : ℕ) → IfOk (cut_answer m n q) (λ _. Held m.orders n q)
unfolding cut_answer
cut_held m n q = held_in m.orders n q (find_in m.orders n) refl

cut_kept : (f : Entries) (u : ℕ → ℕ) (m : Book) (n q : ℕ) (r : Result (Unit {0}) BookRefusal) → IfOk r (λ _. Held m.orders n q) → Stands f u m → Kept f u m (Cut n q) (cut_by_book m n q r)
cut_kept f u m n q (Err why) d h = refused_kept f u m (Cut n q) _ h
cut_kept f u m n q (Ok x) d h =
    let known = found_known f u m.orders n d.order d.found h.known in
    let le = found_le m.orders m.last n d.order h.rises d.found in
    record {
      sums = λ s. let count = ap (λ e. of_entry s e q) known in let rest = cut_rest s m.orders n q d.order d.found d.enough in omega arith;
      stands = record {
        known = known_cut f u m.orders n q d.order (rising_apart 0 m.orders m.last h.rises) d.found d.enough h.known;
        rises = rising_cut 0 m.orders m.last n q h.rises;
        unused = λ k lt. let z = h.unused k lt in let y = same_zero n k q (λ e. omega arith) in omega arith;
      };
    }

-- A withdrawal.

withdrawal_kept : (f : Entries) (u : ℕ → ℕ) (m : Book) (n : ℕ) (r : Option Order) → find_in m.orders n ≡ r → Stands f u m → Kept f u m (Withdrawal n) (withdrawal_of m n r)
withdrawal_kept f u m n None e h = refused_kept f u m (Withdrawal n) _ h
withdrawal_kept f u m n (Some o) e h =
    let known = found_known f u m.orders n o e h.known in
    let next : Stands f u (cut m n o.quantity) = record {
      known = known_gone f u m.orders n o e h.known;
      rises = rising_cut 0 m.orders m.last n o.quantity h.rises;
      unused = h.unused;
    } in
    record {
      sums = λ s.
          let count = ap (λ x. rest_of s x (u n)) known in
          let all : o.quantity + u n - u n ≡ o.quantity = omega arith in
          let same = ap (counted s o.side) all in
          let rest = cut_rest s m.orders n o.quantity o e (omega arith) in
          omega arith;
      stands = stands_as f u _ (cut m n o.quantity) (λ k. omega arith) next;
    }

-- An indication.

indication_kept : (f : Entries) (u : ℕ → ℕ) (m : Book) (r : Result Indication SessionRefusal) → Stands f u m → Kept f u m AskIndication (indication_of m r)
indication_kept f u m (Ok told) h = record { sums = λ s. omega arith; stands = stands_as f u _ m (λ k. omega arith) h }
indication_kept f u m (Err why) h = refused_kept f u m AskIndication _ h

-- An uncrossing.

crossing_kept : (f : Entries) (u : ℕ → ℕ) (m : Book) (places : ℕ) (told : Indication) (ts : List Trade) → Fits m.orders ts → Stands f u m → Kept f u m Uncrossing (crossing_of m places told ts)
crossing_kept f u m places told ts fit h = by (ltb places (length ts))
  where
    by : (few : Bool) → Kept f u m Uncrossing (cond few (record { reply = refused (OfSession RegisterShort); after = m }) (record { reply = uncrossed told ts; after = record { places = m.places; last = m.last; orders = after_trades m.orders ts } }))
    by true = refused_kept f u m Uncrossing _ h
    by false = record {
      sums = λ s. let rest = trades_rest s m.orders ts fit in omega arith;
      stands = record {
        known = known_trades f u m.orders ts (rising_apart 0 m.orders m.last h.rises) fit h.known;
        rises = rising_trades m.orders m.last ts h.rises;
        unused = λ k lt. let z = h.unused k lt in let y = traded_above m.orders m.last ts k h.rises fit lt in omega arith;
      };
    }

uncrossing_kept : (f : Entries) (u : ℕ → ℕ) (tick scarcity places : ℕ) (m : Book) (r : Option ℕ) → Stands f u m → Kept f u m Uncrossing (uncrossing_at tick places m (offered m tick scarcity) r)
uncrossing_kept f u tick scarcity places m None h = refused_kept f u m Uncrossing _ h
uncrossing_kept f u tick scarcity places m (Some p) h =
    let v = volume (offered m tick scarcity) p in
    let stands = trades_stand p v m.orders (rising_apart 0 m.orders m.last h.rises) (omega arith) (omega arith) in
    crossing_kept f u m places (heading tick (offered m tick scarcity) p) (trades_at v m.orders) stands.fits h

-- Numbers: an entry gets the one behind the last, and the last never falls.

abbrev Numbered : Book → Book → Option Entered → Type 0
Numbered m m' None = m.last ≤ m'.last
Numbered m m' (Some e) = (e.number ≡ m.last + 1) × (m'.last ≡ m.last + 1)

last_le : (m m' : Book) (o : Option Entered) → Numbered m m' o → m.last ≤ m'.last
last_le m m' None h = h
last_le m m' (Some e) h = omega (arith, h.1)

book_numbered : (m : Book) (side : Side) (limit quantity : ℕ) (r : Result ℕ BookRefusal) → IfOk r (λ n. n ≡ m.last + 1) → Numbered m (entry_by_book m side limit quantity r).after (entry side quantity (entry_by_book m side limit quantity r).reply)
book_numbered m side limit quantity (Ok n) e = (e, refl)
book_numbered m side limit quantity (Err why) e = omega arith

entry_numbered : (m : Book) (side : Side) (quantity : ℕ) (r : Result ℕ SessionRefusal) → Numbered m (entry_by_session m side quantity r).after (entry side quantity (entry_by_session m side quantity r).reply)
entry_numbered m side quantity (Ok limit) = book_numbered m side limit quantity (enter_answer m) (enter_number m)
entry_numbered m side quantity (Err why) = omega arith

cut_numbered : (m : Book) (n q : ℕ) (r : Result (Unit {0}) BookRefusal) → m.last ≤ (cut_by_book m n q r).after.last
cut_numbered m n q (Ok x) = omega arith
cut_numbered m n q (Err why) = omega arith

withdrawal_numbered : (m : Book) (n : ℕ) (r : Option Order) → m.last ≤ (withdrawal_of m n r).after.last
withdrawal_numbered m n None = omega arith
withdrawal_numbered m n (Some o) = omega arith

indication_numbered : (m : Book) (r : Result Indication SessionRefusal) → m.last ≤ (indication_of m r).after.last
indication_numbered m (Ok told) = omega arith
indication_numbered m (Err why) = omega arith

crossing_numbered : (m : Book) (places : ℕ) (told : Indication) (ts : List Trade) → m.last ≤ (crossing_of m places told ts).after.last
crossing_numbered m places told ts = cond_both (ltb places (length ts)) _ _ (λ (o : Outcome). m.last ≤ o.after.last) (λ _. omega arith) (λ _. omega arith)

uncrossing_numbered : (tick places : ℕ) (m : Book) (k : Schedule) (r : Option ℕ) → m.last ≤ (uncrossing_at tick places m k r).after.last
uncrossing_numbered tick places m k None = omega arith
uncrossing_numbered tick places m k (Some p) = crossing_numbered m places (heading tick k p) (trades_at (volume k p) m.orders)

has_from : (f h : Entries) (m m' : Book) (o : Option Entered) → Numbered m m' o → ((k : ℕ) → m.last < k → f k ≡ h k) → Has h o → Has f o
has_from f h m m' None new same a = tt
has_from f h m m' (Some e) new same a = same e.number (omega (arith, new.0)) ∙ a

has_own : (h : Entries) (o : Option Entered) → Has (λ k. first_of o k (h k)) o
has_own h None = tt
has_own h (Some e) = cond-true (eqb e.number e.number) (Some e) _ (eq-eqb _ _ refl)

-- a later number is not that of the entry
later_known : (m m' : Book) (o : Option Entered) (k : ℕ) (later : Option Entered) → Numbered m m' o → m'.last < k → first_of o k later ≡ later
later_known m m' None k later new lt = refl
later_known m m' (Some e) k later new lt = cond-false (eqb e.number k) (Some e) later (ne_eqb _ _ (λ same. omega (arith, new.0, new.1)))

module _ (tick scarcity places : ℕ) where
  step_kept : (f : Entries) (u : ℕ → ℕ) (m : Book) (c : Call) → Stands f u m → Has f (new_entry c (outcome tick scarcity places m c).reply) → Kept f u m c (outcome tick scarcity places m c)
  unfolding outcome
  step_kept f u m (Entry side quantity price) h a = session_kept f u m side quantity price (entry_limit tick quantity price) h a
  step_kept f u m (Cut number quantity) h a = cut_kept f u m number quantity (cut_answer m number quantity) (cut_held m number quantity) h
  step_kept f u m (Withdrawal number) h a = withdrawal_kept f u m number (found m number) refl h
  step_kept f u m AskIndication h a = indication_kept f u m (indication_answer m tick scarcity) h
  step_kept f u m Uncrossing h a = uncrossing_kept f u tick scarcity places m (equilibrium (offered m tick scarcity)) h

  -- All calls.

  abbrev HasAll : Entries → List Call → List Reply → Type 0
  HasAll f [] rs = Unit {0}
  HasAll f (c ∷ cs) [] = Unit {0}
  HasAll f (c ∷ cs) (r ∷ rs) = Has f (new_entry c r) × HasAll f cs rs

  record AllKept (f : Entries) (u : ℕ → ℕ) (m : Book) (cs : List Call) (rs : List Reply) (m' : Book) : Type 0 where
    sums : (s : Side) → sum_of (entered_by s) cs rs + resting s m.orders ≡ sum_of (cut_by s f) cs rs + withdrawn_sum s f u cs rs + sum_of traded_by cs rs + resting s m'.orders
    stands : Stands f (λ k. u k + taken_total cs rs k) m'

  run_kept : (f : Entries) (u : ℕ → ℕ) (m : Book) (cs : List Call) → Stands f u m → HasAll f cs (replies tick scarcity places m cs) → AllKept f u m cs (replies tick scarcity places m cs) (after_all tick scarcity places m cs)
  unfolding replies after_all sum_of withdrawn_sum
  run_kept f u m [] h a = record { sums = λ s. omega arith; stands = stands_as f u _ m (λ k. omega arith) h }
  run_kept f u m (c ∷ cs) h a =
      let o = outcome tick scarcity places m c in
      let one = step_kept f u m c h a.0 in
      let rest = run_kept f (λ k. u k + taken_by c o.reply k) o.after cs one.stands a.1 in
      record {
        sums = λ s. let x = one.sums s in let y = rest.sums s in omega arith;
        stands = stands_as f _ _ _ (λ k. omega arith) rest.stands;
      }

  -- The entries of a run are those that it gives out, since its numbers rise.

  numbered : (m : Book) (c : Call) → Numbered m (outcome tick scarcity places m c).after (new_entry c (outcome tick scarcity places m c).reply)
  unfolding outcome
  numbered m (Entry side quantity price) = entry_numbered m side quantity (entry_limit tick quantity price)
  numbered m (Cut number quantity) = cut_numbered m number quantity (cut_answer m number quantity)
  numbered m (Withdrawal number) = withdrawal_numbered m number (found m number)
  numbered m AskIndication = indication_numbered m (indication_answer m tick scarcity)
  numbered m Uncrossing = uncrossing_numbered tick places m (offered m tick scarcity) (equilibrium (offered m tick scarcity))

  has_all : (f h : Entries) (m : Book) (cs : List Call) → ((k : ℕ) → m.last < k → f k ≡ h k) → HasAll h cs (replies tick scarcity places m cs) → HasAll f cs (replies tick scarcity places m cs)
  unfolding replies
  has_all f h m [] same a = tt
  has_all f h m (c ∷ cs) same a =
      let o = outcome tick scarcity places m c in
      let new = numbered m c in (
        has_from f h m o.after (new_entry c o.reply) new same a.0,
        has_all f h o.after cs (λ k lt. same k (omega (arith, last_le m o.after (new_entry c o.reply) new))) a.1,
      )

  entries_agree : (m : Book) (cs : List Call) → HasAll (entry_of cs (replies tick scarcity places m cs)) cs (replies tick scarcity places m cs)
  unfolding replies entry_of
  entries_agree m [] = tt
  entries_agree m (c ∷ cs) =
      let o = outcome tick scarcity places m c in
      let later = entry_of cs (replies tick scarcity places o.after cs) in
      let e = new_entry c o.reply in
      (has_own later e, has_all _ later o.after cs (λ k lt. later_known m o.after e k (later k) (numbered m c) lt) (entries_agree o.after cs))

  pub conserved : (m : Book) (cs : List Call) → Fresh m → Conserved cs (replies tick scarcity places m cs) (after_all tick scarcity places m cs).orders
  unfolding resting rising
  conserved m cs fresh =
      let rs = replies tick scarcity places m cs in
      let f = entry_of cs rs in
      let start : Stands f (λ k. 0) m = record {
        known = subst (Known f (λ k. 0)) (sym fresh.empty) tt;
        rises = subst (λ os. rising 0 os m.last ≡ true) (sym fresh.empty) (le-leb 0 m.last (omega arith));
        unused = λ k lt. refl;
      } in
      let all = run_kept f (λ k. 0) m cs start (entries_agree m cs) in
      record {
        live = known_as f _ _ _ (each_all _ (λ o. omega arith) _) all.stands.known;
        sums = λ s. let none : resting s m.orders ≡ 0 = ap (resting s) fresh.empty in let sums = all.sums s in omega arith;
      }
