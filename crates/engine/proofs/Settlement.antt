-- The loop that cuts the trades, and the whole uncrossing. Assumes nothing.
use Rattle.std.proofs.Common.{◌≡◌, ℕ, zero, suc, ◌+◌, ◌-◌, ◌<◌, ◌≤◌, ltb, List, [], ◌∷◌, length, get_or, take, drop, Some, None, Ok, Err, Option, sym, refl, ap, ◌∙◌, subst, add-one, arith, drop-cons}
use lib.Seq.{drop-length, take-append_seam}
use Rattle.std.proofs.lemmas.Bool.{lt-ltb, le-ltb, cond-true, cond-false}
use Rattle.note.specs.declared.trades.Trade.{Trade}
use Rattle.session.specs.declared.refusals.SessionRefusal.{SessionRefusal}
use Rattle.session.specs.declared.refusals.SessionRefusal.TheVariants.{NoVolume, RegisterShort}
use Rattle.book.specs.declared.orders.Side.{Side}
use Rattle.book.specs.declared.orders.Side.TheVariants.{Buy, Sell}
use Rattle.book.specs.Meaning.{Book, Order, Sound, cut_after, cut}
use Rattle.book.proofs.Listing.{rising_apart}
use Rattle.book.proofs.Makes.{cut_taken}
use Rattle.rules.specs.Schedule.{offered}
use Rattle.rules.specs.Literal.{equilibrium}
use Rattle.rules.specs.Trades.{trades_at, settle, after_trades}
use Rattle.rules.specs.Holding.{Holds, Cuttable}
use Rattle.rules.proofs.Fitting.{second_holds, trades_stand}
use Rattle.price.specs.declared.indications.Indication.{Indication}
use Rattle.price.specs.Indications.{heading, indication_answer, told}
use Rattle.trading.specs.declared.calls.Call.TheVariants.{Uncrossing}
use Rattle.trading.specs.declared.refusals.Refusal.TheVariants.{Session as OfSession}
use Rattle.trading.specs.Replies.{Reply, uncrossed, refused, Outcome, refusal, settled, crossing_of, uncrossing_at, outcome, trades_of, written}

get_d_default : (ts : List Trade) (i : ℕ) (d e : Trade) → i < length ts → get_or ts i d ≡ get_or ts i e
get_d_default [] i d e lt = absurd (omega arith)
get_d_default (t ∷ ts) zero d e lt = refl
get_d_default (t ∷ ts) (suc i) d e lt = get_d_default ts i d e (omega arith)

cut_holds : (s : Side) (m : Book) (n q : ℕ) → Holds s m.orders n q → 0 < q → cut_after m n q ≡ cut m n q
cut_holds s m n q h lt = sym (cut_taken m n q h.order h.found (λ e. omega arith) h.enough).after

-- one trade, cut from both
both_cut : (m : Book) (t : Trade) → Holds Buy m.orders t.buy t.quantity → Holds Sell m.orders t.sell t.quantity → 0 < t.quantity
    → cut_after (cut_after m t.buy t.quantity) t.sell t.quantity ≡ record { places = m.places; last = m.last; orders = settle m.orders t }
both_cut m t b s lt =
    ap (λ x. cut_after x t.sell t.quantity) (cut_holds Buy m t.buy t.quantity b lt)
    ∙ cut_holds Sell (cut m t.buy t.quantity) t.sell t.quantity (second_holds m.orders t b s) lt

-- the first i trades are cut
pub record Settling (m₀ : Book) (ts : List Trade) (m : Book) (i : ℕ) : Type 0 where
  pub cuttable : Cuttable m.orders (drop i ts)
  pub rest : settled m (drop i ts) ≡ settled m₀ ts

pub settling_starts : (m : Book) (ts : List Trade) → Cuttable m.orders ts → Settling m ts m 0
settling_starts m ts h = record { cuttable = h; rest = refl }

settling_at : (m₀ : Book) (ts : List Trade) (m m' : Book) (t : Trade) (us : List Trade) → Cuttable m.orders (t ∷ us) → settled m (t ∷ us) ≡ settled m₀ ts
    → m' ≡ record { places = m.places; last = m.last; orders = settle m.orders t } → Cuttable m'.orders us × (settled m' us ≡ settled m₀ ts)
unfolding after_trades
settling_at m₀ ts m m' t us h e is =
    let P : Book → Type 0 = λ x. Cuttable x.orders us × (settled x us ≡ settled m₀ ts) in
    subst P (sym is) ((h.0.2, h.1.1), e)

pub settling_more : (m₀ : Book) (ts : List Trade) (m : Book) (i : ℕ) (t : Trade) → i < length ts → t ≡ get_or ts i t → Settling m₀ ts m i
    → Settling m₀ ts (cut_after (cut_after m t.buy t.quantity) t.sell t.quantity) (i + 1)
settling_more m₀ ts m i t lt is h =
    let d : drop i ts ≡ t ∷ drop (i + 1) ts = drop-cons ts i t lt ∙ ap (λ x. x ∷ drop (suc i) ts) (sym is) ∙ ap (λ k. t ∷ drop k ts) (sym (add-one i)) in
    let c = subst (λ us. Cuttable m.orders us) d h.cuttable in
    let e = subst (λ us. settled m us ≡ settled m₀ ts) d h.rest in
    let all = settling_at m₀ ts m _ t (drop (i + 1) ts) c e (both_cut m t c.0.0 c.0.1 c.1.0) in
    record { cuttable = all.0; rest = all.1 }

pub settling_ends : (m₀ : Book) (ts : List Trade) (m : Book) (i : ℕ) → i ≡ length ts → Settling m₀ ts m i → m ≡ settled m₀ ts
unfolding after_trades
settling_ends m₀ ts m i e h =
    let none : drop i ts ≡ [] = ap (λ k. drop k ts) e ∙ drop-length ts in
    subst (λ us. settled m us ≡ settled m₀ ts) none h.rest

written_front : (ts xs : List Trade) → take (length ts) (written ts xs) ≡ ts
written_front ts xs = take-append_seam ts (drop (length ts) xs)

-- One trade of the slice, read at any default, and cut in two steps.
pub settling_next : (m₀ : Book) (ts : List Trade) (m m₁ m₂ : Book) (i : ℕ) (d : Trade) (b s : ℕ) → i < length ts → b ≡ (get_or ts i d).buy → s ≡ (get_or ts i d).sell
    → m₁ ≡ cut_after m b (get_or ts i d).quantity → m₂ ≡ cut_after m₁ s (get_or ts i d).quantity → Settling m₀ ts m i → Settling m₀ ts m₂ (i + 1)
settling_next m₀ ts m m₁ m₂ i d b s lt eb es e₁ e₂ h =
    let t = get_or ts i d in
    let two : m₂ ≡ cut_after (cut_after m t.buy t.quantity) t.sell t.quantity =
    e₂ ∙ ap (λ k. cut_after m₁ k t.quantity) es ∙ ap (λ x. cut_after x t.sell t.quantity) (e₁ ∙ ap (λ k. cut_after m k t.quantity) eb) in
    subst (λ x. Settling m₀ ts x (i + 1)) (sym two) (settling_more m₀ ts m i t lt (get_d_default ts i d t lt) h)

written_take : (ts xs ys : List Trade) (n : ℕ) → n ≡ length ts → ys ≡ written ts xs → take (n - 0) ys ≡ ts
written_take ts xs ys n e w =
    let same : n - 0 ≡ length ts = omega arith in
    ap (λ k. take k ys) same ∙ ap (take (length ts)) w ∙ written_front ts xs

pub written_cuttable : (os : List Order) (ts xs ys : List Trade) (n : ℕ) → n ≡ length ts → ys ≡ written ts xs → Cuttable os ts → Cuttable os (take (n - 0) ys)
written_cuttable os ts xs ys n e w h = subst (λ us. Cuttable os us) (sym (written_take ts xs ys n e w)) h

-- The whole uncrossing.

-- an indication that was given is of a price at which so much is bought and sold
pub record Found (m : Book) (tick scarcity : ℕ) (i : Indication) : Type 0 where
  pub price : ℕ
  pub chosen : equilibrium (offered m tick scarcity) ≡ Some price
  pub heading_is : i ≡ heading tick (offered m tick scarcity) price

found_at : (m : Book) (tick scarcity : ℕ) (i : Indication) (r : Option ℕ) → equilibrium (offered m tick scarcity) ≡ r → Ok i ≡ told tick (offered m tick scarcity) r → Found m tick scarcity i
found_at m tick scarcity i None e h = let z : ◌≡◌ {A = ℕ} 0 1 = cc in absurd (omega arith)
found_at m tick scarcity i (Some p) e h = record { price = p; chosen = e; heading_is = cc }

pub found : (m : Book) (tick scarcity : ℕ) (i : Indication) → Ok i ≡ indication_answer m tick scarcity → Found m tick scarcity i
found m tick scarcity i h = found_at m tick scarcity i (equilibrium (offered m tick scarcity)) refl h

module _ (m : Book) (tick scarcity places : ℕ) (i : Indication) (f : Found m tick scarcity i) where
  -- the trades of its volume can be cut
  pub volume_cuttable : Sound m → Cuttable m.orders (trades_at i.volume m.orders)
  volume_cuttable w =
      let is = ap (λ (x : Indication). x.volume) f.heading_is in
      let k = offered m tick scarcity in
      let all = trades_stand f.price i.volume m.orders (rising_apart 0 m.orders m.last w.rises) (omega arith) (omega arith) in
      (all.fits, all.some)

  -- the outcome goes by the count of its trades
  outcome_is : outcome tick scarcity places m Uncrossing ≡ crossing_of m places i (trades_at i.volume m.orders)
  unfolding outcome
  outcome_is =
      ap (uncrossing_at tick places m (offered m tick scarcity)) f.chosen
      ∙ sym (ap (λ (x : Indication). crossing_of m places x (trades_at x.volume m.orders)) f.heading_is)

  pub outcome_short : places < length (trades_at i.volume m.orders) → outcome tick scarcity places m Uncrossing ≡ refusal m (OfSession RegisterShort)
  outcome_short lt = outcome_is ∙ cond-true (ltb places (length (trades_at i.volume m.orders))) _ _ (lt-ltb places (length (trades_at i.volume m.orders)) lt)

  pub outcome_done : length (trades_at i.volume m.orders) ≤ places → outcome tick scarcity places m Uncrossing ≡ record { reply = uncrossed i (trades_at i.volume m.orders); after = settled m (trades_at i.volume m.orders) }
  outcome_done le = outcome_is ∙ cond-false (ltb places (length (trades_at i.volume m.orders))) _ _ (le-ltb places (length (trades_at i.volume m.orders)) le)

none_at : (m : Book) (tick scarcity places : ℕ) (why : SessionRefusal) (r : Option ℕ) → Err why ≡ told tick (offered m tick scarcity) r → uncrossing_at tick places m (offered m tick scarcity) r ≡ refusal m (OfSession why)
none_at m tick scarcity places why None h = let same : NoVolume ≡ why = cc in ap (λ x. refusal m (OfSession x)) same
none_at m tick scarcity places why (Some p) h = let z : ◌≡◌ {A = ℕ} 0 1 = cc in absurd (omega arith)

-- where no indication is given, nothing is done
pub outcome_none : (m : Book) (tick scarcity places : ℕ) (why : SessionRefusal) → Err why ≡ indication_answer m tick scarcity → outcome tick scarcity places m Uncrossing ≡ refusal m (OfSession why)
unfolding outcome
outcome_none m tick scarcity places why h = none_at m tick scarcity places why (equilibrium (offered m tick scarcity)) h

-- What an outcome says of the reply, the book and the register.
pub record Crossed (o : Outcome) (reply : Reply) (m' : Book) (xs ys : List Trade) : Type 0 where
  pub answer : reply ≡ o.reply
  pub after : m' ≡ o.after
  pub register : ys ≡ written (trades_of o.reply) xs

pub by_outcome : (o p : Outcome) (reply : Reply) (m' : Book) (xs ys : List Trade) → o ≡ p → Crossed p reply m' xs ys → Crossed o reply m' xs ys
by_outcome o p reply m' xs ys e h = subst (λ x. Crossed x reply m' xs ys) (sym e) h

pub crossed_none : (m : Book) (why : SessionRefusal) (xs : List Trade) → Crossed (refusal m (OfSession why)) (refused (OfSession why)) m xs xs
crossed_none m why xs = record { answer = refl; after = refl; register = refl }

pub crossed_done : (m m' : Book) (i : Indication) (ts xs ys : List Trade) (n : ℕ) → n ≡ length ts → ys ≡ written ts xs → m' ≡ settled m (take (n - 0) ys) → Crossed (record { reply = uncrossed i ts; after = settled m ts }) (uncrossed i (take n ys)) m' xs ys
crossed_done m m' i ts xs ys n e w s =
    let front = written_take ts xs ys n e w in
    let same : n - 0 ≡ n = omega arith in
    record {
      answer = ap (uncrossed i) (ap (λ k. take k ys) (sym same) ∙ front);
      after = s ∙ ap (settled m) front;
      register = w;
    }
