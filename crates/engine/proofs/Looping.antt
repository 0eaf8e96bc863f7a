-- The loops over the trades that are left: one counts them, one writes them. Assumes nothing.
use Rattle.std.proofs.Common.{◌≡◌, ℕ, ◌+◌, ◌<◌, ◌≤◌, List, [], ◌∷◌, ◌++◌, length, take, drop, set, sym, refl, ap, ◌∙◌, append-nil, add-one, arith, length-append, length-set, take-append-drop, drop-drop, take-suc-set, drop-set-lt}
use lib.Seq.{append_snoc}
use Rattle.std.proofs.lemmas.List.{length-take}
use Rattle.note.specs.declared.trades.Trade.{Trade}
use Rattle.book.specs.Meaning.{Book, Order, Sound}
use Rattle.rules.specs.Trades.{trades_at}
use Rattle.rules.proofs.Fitting.{trades_few}
use Rattle.trading.specs.Replies.{written}
use Rattle.engine.specs.declared.fronts.Fronts.{Fronts}
use Rattle.engine.specs.Pairings.{trades_left, Placed, starting}

pub starts_placed : (os : List Order) (v : ℕ) → Placed os (starting v)
starts_placed os v = (omega arith, omega arith)

-- n trades are counted
pub record Counting (os : List Order) (v : ℕ) (p : Fronts) (n : ℕ) : Type 0 where
  pub placed : Placed os p
  pub count : n + length (trades_left os p) ≡ length (trades_at v os)

pub counting_starts : (os : List Order) (v : ℕ) → Counting os v (starting v) 0
counting_starts os v = record { placed = starts_placed os v; count = omega arith }

pub left_falls : (os : List Order) (p p' : Fronts) (t : Trade) → trades_left os p ≡ t ∷ trades_left os p' → length (trades_left os p') < length (trades_left os p)
left_falls os p p' t e = let l = ap length e in omega arith

pub counting_more : (os : List Order) (v : ℕ) (p p' : Fronts) (n : ℕ) (t : Trade) → Placed os p' → trades_left os p ≡ t ∷ trades_left os p' → Counting os v p n → Counting os v p' (n + 1)
counting_more os v p p' n t at e h = let l = ap length e in let c = h.count in record { placed = at; count = omega arith }

pub counting_ends : (os : List Order) (v : ℕ) (p : Fronts) (n : ℕ) → trades_left os p ≡ [] → Counting os v p n → n ≡ length (trades_at v os)
counting_ends os v p n e h = let l = ap length e in let c = h.count in omega arith

pub counting_small : (m : Book) (v : ℕ) (p : Fronts) (n : ℕ) → Sound m → Counting m.orders v p n → n ≤ 256
counting_small m v p n w h = omega (arith, trades_few v m.orders, h.count, w.few, w.room)

-- n trades are written, of xs₀ as it stood
pub record Writing (os : List Order) (v : ℕ) (xs₀ xs : List Trade) (p : Fronts) (n : ℕ) : Type 0 where
  pub placed : Placed os p
  pub room : length (trades_at v os) ≤ length xs₀
  pub long : length xs ≡ length xs₀
  pub within : n ≤ length xs
  pub ahead : take n xs ++ trades_left os p ≡ trades_at v os
  pub behind : drop n xs ≡ drop n xs₀

pub writing_starts : (os : List Order) (v : ℕ) (xs : List Trade) → length (trades_at v os) ≤ length xs → Writing os v xs xs (starting v) 0
writing_starts os v xs room = record { placed = starts_placed os v; room = room; long = refl; within = omega arith; ahead = refl; behind = refl }

written_length : (os : List Order) (v : ℕ) (xs₀ xs : List Trade) (p : Fronts) (n : ℕ) → Writing os v xs₀ xs p n → n + length (trades_left os p) ≡ length (trades_at v os)
written_length os v xs₀ xs p n h = let l = ap length h.ahead in omega (arith, length-append (take n xs) (trades_left os p), length-take n xs, h.within)

pub writing_room : (os : List Order) (v : ℕ) (xs₀ xs : List Trade) (p p' : Fronts) (n : ℕ) (t : Trade) → trades_left os p ≡ t ∷ trades_left os p' → Writing os v xs₀ xs p n → n < length xs
writing_room os v xs₀ xs p p' n t e h = let l = ap length e in omega (arith, written_length os v xs₀ xs p n h, h.room, h.long)

pub writing_more : (os : List Order) (v : ℕ) (xs₀ xs : List Trade) (p p' : Fronts) (n : ℕ) (t : Trade) → Placed os p' → trades_left os p ≡ t ∷ trades_left os p' → Writing os v xs₀ xs p n → Writing os v xs₀ (set xs n t) p' (n + 1)
writing_more os v xs₀ xs p p' n t at e h =
    let lt = writing_room os v xs₀ xs p p' n t e h in
    let long = length-set xs n t in
    let one = add-one n in
    record {
      placed = at;
      room = h.room;
      long = long ∙ h.long;
      within = omega arith;
      ahead = ap (λ k. take k (set xs n t) ++ trades_left os p') one ∙ ap (λ ys. ys ++ trades_left os p') (take-suc-set xs n t lt) ∙ append_snoc (take n xs) t (trades_left os p') ∙ ap (λ ys. take n xs ++ ys) (sym e) ∙ h.ahead;
      behind = drop-set-lt (n + 1) xs n t (omega arith) ∙ sym (drop-drop 1 n xs) ∙ ap (drop 1) h.behind ∙ drop-drop 1 n xs₀;
    }

pub writing_ends : (os : List Order) (v : ℕ) (xs₀ xs : List Trade) (p : Fronts) (n : ℕ) → trades_left os p ≡ [] → Writing os v xs₀ xs p n → xs ≡ written (trades_at v os) xs₀
writing_ends os v xs₀ xs p n e h =
    let all : take n xs ≡ trades_at v os = sym (append-nil (take n xs)) ∙ ap (λ ys. take n xs ++ ys) (sym e) ∙ h.ahead in
    let l = ap length e in
    let len : n ≡ length (trades_at v os) = omega (arith, written_length os v xs₀ xs p n h) in
    sym (take-append-drop n xs) ∙ ap (λ ys. ys ++ drop n xs) all ∙ ap (λ ys. trades_at v os ++ ys) h.behind ∙ ap (λ k. trades_at v os ++ drop k xs₀) len

-- every place is written, so that no trade is left
pub writing_full : (os : List Order) (v : ℕ) (xs₀ xs : List Trade) (p : Fronts) (n : ℕ) → length xs₀ ≤ n → Writing os v xs₀ xs p n → xs ≡ written (trades_at v os) xs₀
writing_full os v xs₀ xs p n full h = writing_ends os v xs₀ xs p n (none (trades_left os p) (omega (arith, written_length os v xs₀ xs p n h, h.room))) h where
  none : (ts : List Trade) → length ts ≡ 0 → ts ≡ []
  none [] e = refl
  none (t ∷ ts) e = absurd (omega arith)
