-- The trades that the fills of two sides make. Assumes nothing.
use Rattle.std.proofs.Common.{◌≡◌, ℕ, zero, suc, ◌+◌, ◌-◌, ◌<◌, ◌≤◌, min, Bool, true, false, cond, eqb, List, [], ◌∷◌, length, sym, refl, ap, ◌∙◌, subst, arith}
use Rattle.std.proofs.lemmas.Bool.{eqb-false}
use Rattle.note.specs.declared.trades.Trade.{Trade}
use Rattle.book.specs.declared.orders.Side.{Side}
use Rattle.book.specs.declared.orders.Side.TheVariants.{Buy, Sell}
use Rattle.rules.specs.Rivals.{Each, total}
use Rattle.rules.specs.Trades.{Fill, fill, listed, front, pairs_by, pairs}
use Rattle.rules.proofs.Laying.{fill_total, fill_of, if_same, if_same_split, total_listed, of_listed, of_le_total, each_listed}

-- the number that a side's order has in a trade
abbrev pub party : Side → Trade → ℕ
party Buy t = t.buy
party Sell t = t.sell

-- what the order n trades on the side s
unfoldable pub traded_of : Side → ℕ → List Trade → ℕ
traded_of s n [] = 0
traded_of s n (t ∷ ts) = if_same (party s t) n t.quantity + traded_of s n ts

-- one fill of a trade at least ends with it
shorter_at : (b s : ℕ) (x y : Bool) (n k : ℕ) (bs ss : List Fill) → eqb (b - min b s) 0 ≡ x → eqb (s - min b s) 0 ≡ y
    → length (cond x bs (fill n (b - min b s) ∷ bs)) + length (cond y ss (fill k (s - min b s) ∷ ss)) ≤ suc (length bs + length ss)
shorter_at b s true true n k bs ss e d = omega arith
shorter_at b s true false n k bs ss e d = omega arith
shorter_at b s false true n k bs ss e d = omega arith
shorter_at b s false false n k bs ss e d = let x = eqb-false _ _ e in let y = eqb-false _ _ d in omega arith

pub shorter : (b s : Fill) (bs ss : List Fill) →
    length (listed b.number (b.quantity - (front b s).quantity) bs) + length (listed s.number (s.quantity - (front b s).quantity) ss) ≤ suc (length bs + length ss)
shorter b s bs ss = shorter_at b.quantity s.quantity _ _ b.number s.number bs ss refl refl

-- the trades ts carry out the fills of both sides
pub record Paired (bs ss : List Fill) (ts : List Trade) : Type 0 where
  pub sum : total ts ≡ fill_total bs
  pub buys : (n : ℕ) → traded_of Buy n ts ≡ fill_of n bs
  pub sells : (n : ℕ) → traded_of Sell n ts ≡ fill_of n ss

-- nothing is left to trade
paired_none : (bs ss : List Fill) → fill_total bs ≡ 0 → fill_total bs ≡ fill_total ss → Paired bs ss []
unfolding total traded_of
paired_none bs ss e d = record {
  sum = sym e;
  buys = λ n. let le = of_le_total n bs in omega arith;
  sells = λ n. let le = of_le_total n ss in omega arith;
}

paired_more : (b s : Fill) (bs ss : List Fill) (ts : List Trade)
    → Paired (listed b.number (b.quantity - (front b s).quantity) bs) (listed s.number (s.quantity - (front b s).quantity) ss) ts
    → Paired (b ∷ bs) (s ∷ ss) (front b s ∷ ts)
unfolding total traded_of fill_total fill_of
paired_more b s bs ss ts h =
    let q = min b.quantity s.quantity in
    record {
      sum = omega (arith, h.sum, total_listed b.number (b.quantity - q) bs);
      buys = λ n. omega (arith, h.buys n, of_listed n b.number (b.quantity - q) bs, if_same_split b.number n q b.quantity (omega arith));
      sells = λ n. omega (arith, h.sells n, of_listed n s.number (s.quantity - q) ss, if_same_split s.number n q s.quantity (omega arith));
    }

left_equal : (b s : Fill) (bs ss : List Fill) → fill_total (b ∷ bs) ≡ fill_total (s ∷ ss)
    → fill_total (listed b.number (b.quantity - (front b s).quantity) bs) ≡ fill_total (listed s.number (s.quantity - (front b s).quantity) ss)
unfolding fill_total
left_equal b s bs ss e =
    let q = min b.quantity s.quantity in
    omega (arith, total_listed b.number (b.quantity - q) bs, total_listed s.number (s.quantity - q) ss)

paired_by : (k : ℕ) (bs ss : List Fill) → length bs + length ss ≤ k → fill_total bs ≡ fill_total ss → Paired bs ss (pairs_by k bs ss)
unfolding pairs_by fill_total
paired_by zero [] [] h e = paired_none [] [] refl e
paired_by zero [] (s ∷ ss) h e = absurd (omega arith)
paired_by zero (b ∷ bs) ss h e = absurd (omega arith)
paired_by (suc k) [] ss h e = paired_none [] ss refl e
paired_by (suc k) (b ∷ bs) [] h e = paired_none (b ∷ bs) [] e e
paired_by (suc k) (b ∷ bs) (s ∷ ss) h e =
    let short = shorter b s bs ss in
    paired_more b s bs ss _ (paired_by k _ _ (omega arith) (left_equal b s bs ss e))

pub paired : (bs ss : List Fill) → fill_total bs ≡ fill_total ss → Paired bs ss (pairs bs ss)
paired bs ss e = paired_by _ bs ss (omega arith) e

-- there are fewer trades than fills
fewer_by : (k : ℕ) (bs ss : List Fill) → length (pairs_by k bs ss) ≤ length bs + length ss - 1
unfolding pairs_by
fewer_by zero bs ss = omega arith
fewer_by (suc k) [] ss = omega arith
fewer_by (suc k) (b ∷ bs) [] = omega arith
fewer_by (suc k) (b ∷ bs) (s ∷ ss) = omega (arith, shorter b s bs ss, fewer_by k (listed b.number (b.quantity - (front b s).quantity) bs) (listed s.number (s.quantity - (front b s).quantity) ss))

pub fewer : (bs ss : List Fill) → length (pairs bs ss) ≤ length bs + length ss - 1
fewer bs ss = fewer_by _ bs ss

-- no trade is of 0
some_by : (k : ℕ) (bs ss : List Fill) → Each (λ f. 0 < f.quantity) bs → Each (λ f. 0 < f.quantity) ss → Each (λ t. 0 < t.quantity) (pairs_by k bs ss)
unfolding pairs_by
some_by zero bs ss p r = tt
some_by (suc k) [] ss p r = tt
some_by (suc k) (b ∷ bs) [] p r = tt
some_by (suc k) (b ∷ bs) (s ∷ ss) p r =
    (omega arith, some_by k _ _ (each_listed _ _ _ bs (λ h. h) p.1) (each_listed _ _ _ ss (λ h. h) r.1))

pub some : (bs ss : List Fill) → Each (λ f. 0 < f.quantity) bs → Each (λ f. 0 < f.quantity) ss → Each (λ t. 0 < t.quantity) (pairs bs ss)
some bs ss p r = some_by _ bs ss p r

-- what is so of the numbers of the fills is so of the parties to the trades
parties_by : (P R : ℕ → Type 0) (k : ℕ) (bs ss : List Fill) → Each (λ f. P f.number) bs → Each (λ f. R f.number) ss → Each (λ t. P t.buy × R t.sell) (pairs_by k bs ss)
unfolding pairs_by
parties_by P R zero bs ss p r = tt
parties_by P R (suc k) [] ss p r = tt
parties_by P R (suc k) (b ∷ bs) [] p r = tt
parties_by P R (suc k) (b ∷ bs) (s ∷ ss) p r =
    ((p.0, r.0), parties_by P R k _ _ (each_listed _ _ _ bs (λ h. p.0) p.1) (each_listed _ _ _ ss (λ h. r.0) r.1))

pub parties : (P R : ℕ → Type 0) (bs ss : List Fill) → Each (λ f. P f.number) bs → Each (λ f. R f.number) ss → Each (λ t. P t.buy × R t.sell) (pairs bs ss)
parties P R bs ss p r = parties_by P R _ bs ss p r

-- The trades of the fronts come first, and then those of what is left.

enough : (k j : ℕ) (bs ss : List Fill) → length bs + length ss ≤ k → length bs + length ss ≤ j → pairs_by k bs ss ≡ pairs_by j bs ss
unfolding pairs_by
enough zero zero bs ss h g = refl
enough zero (suc j) [] ss h g = refl
enough zero (suc j) (b ∷ bs) ss h g = absurd (omega arith)
enough (suc k) zero [] ss h g = refl
enough (suc k) zero (b ∷ bs) ss h g = absurd (omega arith)
enough (suc k) (suc j) [] ss h g = refl
enough (suc k) (suc j) (b ∷ bs) [] h g = refl
enough (suc k) (suc j) (b ∷ bs) (s ∷ ss) h g =
    let short = shorter b s bs ss in
    ap (λ ts. front b s ∷ ts) (enough k j _ _ (omega arith) (omega arith))

pub pairs_next : (b s : Fill) (bs ss : List Fill) → pairs (b ∷ bs) (s ∷ ss) ≡ front b s ∷ pairs (listed b.number (b.quantity - (front b s).quantity) bs) (listed s.number (s.quantity - (front b s).quantity) ss)
unfolding pairs_by
pairs_next b s bs ss =
    let short = shorter b s bs ss in
    let ls = listed b.number (b.quantity - (front b s).quantity) bs in
    let rs = listed s.number (s.quantity - (front b s).quantity) ss in
    enough (suc (length bs) + suc (length ss)) (suc (suc (length bs + length ss))) (b ∷ bs) (s ∷ ss) (omega arith) (omega arith)
    ∙ ap (λ ts. front b s ∷ ts) (enough (suc (length bs + length ss)) (length ls + length rs) ls rs (omega arith) (omega arith))

no_buys : (k : ℕ) (ss : List Fill) → pairs_by k [] ss ≡ []
unfolding pairs_by
no_buys zero ss = refl
no_buys (suc k) ss = refl

no_sells : (k : ℕ) (bs : List Fill) → pairs_by k bs [] ≡ []
unfolding pairs_by
no_sells zero bs = refl
no_sells (suc k) [] = refl
no_sells (suc k) (b ∷ bs) = refl

pub pairs_no_buys : (bs ss : List Fill) → bs ≡ [] → pairs bs ss ≡ []
pairs_no_buys bs ss e = subst (λ x. pairs x ss ≡ []) (sym e) (no_buys _ ss)

pub pairs_no_sells : (bs ss : List Fill) → ss ≡ [] → pairs bs ss ≡ []
pairs_no_sells bs ss e = subst (λ x. pairs bs x ≡ []) (sym e) (no_sells _ bs)
