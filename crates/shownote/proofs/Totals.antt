-- What is summed of trades, and what is printed of those that are done, one more at a time. Assumes nothing.
use Rattle.std.proofs.Common.{◌≡◌, ℕ, ◌+◌, ◌<◌, List, [], ◌∷◌, ◌++◌, length, get_or, take, sum_by, sym, refl, ap, ◌∙◌, append_assoc, append-nil, arith}
use Rattle.std.proofs.lemmas.List.{take_more, length-take-le}
use Rattle.std.proofs.lemmas.List.Recursion.{is_sum_by}
use Rattle.note.specs.declared.trades.Trade.{Trade}
use Rattle.shownote.specs.Reports.{contracts, trade_text, trades_text}

pub sum_of_contracts : (ts : List Trade) → sum_by (λ (t : Trade). t.quantity) ts ≡ contracts ts
unfolding contracts
sum_of_contracts ts = sym (is_sum_by contracts (λ (t : Trade). t.quantity) refl (λ _ _. refl) ts)

trades_text-append : (k : ℕ) (xs ys : List Trade) → trades_text k (xs ++ ys) ≡ trades_text k xs ++ trades_text (k + length xs) ys
unfolding trades_text
trades_text-append k [] ys = let same : k ≡ k + 0 = omega arith in ap (λ n. trades_text n ys) same
trades_text-append k (x ∷ xs) ys =
    let more = trades_text-append (k + 1) xs ys in
    let same : k + 1 + length xs ≡ k + length (x ∷ xs) = omega arith in
    ap (λ text. trade_text k x ++ text) (more ∙ ap (λ n. trades_text (k + 1) xs ++ trades_text n ys) same) ∙ sym (append_assoc (trade_text k x) (trades_text (k + 1) xs) (trades_text (k + length (x ∷ xs)) ys))

pub text_more : (ts : List Trade) (i : ℕ) (d : Trade) → i < length ts → trades_text 1 (take i ts) ++ trade_text (i + 1) (get_or ts i d) ≡ trades_text 1 (take (i + 1) ts)
unfolding trades_text
text_more ts i d h =
    let t = get_or ts i d in
    let place : i + 1 ≡ 1 + length (take i ts) = omega (arith, length-take-le i ts (omega arith)) in
    ap (λ n. trades_text 1 (take i ts) ++ trade_text n t) place ∙ ap (λ text. trades_text 1 (take i ts) ++ text) (sym (append-nil (trade_text (1 + length (take i ts)) t))) ∙ sym (trades_text-append 1 (take i ts) (t ∷ [])) ∙ ap (trades_text 1) (sym (take_more ts i d h))

pub text_none : trades_text 1 [] ≡ []
unfolding trades_text
text_none = refl
