-- What a loop over the trades of a note keeps: the trades that are done, and what is read of those that are left. Assumes nothing.
use Rattle.std.proofs.Common.{◌≡◌, ℕ, suc, List, [], ◌∷◌, ◌++◌, Ok, Err, Result, sym, refl, ap, ◌∙◌, append_assoc, append-nil}
use Rattle.note.specs.declared.refusals.NoteRefusal.{NoteRefusal}
use Rattle.note.specs.declared.trades.Trade.{Trade}
use Rattle.note.specs.Reading.{onward, read_trade, read_trades}
use Rattle.note.specs.Steps.{passed, pass_trades}

-- the trades after those that are done
abbrev pub after_done : List Trade → Result (List Trade × List ℕ) NoteRefusal → Result (List Trade × List ℕ) NoteRefusal
after_done done r = onward r (λ others. Ok (done ++ others.0, others.1))

pub after_none : (r : Result (List Trade × List ℕ) NoteRefusal) → r ≡ after_done [] r
after_none (Ok x) = refl
after_none (Err why) = refl

after_one : (done : List Trade) (t : Trade) (r : Result (List Trade × List ℕ) NoteRefusal) → after_done done (after_done (t ∷ []) r) ≡ after_done (done ++ t ∷ []) r
after_one done t (Ok x) = ap (λ ts. Ok (ts, x.1)) (sym (append_assoc done (t ∷ []) x.0))
after_one done t (Err why) = refl

-- none is left
pub read_none : (left : ℕ) (done : List Trade) (bytes : List ℕ) → left ≡ 0 → after_done done (read_trades left bytes) ≡ Ok (done, bytes)
unfolding read_trades
read_none left done bytes none = ap (λ n. after_done done (read_trades n bytes)) none ∙ ap (λ ts. Ok (ts, bytes)) (append-nil done)

pub pass_none : (left : ℕ) (bytes : List ℕ) → left ≡ 0 → pass_trades left bytes ≡ Ok (tt, bytes)
unfolding read_trades
pass_none left bytes none = ap (λ n. pass_trades n bytes) none

module _ (left less : ℕ) (bytes : List ℕ) (is : left ≡ suc less) where
  -- one trade is read
  pub read_more : (done : List Trade) {t : Trade} {rest : List ℕ} → Ok (t, rest) ≡ read_trade bytes → after_done done (read_trades left bytes) ≡ after_done (done ++ t ∷ []) (read_trades less rest)
  unfolding read_trades
  read_more done {t} {rest} e =
      ap (λ n. after_done done (read_trades n bytes)) is ∙ ap (λ r. after_done done (onward r (λ first. onward (read_trades less first.1) (λ others. Ok (first.0 ∷ others.0, others.1))))) (sym e) ∙ after_one done t (read_trades less rest)

  pub pass_more : {t : Trade} {rest : List ℕ} → Ok (t, rest) ≡ read_trade bytes → pass_trades left bytes ≡ pass_trades less rest
  pass_more {t} {rest} e = ap passed (after_none (read_trades left bytes) ∙ read_more [] e) ∙ by (read_trades less rest) where
    by : (r : Result (List Trade × List ℕ) NoteRefusal) → passed (after_done (t ∷ []) r) ≡ passed r
    by (Ok x) = refl
    by (Err why) = refl

  -- or refused
  pub read_refused : (done : List Trade) {why : NoteRefusal} → Err why ≡ read_trade bytes → after_done done (read_trades left bytes) ≡ Err why
  unfolding read_trades
  read_refused done e = ap (λ n. after_done done (read_trades n bytes)) is ∙ ap (λ r. after_done done (onward r (λ first. onward (read_trades less first.1) (λ others. Ok (first.0 ∷ others.0, others.1))))) (sym e)

  pub pass_refused : {why : NoteRefusal} → Err why ≡ read_trade bytes → pass_trades left bytes ≡ Err why
  pass_refused e = ap passed (after_none (read_trades left bytes) ∙ read_refused [] e)
