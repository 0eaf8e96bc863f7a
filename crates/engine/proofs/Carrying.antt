-- Calls that trade nothing, as they are carried out. Assumes nothing.
use Rattle.std.proofs.Common.{◌≡◌, ℕ, List, [], ◌++◌, Result, sym, ap, ◌∙◌, append-nil}
use Rattle.note.specs.declared.trades.Trade.{Trade}
use Rattle.session.specs.declared.refusals.SessionRefusal.{SessionRefusal}
use Rattle.book.specs.declared.orders.Side.{Side}
use Rattle.book.specs.Meaning.{Book}
use Rattle.price.specs.declared.indications.Indication.{Indication}
use Rattle.price.specs.Indications.{indication_answer}
use Rattle.trading.specs.declared.calls.Call.{Call}
use Rattle.trading.specs.declared.calls.Call.TheVariants.{Entry, Cut, Withdrawal, Indication as AskIndication}
use Rattle.trading.specs.Replies.{Reply, Outcome, indication_of, outcome, trades_of, written}

-- a call was replied r and left m', with no trade for the register and the log
pub record Carried (o : Outcome) (r : Reply) (m' : Book) (xs log : List Trade) : Type 0 where
  pub reply : r ≡ o.reply
  pub after : m' ≡ o.after
  pub register : xs ≡ written (trades_of o.reply) xs
  pub logged : log ≡ log ++ trades_of o.reply

carried : (o : Outcome) (r : Reply) (m' : Book) (xs log : List Trade) → trades_of r ≡ [] → r ≡ o.reply → m' ≡ o.after → Carried o r m' xs log
carried o r m' xs log none reply after =
    let nothing : trades_of o.reply ≡ [] = ap trades_of (sym reply) ∙ none in
    record {
      reply = reply;
      after = after;
      register = sym (ap (λ ts. written ts xs) nothing);
      logged = sym (append-nil log) ∙ ap (λ ts. log ++ ts) (sym nothing);
    }

-- the same of an outcome that is equal
pub carried_as : (o p : Outcome) (r : Reply) (m' : Book) (xs log : List Trade) → o ≡ p → trades_of r ≡ [] → r ≡ o.reply → m' ≡ o.after → Carried p r m' xs log
carried_as o p r m' xs log e none reply after = carried p r m' xs log none (reply ∙ ap (λ (x : Outcome). x.reply) e) (after ∙ ap (λ (x : Outcome). x.after) e)

module _ (tick scarcity places : ℕ) (m : Book) (c : Call) where
  -- an entry does not depend on the register, and a cut and a withdrawal not on the session either
  pub entry_same : (side : Side) (quantity price : ℕ) → c ≡ Entry side quantity price → outcome tick scarcity 0 m (Entry side quantity price) ≡ outcome tick scarcity places m c
  unfolding outcome
  entry_same side quantity price e = sym (ap (outcome tick scarcity places m) e)

  pub cut_same : (number quantity : ℕ) → c ≡ Cut number quantity → outcome 0 0 0 m (Cut number quantity) ≡ outcome tick scarcity places m c
  unfolding outcome
  cut_same number quantity e = sym (ap (outcome tick scarcity places m) e)

  pub withdrawal_same : (number : ℕ) → c ≡ Withdrawal number → outcome 0 0 0 m (Withdrawal number) ≡ outcome tick scarcity places m c
  unfolding outcome
  withdrawal_same number e = sym (ap (outcome tick scarcity places m) e)

  pub indication_same : (r : Result Indication SessionRefusal) → r ≡ indication_answer m tick scarcity → c ≡ AskIndication → indication_of m r ≡ outcome tick scarcity places m c
  unfolding outcome
  indication_same r answer e = ap (indication_of m) answer ∙ sym (ap (outcome tick scarcity places m) e)
