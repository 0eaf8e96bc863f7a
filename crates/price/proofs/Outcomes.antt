-- What an indication and its refusal say, from the words of the rule alone. Assumes nothing.
use Rattle.std.proofs.Common.{◌≡◌, ℕ, ◌*◌, ◌≤◌, Some, None, Option, Result, sym, refl, subst, arith}
use Rattle.session.specs.declared.refusals.SessionRefusal.{SessionRefusal}
use Rattle.session.specs.Openings.{ceiling}
use Rattle.book.specs.Meaning.{Book}
use Rattle.rules.specs.Schedule.{offered}
use Rattle.rules.specs.Literal.{equilibrium}
use Rattle.rules.specs.Prices.{Answered}
use Rattle.rules.proofs.Choices.{chosen_one, chosen_kept, equilibrium_words, unrivalled, no_rival, sign_change}
use Rattle.rules.proofs.Curves.{monotone, means_in_money, in_money}
use Rattle.rules.proofs.Signs.{signed}
use Rattle.price.specs.declared.indications.Indication.{Indication}
use Rattle.price.specs.Indications.{told, indication_answer, Best, Outcome, Indicated}

module _ (b : Book) (tick scarcity : ℕ) where
  pub best : (m : ℕ) → Answered (offered b tick scarcity) (Some m) → Best b tick scarcity m
  best m c =
      record {
        chosen = c;
        only = λ n d. chosen_one (offered b tick scarcity) n m d c;
        kept = chosen_kept (offered b tick scarcity) (monotone b.orders (ceiling tick scarcity)) m c;
        signed = signed (offered b tick scarcity) m;
        unrivalled = unrivalled b.orders (ceiling tick scarcity) m c;
      }

  outcome : (r : Option ℕ) → Answered (offered b tick scarcity) r → Outcome b tick scarcity (told tick (offered b tick scarcity) r)
  outcome None h = record { nothing = h; unrivalled = no_rival b.orders (ceiling tick scarcity) h; why_is = refl }
  outcome (Some m) c = record { ticks = m; best = best m c; price_is = refl; volume_is = refl; imbalance_is = refl }

  indicated : 1 ≤ tick → Indicated b tick scarcity (indication_answer b tick scarcity)
  indicated some =
      record {
        outcome = outcome (equilibrium (offered b tick scarcity)) (equilibrium_words (offered b tick scarcity));
        in_money = in_money b.orders tick scarcity some;
        means = means_in_money tick some;
        sign_change = sign_change (offered b tick scarcity) (monotone b.orders (ceiling tick scarcity));
      }

  -- the price fits
  pub price_small : 1 ≤ tick → scarcity ≤ 10000000 → (m : ℕ) → equilibrium (offered b tick scarcity) ≡ Some m → m * tick ≤ 10000000
  price_small some small m e =
      let c = subst (Answered (offered b tick scarcity)) e (equilibrium_words (offered b tick scarcity)) in
      omega (arith, ((in_money b.orders tick scarcity some m).only (best m c).kept.full.admissible).1)

  -- a result that is the answer says what the words of the rule say of it
  pub by_answer : 1 ≤ tick → (r : Result Indication SessionRefusal) → r ≡ indication_answer b tick scarcity → Indicated b tick scarcity r
  by_answer some r e = subst (Indicated b tick scarcity) (sym e) (indicated some)
