-- What an indication answers, by the letter of the rule and in its words. Assumes nothing.
use Rattle.std.specs.Prelude.{◌≡◌, ℕ, ◌*◌, Some, None, Ok, Err, Option, Result}
use Rattle.session.specs.declared.refusals.SessionRefusal.{SessionRefusal}
use Rattle.session.specs.declared.refusals.SessionRefusal.TheVariants.{NoVolume}
use Rattle.book.specs.Meaning.{Book}
use Rattle.rules.specs.Schedule.{Schedule, offered, volume, imbalance, Signed, MeansInMoney, InMoney}
use Rattle.rules.specs.Literal.{equilibrium}
use Rattle.rules.specs.Prices.{Kept, Chosen, NothingTrades}
use Rattle.rules.specs.Crossings.{SignChange}
use Rattle.rules.specs.Rivals.{NoRivalAbove}
use Rattle.price.specs.declared.indications.Indication.{Indication}

-- a price of m ticks, with its volume and imbalance
abbrev pub heading : ℕ → Schedule → ℕ → Indication
heading tick k m = record { price = m * tick; volume = volume k m; imbalance = imbalance k m }

-- the price that the rule gives, or none
abbrev pub told : ℕ → Schedule → Option ℕ → Result Indication SessionRefusal
told tick k None = Err NoVolume
told tick k (Some m) = Ok (heading tick k m)

abbrev pub indication_answer : Book → ℕ → ℕ → Result Indication SessionRefusal
indication_answer b tick scarcity = told tick (offered b tick scarcity) (equilibrium (offered b tick scarcity))

-- What is so of the price of an indication, in ticks, in the book b in a session of a tick and a scarcity price.
pub record Best (b : Book) (tick scarcity : ℕ) (m : ℕ) : Type 0 where
  -- it is chosen by the tie rule, and no other is
  pub chosen : Chosen (offered b tick scarcity) m
  pub only : (n : ℕ) → Chosen (offered b tick scarcity) n → n ≡ m
  -- it is itself of the largest volume and of the smallest imbalance
  pub kept : Kept (offered b tick scarcity) m
  pub signed : Signed (offered b tick scarcity) m
  -- no rival's fills total more than its volume
  pub unrivalled : NoRivalAbove b.orders (offered b tick scarcity) (volume (offered b tick scarcity) m)

-- an indication says the price, in centavos, with its volume and imbalance
pub record Priced (b : Book) (tick scarcity : ℕ) (i : Indication) : Type 0 where
  pub ticks : ℕ
  pub best : Best b tick scarcity ticks
  pub price_is : i.price ≡ ticks * tick
  pub volume_is : i.volume ≡ volume (offered b tick scarcity) ticks
  pub imbalance_is : i.imbalance ≡ imbalance (offered b tick scarcity) ticks

-- a refusal says that nothing trades at any admissible price, and that any rival's fills total 0
pub record Unpriced (b : Book) (tick scarcity : ℕ) (why : SessionRefusal) : Type 0 where
  pub nothing : NothingTrades (offered b tick scarcity)
  pub unrivalled : NoRivalAbove b.orders (offered b tick scarcity) 0
  pub why_is : why ≡ NoVolume

abbrev pub Outcome : Book → ℕ → ℕ → Result Indication SessionRefusal → Type 0
Outcome b tick scarcity (Ok i) = Priced b tick scarcity i
Outcome b tick scarcity (Err why) = Unpriced b tick scarcity why

-- either way, the admissible prices are those of the session, a mean in ticks is that in money, and the imbalance changes its sign once
pub record Indicated (b : Book) (tick scarcity : ℕ) (r : Result Indication SessionRefusal) : Type 0 where
  pub outcome : Outcome b tick scarcity r
  pub in_money : (m : ℕ) → InMoney tick scarcity (offered b tick scarcity) m
  pub means : MeansInMoney tick
  pub sign_change : SignChange (offered b tick scarcity)
