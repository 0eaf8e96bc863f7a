-- Opening a session, and which prices its tick and its scarcity price admit. Assumes nothing.
use Rattle.std.specs.Prelude.{◌≡◌, ℕ, ◌/◌, true, false, ◌&&◌, Ok, Err, Result}
use Rattle.session.specs.declared.sessions.Session.{Session}
use Rattle.session.specs.declared.refusals.SessionRefusal.{SessionRefusal}
use Rattle.session.specs.declared.refusals.SessionRefusal.TheVariants.{SessionRange}
use Rattle.session.specs.Ranges.{is_tick, is_price}

-- both in range: a session of just these; either out of range: refused
abbrev pub Opened : ℕ → ℕ → Result Session SessionRefusal → Type 0
Opened tick scarcity (Ok session) = ((is_tick tick && is_price scarcity) ≡ true) × (session.tick ≡ tick) × (session.scarcity ≡ scarcity)
Opened tick scarcity (Err why) = ((is_tick tick && is_price scarcity) ≡ false) × (why ≡ SessionRange)

-- the highest whole multiple of the tick that is at most the scarcity price, in ticks
abbrev pub ceiling : ℕ → ℕ → ℕ
ceiling tick scarcity = scarcity / tick
