-- What a feed that is read and judged promises its player; no caller needs it. Assumes nothing.
use Rattle.std.specs.Prelude.{◌≡◌, ℕ, List, None, Option, Result}
use Rattle.session.specs.declared.sessions.Session.{Session}
use Rattle.trading.specs.declared.calls.Call.{Call}
use Rattle.feed.specs.declared.faults.Fault.{Fault}
use Rattle.feed.specs.declared.steps.Step.{Step}
use Rattle.feed.specs.Steps.{Read, Reads, terms_of, all_judged, terms_after_all, calls_of}

pub record Scripted (feed : List ℕ) (session : Option Session) (steps : List (Result Step Fault)) (calls : List Call) : Type 0 where
  pub lines : List Read
  pub reading : Reads feed 0 lines
  pub steps_are : steps ≡ all_judged None 1 lines
  pub session_is : terms_of session ≡ terms_after_all None lines
  pub calls_are : calls ≡ calls_of (all_judged None 1 lines)
