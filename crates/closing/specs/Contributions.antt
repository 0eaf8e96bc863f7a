-- A contribution to the survey: what it answers, and what the run holds afterwards. Assumes nothing.
use Rattle.std.specs.Prelude.{ℕ, ◌+◌, cond, ◌||◌, List, ◌++◌, take, drop, Ok, Err, Result, nat_le}
use Rattle.ranking.specs.declared.surveys.SurveyPrice.{SurveyPrice}
use Rattle.ranking.specs.Runs.{placed}
use Rattle.ranking.specs.Surveys.{survey_before}
use Rattle.closing.specs.declared.refusals.ClosingRefusal.{ClosingRefusal}
use Rattle.closing.specs.declared.refusals.ClosingRefusal.TheVariants.{Full}
use Rattle.session.specs.Judgements.{onward}
use Rattle.closing.specs.Refusals.{judged_price}

-- the price is judged, then whether there is room: below 64, and below the run's length
abbrev pub contribute_answer : ℕ → ℕ → ℕ → ℕ → Result ℕ ClosingRefusal
contribute_answer tick places used price = onward (judged_price tick price) (cond (nat_le 64 used || nat_le places used) (Err Full) (Ok (used + 1)))

-- the item is placed among those there, and later places stay; a refusal leaves the run
abbrev pub contribute_after : Result ℕ ClosingRefusal → ℕ → SurveyPrice → List SurveyPrice → List SurveyPrice
contribute_after (Ok more) used item run = placed survey_before item (take used run) ++ drop (used + 1) run
contribute_after (Err why) used item run = run
