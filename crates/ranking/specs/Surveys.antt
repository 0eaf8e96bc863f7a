-- The ranking of survey prices. Assumes nothing.
use Rattle.std.specs.Prelude.{Bool, ◌&&◌, ◌||◌, ◌==◌, nat_lt}
use Rattle.ranking.specs.declared.surveys.SurveyPrice.{SurveyPrice}

-- the lower price goes first, and of equal prices the lower contributor code
abbrev pub survey_before : SurveyPrice → SurveyPrice → Bool
survey_before x y = nat_lt x.price y.price || (x.price == y.price && nat_lt x.contributor y.contributor)
