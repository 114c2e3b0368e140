-- What is said of factors, of the shape that a question wants.
use Rattle.std.specs.Prelude.{◌≡◌, ℕ, ◌<◌, ◌^◌, ℤ, List, length, true, All, is_some}
use Rattle.it_number.specs.Limit.{IsWithin}
use Rattle.it_space.specs.Spaces.{size_of}
use Rattle.it_demand.specs.QuestionSpaces.{space_of}
use Rattle.it_question.specs.Questions.{BodyView}
use Rattle.it_ratio.specs.declared.types.BestCause.{BestCause}
use Rattle.it_ratio.specs.declared.types.BestCause.TheVariants.{Pivots, Width, Scale, Size}
use Rattle.it_ratio.specs.BestViews.{BestView, Least, Never, Unbounded, Undecided}
use Rattle.it_ratio.specs.Truth.{asked_by}
use Rattle.it_certificate.specs.AnswerShapes.{IsNumbered}

-- a value within the limit for each of `size` coordinates
pub record AreValues (size : ℕ) (values : List ℤ) : Type 0 where
  pub each : length values ≡ size
  pub within : All IsWithin values

-- a factor of numbers within the limit
pub record IsRatio (num den : ℤ) : Type 0 where
  pub numerator : IsWithin num
  pub denominator : IsWithin den

-- steps of 32 bits, and a phase of 8
abbrev pub IsSmallCause : BestCause → Type 0
IsSmallCause (Pivots steps phase) = (steps < 2 ^ 32) × (phase < 2 ^ 8)
IsSmallCause (Width step phase) = (step < 2 ^ 32) × (phase < 2 ^ 8)
IsSmallCause Scale = Unit {0}
IsSmallCause Size = Unit {0}

-- the shape over `size` coordinates
abbrev pub HasBestShape : ℕ → BestView → Type 0
HasBestShape size (Least num den proof values) = IsRatio num den × IsNumbered proof × AreValues size values
HasBestShape size (Never values) = AreValues size values
HasBestShape size (Unbounded num den proof below) = IsRatio num den × IsNumbered proof × IsNumbered below
HasBestShape size (Undecided cause) = IsSmallCause cause

-- the question asks for factors, and this is of the shape that it wants, right or not
pub record HasFactorShape (q : BodyView) (best : BestView) : Type 0 where
  pub asks : is_some (asked_by q.verb) ≡ true
  pub shape : HasBestShape (size_of (space_of q.names)) best
