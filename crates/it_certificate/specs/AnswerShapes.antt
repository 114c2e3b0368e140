-- Answers of the shape that a question wants. What is read has it, and what has it reads back.
use Rattle.std.specs.Prelude.{◌≡◌, ℕ, ◌<◌, ◌^◌, ℤ, List, [], length, true, All, Some, None, slice_index_or}
use Rattle.it_number.specs.Limit.{IsWithin}
use Rattle.it_space.specs.Rows.{Terms, IsCanonical, IsOver}
use Rattle.it_space.specs.Spaces.{size_of}
use Rattle.it_space.specs.Answers.{CertificateView, AnswerView}
use Rattle.it_space.specs.Answers.AnswerView.{Yes, No, Undecided, Region, Contained, Open}
use Rattle.it_space.specs.declared.answers.Mark.{Mark}
use Rattle.it_space.specs.declared.answers.Cause.{Cause}
use Rattle.it_space.specs.declared.answers.Cause.TheVariants.{Pivots, Width, Scale, Rows, WideRate}
use Rattle.it_syntax.specs.NamesViews.{NamesView, index_of}
use Rattle.it_question.specs.OwnLines.{RegionView}
use Rattle.it_question.specs.Questions.{BodyView, VerbView, Prove, Eliminate, Contain}
use Rattle.it_elemental.specs.Generators.{is_equation}
use Rattle.it_demand.specs.Demands.{kind_of}
use Rattle.it_demand.specs.QuestionSpaces.{space_of}
use Rattle.it_demand.specs.Targets.{targets}
use Rattle.it_certificate.specs.Numerals.{step_of}
use Rattle.it_certificate.specs.Obligations.{obligation_count}

-- a number of 32 bits with one within the limit
abbrev pub IsNumberedAmount : ℕ × ℤ → Type 0
IsNumberedAmount t = (t.0 < 2 ^ 32) × IsWithin t.1

-- the numbers of a certificate
pub record IsNumbered (c : CertificateView) : Type 0 where
  pub scale : IsWithin c.scale
  pub weights : All IsNumberedAmount c.weights

-- a row over `size` coordinates
pub record IsRowIn (size : ℕ) (r : Mark × Terms) : Type 0 where
  pub terms : All IsNumberedAmount r.1
  pub canonical : IsCanonical r.1
  pub coordinates : IsOver size r.1

-- the rate is found by its name
abbrev pub IsFoundIn : NamesView → ℕ → Type 0
IsFoundIn v r = index_of v.rates (slice_index_or v.rates r []) ≡ Some r

-- A rate at which a number is too wide is told apart from a step by its name.
abbrev pub IsCauseFor : NamesView → Cause → Type 0
IsCauseFor v (Pivots steps) = steps < 2 ^ 32
IsCauseFor v (Width step) = step < 2 ^ 32
IsCauseFor v Scale = Unit {0}
IsCauseFor v (Rows r) = IsFoundIn v r
IsCauseFor v (WideRate r) = IsFoundIn v r × (step_of (slice_index_or v.rates r []) ≡ None)

-- a set of the first region's variables for each auxiliary of the second, and a certificate for each of its obligations
pub record HasContainmentShape (first second : RegionView) (parts : List ℕ) (proofs : List CertificateView) : Type 0 where
  pub each : length parts ≡ second.auxiliaries
  pub sets : All (λ s. (s < 2 ^ 32) × (s < 2 ^ length first.names.variables)) parts
  pub obligations : length proofs ≡ obligation_count second
  pub numbers : All IsNumbered proofs

-- The shape of the answers that a question of this verb wants: a certificate for each target; a value for each coordinate, and
-- the second target only where there are two; rows; sets and certificates; a cause; the number of candidates tried.
abbrev pub HasVerbShape : NamesView → VerbView → AnswerView → Type 0
HasVerbShape v (Prove r) (Yes proofs) = (length proofs ≡ length (targets (length v.variables) r)) × All IsNumbered proofs
HasVerbShape v (Prove r) (No back values) = (length values ≡ size_of (space_of v)) × All IsWithin values × (back ≡ true → is_equation (kind_of r.sign) ≡ true)
HasVerbShape v (Prove r) (Undecided cause) = IsCauseFor v cause
HasVerbShape v (Eliminate rates) (Region rows) = All (IsRowIn (size_of (space_of v))) rows
HasVerbShape v (Eliminate rates) (Undecided cause) = IsCauseFor v cause
HasVerbShape v (Contain first second tries) (Contained parts proofs) = HasContainmentShape first second parts proofs
HasVerbShape v (Contain first second tries) (Open tried) = tried < 2 ^ 32
HasVerbShape v verb answer = ⊥

-- the shape of the answers that a question wants, right or not
unfoldable pub HasQuestionShape : BodyView → AnswerView → Type 0
HasQuestionShape q answer = HasVerbShape q.names q.verb answer
