-- The certificates of a region's rows in a report, by which they follow from the question's lines: their key, as far as its
-- shape goes, and the shape of what is read.
use Rattle.std.specs.Prelude.{◌≡◌, List, [], length, map, Bool, false, ◌&&◌, All, codes, is_some, Result, ok_or}
use Rattle.std.specs.Option.{option_map_or}
use Rattle.std.specs.Str.{bytes_eq}
use Rattle.serde_json.specs.Data.{Data}
use Rattle.serde_json.specs.Find.{get}
use Rattle.it_space.specs.Rows.{Terms}
use Rattle.it_space.specs.Answers.{AnswerView, CertificateView}
use Rattle.it_space.specs.Answers.AnswerView.{Region}
use Rattle.it_question.specs.Questions.{BodyView}
use Rattle.it_certificate.specs.declared.keys.Key.{Key}
use Rattle.it_certificate.specs.declared.keys.Key.TheVariants as keys
use Rattle.it_certificate.specs.AnswerShapes.{HasQuestionShape, IsNumbered}
use Rattle.it_certificate.specs.Parts.{origins_at, text_of}

-- the rows of a region, without their marks
abbrev pub rows_of : AnswerView → List Terms
rows_of (Region rows) = map (λ r. r.1) rows
rows_of answer = []

-- ---- as they are read

-- whether the word of the answer is `region` and there are origins
unfoldable pub tells_origins : Data → Bool
tells_origins d = option_map_or (λ text. bytes_eq text (codes "region") && is_some (get (codes "origins") d)) (text_of (get (codes "answer") d)) false

-- a certificate for each row of an answer
unfoldable pub answer_origins : AnswerView → Data → Result (List CertificateView) Key
answer_origins answer d = ok_or (origins_at (length (rows_of answer)) d) keys.Origins

-- ---- what is read

-- the answer is a region
abbrev pub IsRegion : AnswerView → Type 0
IsRegion (Region rows) = Unit {0}
IsRegion answer = ⊥

-- the shape of an answer with origins that a question wants, right or not: a region, and a certificate for each of its rows
pub record HasDerivedShape (q : BodyView) (answer : AnswerView) (origins : List CertificateView) : Type 0 where
  pub answered : HasQuestionShape q answer
  pub region : IsRegion answer
  pub each : length origins ≡ length (rows_of answer)
  pub numbers : All IsNumbered origins
