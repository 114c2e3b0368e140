-- An outer bound in a report: rows, a certificate of each, and rays, each with the rows that are dropped after it when their
-- hull is made.
use Rattle.std.specs.Prelude.{◌≡◌, ℕ, List, length, map, All, codes, Option, Some, option_map, option_and_then, Result, Ok, Err, ok_or}
use Rattle.std.specs.Option.{option_zip}
use Rattle.serde_json.specs.Data.{Data}
use Rattle.serde_json.specs.Find.{get}
use Rattle.it_space.specs.Answers.{CertificateView, certificate_view}
use Rattle.it_space.specs.Rows.{Terms, IsOver}
use Rattle.it_space.specs.Spaces.{size_of}
use Rattle.it_spans.specs.Drops.{DropView}
use Rattle.it_spans.specs.Spans.{StepView, step_views}
use Rattle.it_syntax.specs.NamesViews.{NamesView}
use Rattle.it_question.specs.Questions.{BodyView, VerbView, Eliminate}
use Rattle.it_demand.specs.QuestionSpaces.{space_of}
use Rattle.it_rates.specs.Asked.{eliminated_by}
use Rattle.it_certificate.specs.declared.keys.Key.{Key}
use Rattle.it_certificate.specs.declared.keys.Key.TheVariants as keys
use Rattle.it_certificate.specs.declared.types.ReportedBounds.{ReportedBounds}
use Rattle.it_certificate.specs.AnswerReading.{and_then}
use Rattle.it_certificate.specs.Parts.{certificate_at, count_at, list_at, point_at, proofs_at, unmarked_row_at}

-- rows, a certificate of each, and steps that make the hull of their rays
pub record BoundsView : Type 0 where
  pub rows : List Terms
  pub proofs : List CertificateView
  pub steps : List StepView

-- bounds as contracts see them
abbrev pub bounds_view : ReportedBounds → BoundsView
bounds_view b = record { rows = b.rows.items; proofs = map certificate_view b.proofs.items; steps = step_views b.steps.items }

-- ---- as they are read

-- the rows
unfoldable pub unmarked_rows_at : ℕ → Data → Option (List Terms)
unmarked_rows_at size d = list_at (unmarked_row_at size) (get (codes "rows") d)

-- a row that is dropped: its number in the list as it stands, and a certificate that it follows from the others
unfoldable pub drop_at : Data → Option DropView
drop_at d = option_map (λ p. record { row = p.0; proof = p.1 }) (option_zip (option_and_then count_at (get (codes "row") d)) (certificate_at d))

-- a ray of `size` values, and the rows that are dropped after it
unfoldable pub step_at : ℕ → Data → Option StepView
step_at size d = option_map (λ p. record { ray = p.0; drops = p.1 }) (option_zip (point_at size d) (list_at drop_at (get (codes "drops") d)))

-- the rays
unfoldable pub steps_at : ℕ → Data → Option (List StepView)
steps_at size d = list_at (step_at size) (get (codes "rays") d)

-- bounds over a space with `size` coordinates: rows, a certificate of each, and rays
unfoldable pub bounds_at : ℕ → Data → Result BoundsView Key
bounds_at size d =
    and_then (ok_or (unmarked_rows_at size d) keys.Rows) (λ rows.
    and_then (ok_or (proofs_at (length rows) d) keys.Proofs) (λ proofs.
    and_then (ok_or (steps_at size d) keys.Rays) (λ steps. Ok (record { rows = rows; proofs = proofs; steps = steps }))))

-- the bounds of a question of this verb, which asks to eliminate rates
abbrev pub verb_bounds : NamesView → VerbView → Data → Result BoundsView Key
verb_bounds v (Eliminate rates) d = bounds_at (size_of (space_of v)) d
verb_bounds v verb d = Err keys.Answer

-- ---- what is read

-- the shape of the bounds that a question wants, right or not: it asks to eliminate rates; the rows are over its coordinates, each has a
-- certificate, and a ray has a value for each coordinate
pub record HasBoundsShape (q : BodyView) (b : BoundsView) : Type 0 where
  pub gone : List ℕ
  pub asked : eliminated_by q.verb ≡ Some gone
  pub rows : All (IsOver (size_of (space_of q.names))) b.rows
  pub proofs : length b.proofs ≡ length b.rows
  pub rays : All (λ s. length s.ray ≡ size_of (space_of q.names)) b.steps
