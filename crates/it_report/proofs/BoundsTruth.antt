-- Valid bounds are exact.
use Rattle.std.proofs.Common.{◌≡◌, ℕ, ℤ, pos, ◌≤ℤ◌, List, [], ◌∷◌, length, Ok, refl, sym, subst, arith, All}
use Rattle.std.specs.List.{AllByRecursion as Every}
use Rattle.it_space.specs.declared.spaces.Space.{Space}
use Rattle.it_space.specs.Answers.{CertificateView}
use Rattle.it_problems.specs.Problems.{ProblemView, IsProblem}
use Rattle.it_space.specs.Rows.{Terms, IsOver, point_of, value}
use Rattle.it_space.specs.Spaces.{size_of}
use Rattle.it_space.proofs.EveryLemmas.{all_of, every_of}
use Rattle.it_check.specs.declared.verdicts.Verdict.TheVariants.{Valid}
use Rattle.it_check.specs.Meaning.{MeetsAt}
use Rattle.it_check.proofs.Truth.{valid_met_is, valid_yes_is, yes_is_true}
use Rattle.it_hull.specs.Hulls.{IsHull}
use Rattle.it_hull.specs.Theorems.{MeetsProblem}
use Rattle.it_spans.specs.declared.types.HullVerdict.TheVariants.{Valid as HullIsValid}
use Rattle.it_spans.specs.Spans.{StepView, rays_of}
use Rattle.it_spans.proofs.VerdictLemmas.{valid_rows}
use Rattle.it_question.specs.declared.sizes.FileLimits.{FileLimits}
use Rattle.it_question.specs.Limits.{IsQuestion}
use Rattle.it_question.specs.Questions.{BodyView}
use Rattle.it_demand.specs.QuestionSpaces.{space_of}
use Rattle.it_canon.specs.QuestionDemands.{IsProblemOf, problem_of}
use Rattle.it_canon.proofs.ExistenceLemmas.{question_poses}
use Rattle.it_rates.specs.Asked.{gone_rates, kept_rates, under_all_lines}
use Rattle.it_rates.specs.Frames.{hull_frame}
use Rattle.it_rates.specs.Bounds.{AreExactBounds, IsTrueRay}
use Rattle.it_rates.proofs.AskedLemmas.{all_lines_question, asked_rates, at_question, meets_true}
use Rattle.it_rates.proofs.BoundLemmas.{hull_is_exact}
use Rattle.it_certificate.specs.Bounds.{BoundsView, HasBoundsShape}
use Rattle.it_certificate.specs.Reports.{Bounded, Reading}
use Rattle.it_certificate.specs.Sources.{IsSourceAt, IsSourceOf, asked}
use Rattle.it_certificate.proofs.SourceNumbers.{source_limits, source_numbers}
use Rattle.it_report.specs.BoundsVerdicts.{HullVerdictIs, most_rows}
use Rattle.it_report.specs.Judging.{IsReadingVerdict}
use Rattle.it_report.specs.LineVerdicts.{Hulled}
use Rattle.it_report.specs.Meaning.{ValidIsTrueOfBounds}
use Rattle.it_report.specs.RowVerdicts.{proof_verdict, proofs_verdict, ray_verdict, rays_verdict}
use Rattle.it_certificate.proofs.OneLemmas.{one_reading}
use Rattle.it_rates.proofs.FrameLemmas.{are_kept, is_frame}
use Rattle.it_report.proofs.OneLemmas.{same_read}
use Rattle.it_report.proofs.ReadingLemmas.{bounds_are}
use Rattle.it_report.proofs.VerdictLemmas.{both_valid}

-- ---- valid rows and rays

module _ (p : ProblemView) (k : IsProblem p) where
  pub rows_hold : (rows : List Terms) (ws : List CertificateView) → Every (IsOver (size_of p.space)) rows → length ws ≡ length rows
      → proofs_verdict p rows ws ≡ Valid
      → Every (λ row. (x : ℕ → ℤ) → MeetsProblem p x → pos 0 ≤ℤ value row x) rows
  unfolding proofs_verdict
  rows_hold [] ws o l e = tt
  rows_hold (row ∷ rows) [] o l e = absurd (omega (arith, l))
  rows_hold (row ∷ rows) (w ∷ ws) o l e =
      let c = both_valid (proof_verdict p row w) (proofs_verdict p rows ws) e in
      (λ x m. yes_is_true p row w k o.0 ((valid_yes_is p row w k o.0).0 c.0).0 x m.0 m.1, rows_hold rows ws o.1 (omega (arith, l)) c.1)

  rays_met : (steps : List StepView) → Every (λ s. length s.ray ≡ size_of p.space) steps → rays_verdict p steps ≡ Valid → Every (MeetsAt p) (rays_of steps)
  unfolding rays_verdict
  rays_met [] o e = tt
  rays_met (s ∷ steps) o e =
      let c = both_valid (ray_verdict p s.ray) (rays_verdict p steps) e in
      (((valid_met_is p s.ray k o.0).0 c.0).0, rays_met steps o.1 c.1)

-- ---- exact bounds

module _ (q : BodyView) (b : BoundsView) (k : IsQuestion q) (fits : HasBoundsShape q b) (p : ProblemView) (posed : IsProblemOf (under_all_lines q) p) where
  to_problem : (P : Space → Type 0) → P (space_of q.names) → P p.space
  to_problem P x = subst P (sym posed.space) x

  rays_true : (rays : List (List ℤ)) → Every (MeetsAt p) rays → Every (IsTrueRay q) rays
  rays_true [] m = tt
  rays_true (values ∷ rays) m = (
    record {
      complete = at_question q p posed (λ s. length values ≡ size_of s) m.0.complete;
      lines_true = meets_true q p posed
          (point_of values) (m.0.polymatroid, m.0.met);
    },
    rays_true rays m.1,
  )

  pub exact_bounds : proofs_verdict p b.rows b.proofs ≡ Valid → rays_verdict p b.steps ≡ Valid → HullVerdictIs q b HullIsValid
      → AreExactBounds q (gone_rates q.verb) b.rows (rays_of b.steps)
  exact_bounds rows rays hull =
      let gone = gone_rates q.verb in
      let over = every_of (IsOver (size_of p.space)) b.rows (to_problem (λ s. All (IsOver (size_of s)) b.rows) fits.rows) in
      let complete = every_of (λ (s : StepView). length s.ray ≡ size_of p.space) b.steps
      (to_problem (λ s. All (λ (x : StepView). length x.ray ≡ size_of s) b.steps) fits.rays) in
      let is_hull : IsHull (kept_rates q gone) b.rows (rays_of b.steps) =
      let asked = asked_rates q fits.gone k fits.asked in
      valid_rows (hull_frame most_rows q) (kept_rates q gone) b.steps b.rows hull.end HullIsValid
      (is_frame most_rows q k (omega arith) asked) (are_kept most_rows q k (omega arith) asked) hull.ends hull.verdict_is refl in
      hull_is_exact q p gone b.rows (rays_of b.steps) posed is_hull
      (all_of (λ (row : Terms). (x : ℕ → ℤ) → MeetsProblem p x → pos 0 ≤ℤ value row x) b.rows (rows_hold p posed.limits b.rows b.proofs over fits.proofs rows))
      (all_of (IsTrueRay q) (rays_of b.steps) (rays_true (rays_of b.steps) (rays_met p posed.limits b.steps complete rays)))

pub valid_is_true_of_bounds : ValidIsTrueOfBounds
valid_is_true_of_bounds limits line source b v h =
    let q = (asked source).body in
    let same : v.reading ≡ Bounded source b = same_read v.reading (Bounded source b)
    (one_reading limits line (Ok v.reading) (Ok (Bounded source b)) v.reads h) in
    let told = subst (λ (r : Reading). IsReadingVerdict r (Hulled HullIsValid)) same v.verdict in
    let read = bounds_are h.reads.own h.value source b h.reads.is in
    let own : IsSourceOf limits h.value source = subst (IsSourceAt limits h.value) read.0 h.reads.source in
    let within = source_limits limits h.value source own in
    let small = source_numbers limits h.value source own in
    let p = problem_of (under_all_lines q) in
    let posed = question_poses (under_all_lines q) (all_lines_question q within) (small.0, (tt, tt)) in
    let parts = both_valid (proofs_verdict p b.rows b.proofs) (rays_verdict p b.steps) told.0 in
    exact_bounds q b within read.1 p posed parts.0 parts.1 told.1
