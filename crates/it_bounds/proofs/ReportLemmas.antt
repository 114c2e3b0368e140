-- The line of a report, from its parts.
use Rattle.std.proofs.Common.{◌≡◌, ℕ, List, ◌++◌, true, Some, None, refl, ap, ap₂, ◌∙◌}
use Rattle.std.specs.Prelude.{codes}
use Rattle.it_spans.specs.Spans.{StepView}
use Rattle.it_question.specs.Questions.{QuestionView}
use Rattle.it_question.specs.ProblemLines.{problem_names}
use Rattle.it_outer.specs.declared.types.Limits.{Limits}
use Rattle.it_certificate.specs.Values.{OfQuestion, bounds_members, misfit_members, report_text}
use Rattle.it_answer.specs.Truth.{region_rows}
use Rattle.it_bounds.specs.Replies.{ReplyView, Bounded, Undecided, Size, Other}
use Rattle.it_bounds.specs.Reports.{AreToldSteps, IsToldReport, told_report, unreported}
use Rattle.it_bounds.specs.ReportViews.{IsBoundsReport}

module _ (limits : Limits) (q : QuestionView) (text line : List ℕ) (same : text ≡ q.text) where
  pub bounds_told : (reply : ReplyView) (steps : List StepView) → IsBoundsReport (OfQuestion text) reply steps line → AreToldSteps true limits q.body reply (Some steps) → IsToldReport limits q reply (line ++ codes "\n")
  bounds_told (Bounded rows proofs rays) steps is told =
      (Some steps, told, ap (λ (t : List ℕ). t ++ codes "\n") (is ∙ ap (λ (t : List ℕ). report_text (OfQuestion t) (bounds_members (record { rows = region_rows rows; proofs = proofs; steps = steps }))) same))
  bounds_told (Undecided cause) steps is told = absurd is
  bounds_told Size steps is told = absurd is
  bounds_told Other steps is told = absurd is

  pub misfit_told : (reply : ReplyView) (words : List ℕ) → words ≡ unreported limits (problem_names q.body) reply
      → line ≡ report_text (OfQuestion text) (misfit_members words) → AreToldSteps true limits q.body reply None
      → IsToldReport limits q reply (line ++ codes "\n")
  misfit_told reply words are is told = (None, told, ap (λ (t : List ℕ). t ++ codes "\n") (is ∙ ap₂ (λ (t ws : List ℕ). report_text (OfQuestion t) (misfit_members ws)) same are) ∙ without_steps reply)
    where
      without_steps : (r : ReplyView) → report_text (OfQuestion q.text) (misfit_members (unreported limits (problem_names q.body) r)) ++ codes "\n" ≡ told_report limits q r None
      without_steps (Bounded rows proofs rays) = refl
      without_steps (Undecided cause) = refl
      without_steps Size = refl
      without_steps Other = refl
