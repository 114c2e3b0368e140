-- The steps that make the hull of a question's rays, of what the code has.
use Rattle.std.proofs.Common.{◌≡◌, ◌≤◌, ℤ, ℕ, List, length, Option, ap, subst, ◌∙◌}
use Rattle.it_problems.specs.Problems.{ProblemView}
use Rattle.it_space.specs.declared.spaces.Space.{Space}
use Rattle.it_space.specs.Rows.{Terms}
use Rattle.it_question.specs.Limits.{AreRatesOf, IsQuestion}
use Rattle.it_question.specs.Questions.{BodyView}
use Rattle.it_demand.specs.QuestionSpaces.{space_of}
use Rattle.it_canon.specs.QuestionDemands.{IsProblemOf}
use Rattle.it_canon.proofs.PosesLemmas.{one_problem}
use Rattle.it_hull.specs.Hulls.{first_rows}
use Rattle.it_hull.specs.KeptRates.{kept_coordinates}
use Rattle.it_outer.specs.declared.types.Limits.{Limits}
use Rattle.it_outer.specs.Outer.{limits_under}
use Rattle.it_rates.specs.Asked.{gone_rates, kept_rates, under_all_lines}
use Rattle.it_rates.specs.Frames.{frame_in, hull_frame}
use Rattle.it_rates.proofs.FrameLemmas.{same_frame, same_kept}
use Rattle.it_spans.specs.declared.types.Frame.{Frame}
use Rattle.it_spans.specs.Spans.{StepView}
use Rattle.it_bounds.specs.HullSteps.{AreMade}
use Rattle.it_bounds.specs.RightReplies.{limits_for}

module _ (limits : Limits) (q : BodyView) (k : IsQuestion q) (few_rows : limits.rows ≤ 65535) (gone_are : AreRatesOf (length q.names.rates) (gone_rates q.verb))
    (s : Space) (gone kept : List ℕ) (space : s ≡ space_of q.names) (asked : gone ≡ gone_rates q.verb) (stay : kept ≡ kept_coordinates s gone) where
  pub own_steps : (rays : List (List ℤ)) (steps : Option (List StepView)) → AreMade (frame_in limits.rows s gone) limits.effort (first_rows kept) rays steps
      → AreMade (hull_frame limits.rows q) limits.effort (first_rows (kept_rates q (gone_rates q.verb))) rays steps
  own_steps rays steps a =
      subst (λ (ks : List ℕ). AreMade (hull_frame limits.rows q) limits.effort (first_rows ks) rays steps)
      (same_kept limits.rows q k few_rows gone_are s gone kept space asked stay)
      (subst (λ (f : Frame). AreMade f limits.effort (first_rows kept) rays steps)
      (same_frame limits.rows q k few_rows gone_are s gone kept space asked stay) a)

-- with the limits under the code's problem they are those with the limits for the question
pub made_under : (limits own : Limits) (q : BodyView) (p : ProblemView) → IsProblemOf (under_all_lines q) p → own ≡ limits_under p limits
    → (rows : List Terms) (rays : List (List ℤ)) (steps : Option (List StepView)) → AreMade (hull_frame own.rows q) own.effort rows rays steps
    → AreMade (hull_frame limits.rows q) (limits_for q limits).effort rows rays steps
made_under limits own q p posed is rows rays steps a = subst (λ (l : Limits). AreMade (hull_frame l.rows q) l.effort rows rays steps)
    (is ∙ ap (λ (r : ProblemView). limits_under r limits) (one_problem (under_all_lines q) p posed)) a
