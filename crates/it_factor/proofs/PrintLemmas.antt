-- What was found of a question's factors can be printed: its generators are there, and its points are of the question's names.
use Rattle.std.proofs.Common.{◌≡◌, ◌+◌, ◌<◌, ◌≤◌, ℕ, ℤ, List, length, length-append, ap, arith}
use Rattle.std.proofs.lemmas.List.{length-map}
use Rattle.std.proofs.lemmas.List.Elements.{All-weaker}
use Rattle.std.proofs.lemmas.Nat.{pow_pos}
use Rattle.std.proofs.Math.Pow.{pow_mono}
use Rattle.it_space.specs.declared.answers.Certificate.{Certificate}
use Rattle.it_space.specs.Answers.{certificate_view}
use Rattle.it_problems.specs.Problems.{ProblemView}
use Rattle.it_polymatroid.specs.Certificates.{Form}
use Rattle.it_polymatroid.specs.Elementals.{elementals}
use Rattle.it_syntax.specs.Meaning.{RelationView}
use Rattle.it_syntax.specs.NamesViews.{NamesView}
use Rattle.it_question.specs.Limits.{IsQuestion}
use Rattle.it_space.specs.Spaces.{most_variables}
use Rattle.it_question.specs.Questions.{BodyView, Prove}
use Rattle.it_question.specs.ProblemLines.{problem_names, names_under}
use Rattle.it_demand.specs.Demands.{Demand}
use Rattle.it_demand.specs.Origins.{States}
use Rattle.it_demand.proofs.ZipLemmas.{zip-length}
use Rattle.it_canon.specs.QuestionDemands.{IsProblemOf, question_demands}
use Rattle.it_canon.specs.TrueLines.{variable_count}
use Rattle.it_answer.specs.Forms.{CertifiesForm, IsAllowedWeight, all_demands}
use Rattle.it_prove.specs.declared.types.Effort.{Effort}
use Rattle.it_ratio.specs.declared.types.Best.{Best}
use Rattle.it_ratio.specs.declared.types.Best.TheVariants as answers
use Rattle.it_ratio.specs.BestViews.{best_view}
use Rattle.it_best.specs.Factors.{IsPoint}
use Rattle.it_factor.specs.declared.types.Reply.{Reply}
use Rattle.it_factor.specs.declared.types.Reply.TheVariants as replies
use Rattle.it_factor.specs.Lines.{AreValuesOf, IsBestPrintable, IsPrintable, IsThere}
use Rattle.it_factor.specs.Replies.{reply_view}
use Rattle.it_factor.specs.RightReplies.{IsDueReply, ShowsFactor, question_ground}

length-demands : (n : ℕ) (ds : List Demand) → length (all_demands n ds) ≡ length (elementals n) + length ds
unfolding all_demands
length-demands n ds = simp (length-append, length-map)

-- there is a constraint for each demand
pub constraint_count : (q : BodyView) (p : ProblemView) → IsProblemOf q p → length p.constraints ≡ length (question_demands q)
constraint_count q p posed = zip-length (States p.space) (question_demands q) p.constraints posed.constraints.stated

module _ (q : BodyView) (m : ℕ) (count : m ≡ length (question_demands q)) where
  generators_there : (f : Form) (w : Certificate) → CertifiesForm q f (certificate_view w) → IsThere (variable_count q) m w
  generators_there f w c = All-weaker (IsAllowedWeight (all_demands (variable_count q) (question_demands q)))
      (λ (x : ℕ × ℤ). x.0 < length (elementals (variable_count q)) + m)
      (λ x a. omega (arith, a.0, length-demands (variable_count q) (question_demands q), count)) w.weights.items c.allowed

  values_of_names : (values : List ℤ) → length (problem_names q).variables ≤ most_variables → length (problem_names q).rates ≤ 16
      → IsPoint (question_ground q) values → AreValuesOf (problem_names q) values
  values_of_names values few few_rates i = (
    omega (arith, i.complete, pow_pos (variable_count q)),
    omega (arith, i.complete, pow_mono {i = variable_count q} {j = most_variables} few, few_rates),
  )

  best_printable : (r s : RelationView) (best : Best) → IsQuestion q → q.verb ≡ Prove s → ShowsFactor q r (best_view best)
      → IsBestPrintable (problem_names q) m best
  best_printable r s best k verb shown = by_best best shown
    where
      names_are : problem_names q ≡ q.names
      names_are = ap (names_under q.names) verb

      few : length (problem_names q).variables ≤ most_variables
      few = omega (arith, ap (λ (v : NamesView). length v.variables) names_are, k.few)

      few_rates : length (problem_names q).rates ≤ 16
      few_rates = omega (arith, ap (λ (v : NamesView). length v.rates) names_are, k.few_rates)

      by_best : (best : Best) → ShowsFactor q r (best_view best) → IsBestPrintable (problem_names q) m best
      by_best (answers.Least num den proof point) s = (generators_there _ proof s.factor.certified, values_of_names point few few_rates s.point)
      by_best (answers.Never point) s = values_of_names point few few_rates s.point
      by_best (answers.Unbounded num den proof below) s = (generators_there _ proof s.0.certified, generators_there _ below s.1)
      by_best (answers.Undecided cause) s = tt

  -- what is printed of a reply is there
  pub reply_printable : (effort : Effort) (r : RelationView) (reply : Reply) → IsQuestion q → q.verb ≡ Prove r
      → IsDueReply effort q (reply_view reply) → IsPrintable q m reply
  reply_printable effort r (replies.Found best) k verb right = best_printable right.0 r best k verb right.2.shows
  reply_printable effort r replies.Other k verb right = tt
