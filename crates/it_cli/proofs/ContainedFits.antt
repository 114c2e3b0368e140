-- A right containment fits its question.
use Rattle.std.proofs.Common.{◌≡◌, ℕ, ◌<◌, ◌≤◌, ◌^◌, List, length, subst, ◌∙◌, arith, pow_mono}
use Rattle.std.proofs.lemmas.List.Elements.{All-weaker}
use Rattle.it_space.specs.Answers.{CertificateView}
use Rattle.it_space.specs.Answers.AnswerView.{Contained}
use Rattle.it_question.specs.OwnLines.{RegionView}
use Rattle.it_question.specs.Questions.{BodyView, Contain}
use Rattle.it_canon.specs.QuestionDemands.{problem_of, IsProblemOf}
use Rattle.it_region.specs.declared.types.Candidate.{Candidate}
use Rattle.it_region.specs.Obligations.{obligations}
use Rattle.it_contain.specs.Proposals.{Plan}
use Rattle.it_certificate.specs.AnswerShapes.{HasContainmentShape}
use Rattle.it_answer.specs.declared.types.Budgets.{Budgets}
use Rattle.it_answer.specs.DueContainments.{IsDueContainment}
use Rattle.it_answer.specs.Shows.{ShowsContained}
use Rattle.it_report.proofs.CountLemmas.{obligations_counted}
use Rattle.it_cli.proofs.JsonLemmas.{proofs_scaled, all_numbered, all_counted}
use Rattle.it_question.specs.Limits.{IsQuestion, IsVerbOver}
use Rattle.it_question.specs.QuestionLimits.{most_names}

module _ (q : BodyView) (k : IsQuestion q) (posed : IsProblemOf q (problem_of q)) (first second : RegionView) (tries : List (List ℕ))
    (about : q.verb ≡ Contain first second tries) where
  few_variables : length first.names.variables ≤ most_names
  few_variables = (subst (IsVerbOver q.names) about k.verb).0.few_variables

  pub contained_fits : (budgets : Budgets) (plans : List Plan) (parts : List ℕ) (ws : List CertificateView) (found : List Candidate)
      → ShowsContained q first second parts ws
      → IsDueContainment budgets plans q first second tries (record { answer = Contained parts ws; found = found }) → HasContainmentShape first second parts ws
  contained_fits budgets plans parts ws found shown due =
      let forms = obligations q first second parts in
      let scaled = proofs_scaled (problem_of q) budgets.effort _ ws due.proofs.proofs in
      let small : (s : ℕ) → s < 2 ^ length first.names.variables
      → s < 2 ^ 32 = λ s h. omega (arith, h, pow_mono {i = length first.names.variables} {j = most_names} few_variables) in
      record {
        each = shown.are_parts.count;
        sets = All-weaker (λ s. s < 2 ^ length first.names.variables) (λ s. (s < 2 ^ 32) × (s < 2 ^ length first.names.variables))
            (λ s h. (small s h, h)) parts shown.are_parts.within;
        obligations = all_counted q (problem_of q) posed.space posed.limits posed.constraints.stated forms ws shown.certified
            ∙ obligations_counted q first second parts;
        numbers = all_numbered q (problem_of q) posed.space posed.limits posed.constraints.stated forms ws shown.certified scaled;
      }
