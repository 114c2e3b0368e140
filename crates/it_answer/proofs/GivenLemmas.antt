-- The problem of a question that eliminates rates: the constraints of its `given` lines alone, which speak of entropies.
use Rattle.std.proofs.Common.{◌≡◌, ◌↔◌, ℕ, ◌≤◌, ℤ, pos, sym, ap, subst, ◌∙◌, arith, List, [], flat_map, length, All}
use Rattle.std.proofs.lemmas.List.{append-nil}
use Rattle.std.proofs.lemmas.List.Elements.{All-nil}
use Rattle.it_space.specs.declared.spaces.Space.{Space}
use Rattle.it_problems.specs.Problems.{ProblemView, AreMet}
use Rattle.it_syntax.specs.Givens.{IsGivenOf, IsTrueAt}
use Rattle.it_syntax.specs.Meaning.{Holds}
use Rattle.it_question.specs.OwnLines.{OwnLinesView}
use Rattle.it_question.specs.Questions.{BodyView, VerbView, Eliminate}
use Rattle.it_question.specs.Limits.{AreRatesOf, IsQuestion, IsVerbOver}
use Rattle.it_demand.specs.Demands.{Demand, demands}
use Rattle.it_demand.specs.Origins.{AreStated, States}
use Rattle.it_demand.specs.QuestionSpaces.{space_of}
use Rattle.it_question.specs.LineDemands.{line_demands}
use Rattle.it_question.specs.ProblemLines.{names_under, lines_under}
use Rattle.it_canon.specs.QuestionDemands.{IsProblemOf, question_origins}
use Rattle.it_canon.proofs.GivenSets.{given_sets}
use Rattle.it_canon.proofs.LinesMet.{lines_met}
use Rattle.it_demand.proofs.LimitLemmas.{givens-few}
use Rattle.it_demand.proofs.ZipLemmas.{zip-length}
use Rattle.it_redundant.specs.Theorems.{SpeakOfSets}

module _ (q : BodyView) (rates : List ℕ) (givens : ProblemView) (is : q.verb ≡ Eliminate rates) (own : IsProblemOf q givens) where
  pub space_of_names : givens.space ≡ space_of q.names
  space_of_names = own.space ∙ ap (λ verb. space_of (names_under q.names verb)) is

  abbrev given_lines : OwnLinesView
  given_lines = record { givens = q.lines.givens; rows = [] }

  lines_stated : AreStated givens.space (question_origins q) (line_demands givens.space.variables given_lines) givens.constraints
  lines_stated = subst (λ (s : Space). AreStated givens.space (question_origins q)
      (line_demands s.variables given_lines) givens.constraints) (sym space_of_names)
      (subst (λ (verb : VerbView). AreStated givens.space (question_origins q)
      (line_demands (length (names_under q.names verb).variables) (lines_under q.lines verb)) givens.constraints) is own.constraints)

  pub givens_stated : AreStated givens.space (question_origins q) (flat_map (demands givens.space.variables) q.lines.givens) givens.constraints
  givens_stated = subst (λ (ds : List Demand). AreStated givens.space (question_origins q) ds givens.constraints)
      (append-nil (flat_map (demands givens.space.variables) q.lines.givens)) lines_stated

  -- the constraints are met where the givens are true
  pub met_where_true : (p : ℕ → ℤ) → p 0 ≡ pos 0 → AreMet p givens.constraints ↔ All (IsTrueAt givens.space.variables p) q.lines.givens
  met_where_true p z =
      let both = lines_met givens.space (question_origins q) given_lines givens.constraints lines_stated p z in (
        λ m. (both.0 m).givens,
        λ g. both.1 (record { givens = g; rows = All-nil (Holds givens.space.variables p) }),
      )

  module _ (limits : IsQuestion q) where
    are_givens : All (IsGivenOf givens.space.variables) q.lines.givens
    are_givens = subst (λ (s : Space). All (IsGivenOf s.variables) q.lines.givens) (sym space_of_names) limits.lines.givens

    pub few_constraints : length givens.constraints ≤ 65535
    few_constraints =
        let wanted = flat_map (demands givens.space.variables) q.lines.givens in
        omega (
          arith,
          zip-length (States givens.space) wanted givens.constraints givens_stated.stated,
          givens-few givens.space.variables
              q.lines.givens are_givens,
          limits.lines.few_givens,
        )

    pub constraints_of_sets : SpeakOfSets givens
    constraints_of_sets = given_sets givens.space (question_origins q) q.lines.givens givens.constraints are_givens givens_stated

-- the rates that it eliminates are some of its own
pub rates_of_question : (q : BodyView) (rates : List ℕ) → q.verb ≡ Eliminate rates → IsQuestion q → AreRatesOf (length q.names.rates) rates
rates_of_question q rates is limits = subst (IsVerbOver q.names) is limits.verb
