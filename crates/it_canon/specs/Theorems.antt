-- A question of a file poses a problem, and no other, and its table isn't too large.
use Rattle.std.specs.Prelude.{◌≡◌, ℕ, ◌≤◌, List, map, All}
use Rattle.it_problems.specs.Problems.{ProblemView}
use Rattle.it_closure.specs.Sizes.{most_entries, table_size}
use Rattle.it_syntax.specs.Meaning.{RelationView}
use Rattle.it_demand.specs.QuestionSpaces.{space_of}
use Rattle.it_demand.specs.SystemForms.{AreRowsOf}
use Rattle.it_demand.specs.Targets.{targets}
use Rattle.it_question.specs.declared.sizes.FileLimits.{FileLimits}
use Rattle.it_question.specs.Files.{IsFile, IsFileWithin}
use Rattle.it_question.specs.Questions.{BodyView, QuestionView, Prove}
use Rattle.it_question.specs.ProblemLines.{problem_names}
use Rattle.it_canon.specs.TrueLines.{variable_count}
use Rattle.it_canon.specs.QuestionDemands.{problem_of, terms_in, IsProblemOf}

-- the constraints of the problem that a question of a file poses state what its lines demand, within the limits
abbrev pub QuestionHasProblem : Type 0
QuestionHasProblem = (limits : FileLimits) (bytes : List ℕ) (qs : List QuestionView) → IsFileWithin limits bytes qs
    → All (λ q. IsProblemOf q.body (problem_of q.body)) qs

-- where a question of a file is about a relation, the terms of the relation's targets are their rows
abbrev pub RelationHasRows : Type 0
RelationHasRows = (limits : FileLimits) (bytes : List ℕ) (qs : List QuestionView) → IsFileWithin limits bytes qs
    → All (λ q. (r : RelationView) → q.body.verb ≡ Prove r
    → AreRowsOf (space_of (problem_names q.body)) (targets (variable_count q.body) r) (map (terms_in q.body) (targets (variable_count q.body) r))) qs

-- the table with which the run about the problem of a question of a usual file begins isn't too large
abbrev pub TableIsSmall : Type 0
TableIsSmall = (bytes : List ℕ) (qs : List QuestionView) → IsFile bytes qs → All (λ q. (p : ProblemView) → IsProblemOf q.body p → table_size p ≤ most_entries) qs

-- a problem that states what a question demands is the one that it poses
abbrev pub OneProblem : Type 0
OneProblem = (q : BodyView) (p : ProblemView) → IsProblemOf q p → p ≡ problem_of q
