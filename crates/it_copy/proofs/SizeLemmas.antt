-- What the size of its table says of a question.
use Rattle.std.proofs.Common.{◌≡◌, ℕ, ◌≤◌, Bool, true, false, nat_lt, sym, ◌∙◌, arith}
use Rattle.std.proofs.lemmas.Bool.Decides.{nat_tests}
use Rattle.it_problems.specs.Problems.{ProblemView}
use Rattle.it_closure.specs.Sizes.{most_entries, table_size}
use Rattle.std.proofs.lemmas.Bool.{OnFalse_at, OnFalse_from, true≢false}
use Rattle.it_question.specs.declared.sizes.FileLimits.{FileLimits}
use Rattle.it_question.specs.Questions.{BodyView}
use Rattle.it_canon.specs.QuestionDemands.{IsProblemOf}
use Rattle.it_canon.proofs.SmallProblems.{small_by_problem, small_problem}
use Rattle.it_copy.specs.ExtensionSteps.{IsLargeBy}

more_or_few : (n most : ℕ) → true ≡ nat_lt most n → n ≤ most → ⊥
more_or_few n most e few = grind (arith, nat_tests)

few_by_test : (n most : ℕ) → false ≡ nat_lt most n → n ≤ most
few_by_test n most e = grind (arith, nat_tests)

-- by the problem that the question poses, where tables are bounded
pub size_told : (limits : FileLimits) → limits.large_tables ≡ false → (q : BodyView) (p : ProblemView) → IsProblemOf q p → (large : Bool)
    → large ≡ nat_lt most_entries (table_size p) → IsLargeBy limits q large
unfolding IsLargeBy
size_told limits bounded q p is true e = λ small. more_or_few (table_size p) most_entries e (small_problem q (OnFalse_at bounded small) p is)
size_told limits bounded q p is false e = OnFalse_from limits.large_tables _ (λ u. small_by_problem q p is (few_by_test (table_size p) most_entries e))

-- any table fits where they aren't bounded
pub any_fits : (limits : FileLimits) (q : BodyView) → limits.large_tables ≡ true → IsLargeBy limits q false
unfolding IsLargeBy
any_fits limits q large = OnFalse_from limits.large_tables _ (λ bounded. absurd (true≢false (sym large ∙ bounded)))
