-- The table of the problem that a question poses isn't too large.
use Rattle.std.proofs.Common.{◌≤◌, sym, subst}
use Rattle.std.proofs.lemmas.List.Elements.{All-weaker}
use Rattle.it_problems.specs.Problems.{ProblemView}
use Rattle.it_closure.specs.Sizes.{most_entries, table_size}
use Rattle.it_question.specs.Questions.{BodyView, QuestionView}
use Rattle.it_question.specs.TableSizes.{HasSmallTable}
use Rattle.it_question.proofs.FileReadings.{file_has_small_tables}
use Rattle.it_canon.specs.QuestionDemands.{IsProblemOf}
use Rattle.it_canon.specs.Theorems.{TableIsSmall}
use Rattle.it_canon.proofs.PosesLemmas.{one_problem}

pub small_problem : (q : BodyView) → HasSmallTable q → (p : ProblemView) → IsProblemOf q p → table_size p ≤ most_entries
small_problem q h p k = subst (λ (r : ProblemView). table_size r ≤ most_entries) (sym (one_problem q p k)) h

pub small_by_problem : (q : BodyView) (p : ProblemView) → IsProblemOf q p → table_size p ≤ most_entries → HasSmallTable q
small_by_problem q p k h = subst (λ (r : ProblemView). table_size r ≤ most_entries) (one_problem q p k) h

pub file_tables_small : TableIsSmall
file_tables_small bytes qs file =
    All-weaker (λ (q : QuestionView). HasSmallTable q.body) (λ (q : QuestionView). (p : ProblemView) → IsProblemOf q.body p → table_size p ≤ most_entries)
    (λ q h. small_problem q.body h) qs (file_has_small_tables bytes qs file)
