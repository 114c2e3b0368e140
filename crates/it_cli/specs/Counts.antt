-- The number of right answers of each kind to the questions of a generated file, and the line of these counts.
use Rattle.std.specs.Prelude.{◌≡◌, ℕ, ◌+◌, List, [], ◌∷◌, ◌++◌, codes, decimal}
use Rattle.it_space.specs.Answers.{AnswerView}
use Rattle.it_space.specs.Answers.AnswerView.{Yes, No, Undecided, Region, Contained, Open}
use Rattle.it_question.specs.Files.{IsFile}
use Rattle.it_question.specs.Questions.{QuestionView}
use Rattle.it_gen.specs.GeneratedFiles.{generated_file}
use Rattle.it_region.specs.declared.types.Candidate.{Candidate}
use Rattle.it_contain.specs.Proposals.{Plan}
use Rattle.it_answer.specs.declared.types.Budgets.{Budgets}
use Rattle.it_answer.specs.Replies.{Reply}
use Rattle.it_cli.specs.Right.{IsRightAfter}
use Rattle.it_cli.specs.declared.counts.Counts.{Counts}

-- the counts of no answers
abbrev pub no_counts : Counts
no_counts = record { yes = 0; no = 0; undecided = 0; regions = 0; contained = 0; left_open = 0 }

-- the counts with one more answer
abbrev pub with_answer : Counts → AnswerView → Counts
with_answer c (Yes ws) = record c { yes = c.yes + 1 }
with_answer c (No is_back values) = record c { no = c.no + 1 }
with_answer c (Undecided cause) = record c { undecided = c.undecided + 1 }
with_answer c (Region rows) = record c { regions = c.regions + 1 }
with_answer c (Contained parts proofs) = record c { contained = c.contained + 1 }
with_answer c (Open tried) = record c { left_open = c.left_open + 1 }

-- `end` is `counts` and one more right answer for each question, in order
abbrev pub AreCounted : Budgets → List Plan → List Candidate → Counts → List QuestionView → Counts → Type 0
AreCounted budgets plans before counts [] end = end ≡ counts
AreCounted budgets plans before counts (q ∷ qs) end =
    (reply : Reply) × IsRightAfter budgets plans before q reply × AreCounted budgets plans (before ++ reply.found) (with_answer counts reply.answer) qs end

-- the line of the counts
unfoldable pub bench_line : ℕ → ℕ → Counts → List ℕ
bench_line seed count c = codes "bench seed " ++ decimal seed ++ codes " count " ++ decimal count
    ++ codes " yes " ++ decimal c.yes ++ codes " no " ++ decimal c.no ++ codes " undecided " ++ decimal c.undecided
    ++ codes " region " ++ decimal c.regions ++ codes " contained " ++ decimal c.contained ++ codes " open " ++ decimal c.left_open ++ codes "\n"

-- the line for the generated file of this seed and count
pub record IsBenchLine (budgets : Budgets) (plans : List Plan) (seed count : ℕ) (line : List ℕ) : Type 0 where
  pub questions : List QuestionView
  pub asked : IsFile (generated_file seed count) questions
  pub counts : Counts
  pub counted : AreCounted budgets plans [] no_counts questions counts
  pub is : line ≡ bench_line seed count counts
