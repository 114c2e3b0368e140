-- The result of answering a question: the answer, and the candidate of which the boxes learn.
use Rattle.std.specs.Prelude.{List}
use Rattle.it_space.specs.Answers.{AnswerView}
use Rattle.it_region.specs.declared.types.Candidate.{Candidate}

-- an answer, with the candidate that it found, if any, of which the boxes learn
pub record Reply : Type 0 where
  pub answer : AnswerView
  pub found : List Candidate
