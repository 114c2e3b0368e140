use Rattle.it_simplex.proofs.AnswerLemmas.{ends_once}
use Rattle.it_simplex.proofs.laws.ends_once.Goals as goal

pub returns : goal.returns
returns c = λ cs columns target budget d e a b. ends_once cs columns target budget d e a b
