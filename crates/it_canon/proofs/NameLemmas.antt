-- The names under which a question asks.
use Rattle.std.proofs.Common.{◌≤◌, List, length, length-append, ap, arith}
use Rattle.it_syntax.specs.NamesViews.{NamesView}
use Rattle.it_question.specs.Questions.{BodyView, VerbView, Prove, Eliminate, Contain}
use Rattle.it_question.specs.Limits.{IsQuestion, IsVerbOver}
use Rattle.it_question.specs.ProblemLines.{names_under}
use Rattle.it_canon.specs.TrueLines.{variable_count}

-- a question has at least one variable
pub some_names : (q : BodyView) → IsQuestion q → 1 ≤ variable_count q
some_names q k = by_verb q.verb k.verb
  where
    by_verb : (verb : VerbView) → IsVerbOver q.names verb → 1 ≤ length (names_under q.names verb).variables
    by_verb (Prove r) over = k.some
    by_verb (Eliminate rates) over = k.some
    by_verb (Contain a b tries) over = omega (arith, k.some, ap length over.0.variables, length-append q.names.variables over.0.own)
