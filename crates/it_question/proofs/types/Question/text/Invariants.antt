use Rattle.std.proofs.Common.{◌≡◌, ◌++◌, drop, map}
use Rattle.it_question.specs.LineTexts.{text_of_lines}
use Rattle.it_question.proofs.types.Question.text.Given as goal

abbrev pub invariant-loop-line : goal.invariant-loop-line
invariant-loop-line l = l.text.items ++ text_of_lines (map (λ v. v.items) (drop l.line-index l.line-items))
    ≡ l.self.text
