use Rattle.std.proofs.Common.{◌≡◌, length}
use Rattle.it_question.specs.LineTexts.{without_trailing}
use Rattle.it_question.proofs.texts.without_trailing.Given as goal

abbrev pub invariant-loop-last : goal.invariant-loop-last
invariant-loop-last l = without_trailing l.rest ≡ without_trailing l.fn.line

abbrev pub decreases-loop-last : goal.decreases-loop-last
decreases-loop-last l = length l.rest
