use Rattle.std.proofs.Common.{◌≡◌, length}
use Rattle.it_question.specs.LineTexts.{without_leading}
use Rattle.it_question.proofs.texts.without_leading.Given as goal

abbrev pub invariant-loop-rest : goal.invariant-loop-rest
invariant-loop-rest l = without_leading l.rest ≡ without_leading l.fn.line

abbrev pub decreases-loop-rest : goal.decreases-loop-rest
decreases-loop-rest l = length l.rest
