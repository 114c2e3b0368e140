use Rattle.std.proofs.Common.{◌≡◌, ◌++◌, drop}
use Rattle.it_answer.specs.DueContainments.{tried_of}
use Rattle.it_answer.proofs.containments.tried_of.Given as goal

abbrev pub invariant-loop-parts : goal.invariant-loop-parts
invariant-loop-parts l = l.candidates.items ++ tried_of l.second (drop l.parts-index l.tries) ≡ tried_of l.second l.tries
