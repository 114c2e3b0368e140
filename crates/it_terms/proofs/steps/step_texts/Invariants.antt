use Rattle.std.proofs.Common.{map, take}
use Rattle.it_terms.specs.ProofSteps.{AreStepTexts}
use Rattle.it_terms.proofs.steps.step_texts.Given as goal

abbrev pub invariant-loop-i : goal.invariant-loop-i
invariant-loop-i l = AreStepTexts l.names l.first (take l.i l.terms) l.sum.items (map (λ line. line.items) l.lines.items)
