use Rattle.it_factor.specs.QuickSteps.{IsStep}
use Rattle.it_factor.proofs.quick.quick_factor.Given as goal

abbrev pub invariant-loop : goal.invariant-loop
invariant-loop l = IsStep l.problem l.left l.right l.step
