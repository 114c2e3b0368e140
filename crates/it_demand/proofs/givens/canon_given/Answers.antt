use Rattle.std.proofs.Common.{◌≡◌, ◌↔◌, ℕ, ℤ, pos, Ok, Err, IfOk}
use Rattle.it_problems.specs.Problems.{AreMet}
use Rattle.it_syntax.specs.Givens.{given_view, IsTrueAt}
use Rattle.it_demand.specs.Demands.{demands}
use Rattle.it_demand.specs.Origins.{AreParts}
use Rattle.it_demand.proofs.MetLemmas.{given_met}
use Rattle.it_demand.proofs.givens.canon_given.Goals as goal

pub returns-clause-met : goal.returns-clause-met
returns-clause-met c = elim c.constraints_of.result as (λ r. IfOk r
    (λ v. AreParts c.args.space c.args.line (demands c.args.space.variables (given_view c.args.given.now)) v.items)
    → IfOk r (λ v. (p : ℕ → ℤ) → p 0 ≡ pos 0 → AreMet p v.items ↔ IsTrueAt c.args.space.variables p (given_view c.args.given.now))) [
      | Ok v ↦ (λ h. given_met c.args.space c.args.line (given_view c.args.given.now) v.items h)
      | Err e ↦ (λ h. tt)
    ] c.constraints_of.ensures
