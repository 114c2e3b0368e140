use Rattle.std.proofs.Common.{◌≡◌, ◌+◌, ℤ, pos, List, length, ap, arith, ◌∙◌}
use Rattle.std.proofs.lemmas.List.{length-replicate}
use Rattle.it_space.proofs.SpaceLemmas.{few_coordinates}
use Rattle.it_demand.specs.Coefficients.{mass, dense_form}
use Rattle.it_demand.proofs.CoefficientLemmas.{zeros-mass, zeros-total}
use Rattle.it_demand.proofs.coefficients.Coefficients.new.Goals as goal

pub returns-clause-small : goal.returns-clause-small
returns-clause-small c = ap mass c.in_ok-sums.ensures ∙ zeros-mass _

pub returns-clause-zero : goal.returns-clause-zero
returns-clause-zero c = λ p. ap (λ (xs : List ℤ). dense_form xs p) c.in_ok-sums.ensures ∙ zeros-total 0 _ p

pub returns-clause-few : goal.returns-clause-few
returns-clause-few c =
    let count : length c.in_ok-sums.sums ≡ c.size.result + 1 = ap length c.in_ok-sums.ensures ∙ length-replicate _ (pos 0) in
    omega (arith, count, c.size.ensures, few_coordinates c.args.space c.requires)
