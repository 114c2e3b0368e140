use Rattle.std.proofs.Common.{rules, ◌<◌, ℕ, ℤ, pos, length, length-set, get_or, FitsSigned, to_z-of_z, ap, ◌∙◌, arith}
use Rattle.std.proofs.lemmas.List.{length-replicate}
use Rattle.it_space.specs.Sums.{number_at}
use Rattle.it_space.proofs.SumLemmas.{at-zeros}
use Rattle.it_lift.proofs.StartSteps.{start-more}
use Rattle.it_lift.proofs.sums.sums_of.Goals as goal
use mir.Syntax.{w128}

pub loop-index-init : goal.loop-index-init
loop-index-init c = (
  ap length c.in_ok-sums.ensures ∙ length-replicate c.args.count (pos 0),
  (λ i. ap (λ xs. number_at xs i) c.in_ok-sums.ensures ∙ at-zeros c.args.count i),
)

pub set-requires : goal.set-requires
set-requires c =
    let k : ℕ = c.loop-index.index-index in
    let below : k < length c.args.weights.now = omega arith in
    omega (arith, c.loop-index.invariant.0, c.requires.places k (0, pos 0) below)

pub loop-index-preserved : goal.loop-index-preserved
loop-index-preserved c =
    let k : ℕ = c.loop-index.index-index in
    let w : ℕ × ℤ = get_or c.args.weights.now k (0, pos 0) in
    let below : k < length c.args.weights.now = omega arith in
    let place : w.0 < length c.loop-index.sums = omega (arith, c.loop-index.invariant.0, c.requires.places k (0, pos 0) below) in
    let fits : FitsSigned w128 w.1 = search rules in
    let set = simp to_z-of_z at c.set.ensures in
    rw set (
      length-set c.loop-index.sums w.0 w.1 ∙ c.loop-index.invariant.0,
      start-more c.args.weights.now k (0, pos 0) c.loop-index.sums c.requires.order below place c.loop-index.invariant.1,
    )
