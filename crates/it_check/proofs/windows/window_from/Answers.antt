use Rattle.std.proofs.Common.{ℕ, pos, get_or, refl, subst, arith}
use Rattle.std.proofs.lemmas.List.{take_all}
use Rattle.it_space.specs.Rows.{Terms}
use Rattle.it_elemental.specs.Generators.{generators}
use Rattle.it_check.specs.Windows.{AreSums}
use Rattle.it_check.proofs.WindowLemmas.{sums_begin, sums_more}
use Rattle.it_check.proofs.windows.window_from.Goals as goal

pub loop-weight-init : goal.loop-weight-init
loop-weight-init c = sums_begin (generators c.args.problem.now) c.args.target.now c.args.start c.first_coordinate-next.result
    c.first_coordinate-next.ensures.from c.first_coordinate-next.ensures.zero

pub loop-weight-preserved : goal.loop-weight-preserved
loop-weight-preserved c =
    let i : ℕ = c.loop-weight.weight-index in
    rw c.min-next.ensures (sums_more (generators c.args.problem.now) c.args.target.now c.args.weights.now c.args.start c.loop-weight.sums
    c.add_weighed.new.sums c.loop-weight.next c.add_weighed.result i (get_or c.args.weights.now i (0, pos 0)) (0, pos 0)
    c.loop-weight.invariant c.loop-weight-test.true refl (omega arith) c.add_weighed.ensures.sums c.add_weighed.ensures.later
    c.add_weighed.ensures.rest)

pub returns : goal.returns
returns c = record {
  start = refl;
  sums = subst (λ (ts : Terms). AreSums (generators c.args.problem.now) c.args.target.now ts c.args.start c.loop-weight.sums c.loop-weight.next)
      (take_all c.loop-weight.weight-index c.args.weights.now c.loop-weight-test.false) c.loop-weight.invariant;
}
