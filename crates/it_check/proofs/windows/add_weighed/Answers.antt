use Rattle.std.proofs.Common.{rules, ◌≡◌, ℕ, ℤ, pos, ◌+◌, ◌-◌, ◌≤◌, refl, arith, FitsSigned, to_z-of_z}
use Rattle.it_space.specs.Rows.{Terms, coefficient}
use Rattle.it_elemental.specs.Generators.{generators, generator_at}
use Rattle.it_check.specs.NextTerms.{IsTermFrom}
use Rattle.it_check.specs.Windows.{window_length}
use Rattle.it_check.proofs.WindowLemmas.{adding_more, adding_ends}
use Rattle.it_check.proofs.windows.add_weighed.Goals as goal
use mir.Syntax.{w128}

pub loop-coordinate-preserved : goal.loop-coordinate-preserved
loop-coordinate-preserved c =
    let t : ℕ × ℤ = (c.in-Some.coordinate, c.in-Some.coefficient) in
    let weight_fits : FitsSigned w128 c.args.weight.now.1 = search rules in
    let coefficient_fits : FitsSigned w128 c.in-Some.coefficient = search rules in
    adding_more (generator_at (generators c.args.problem.now) c.args.weight.now.0).row c.args.weight.now.1 c.args.start c.args.sums.now
    c.loop-coordinate.sums c.loop-coordinate.from c.loop-coordinate.invariant t (c.in-Some.coordinate - c.args.start) c.plus_product.result
    c.in-Some.ensures refl c.if-place-ge-WINDOW_LENGTH.false (simp to_z-of_z at c.plus_product.ensures)

pub returns-then-place-ge-WINDOW_LENGTH : goal.returns-then-place-ge-WINDOW_LENGTH
returns-then-place-ge-WINDOW_LENGTH c =
    let row : Terms = (generator_at (generators c.args.problem.now) c.args.weight.now.0).row in
    let n : IsTermFrom c.loop-coordinate.from row (c.in-Some.coordinate, c.in-Some.coefficient) = c.in-Some.ensures in
    let past : c.args.start + window_length ≤ c.in-Some.coordinate = omega arith in
    record {
      sums = adding_ends row c.args.weight.now.1 c.args.start c.args.sums.now c.loop-coordinate.sums c.loop-coordinate.from
          c.loop-coordinate.invariant c.in-Some.coordinate n.before past;
      later = past;
      rest = λ s k l. n.before s (omega (arith, c.loop-coordinate.invariant.most)) l;
    }

pub returns : goal.returns
returns c =
    let row : Terms = (generator_at (generators c.args.problem.now) c.args.weight.now.0).row in
    let none : (s : ℕ) → c.loop-coordinate.from ≤ s → coefficient row s ≡ pos 0 = c.in_default.ensures in
    record {
      sums = adding_ends row c.args.weight.now.1 c.args.start c.args.sums.now c.loop-coordinate.sums c.loop-coordinate.from
          c.loop-coordinate.invariant (c.args.start + window_length) (λ s k l. none s k) (omega arith);
      later = omega (arith, c.requires.few);
      rest = λ s k l. none s (omega (arith, c.loop-coordinate.invariant.most));
    }
