use Rattle.std.proofs.Common.{List, ℕ, arith, subst}
use Rattle.std.proofs.lemmas.List.{take_all}
use Rattle.std.proofs.lemmas.List.Elements.{All-more}
use Rattle.it_terms.specs.Signs.{AreGivenEquations, IsGivenEquation}
use Rattle.it_terms.proofs.row_judging.are_given_equations.Goals as goal

pub loop-line-preserved : goal.loop-line-preserved
loop-line-preserved c =
    let found = c.index-constraints-index in
    All-more (IsGivenEquation c.args.constraints.now) c.args.lines.now c.loop-line.line-index 0 (omega arith) c.loop-line.invariant
    (omega arith, (found.result, (found.is, c.if-not-is_given_equation.ensures)))

pub returns : goal.returns
returns c = subst (λ (ls : List ℕ). AreGivenEquations c.args.constraints.now ls)
    (take_all c.loop-line.line-index c.args.lines.now (omega arith)) c.loop-line.invariant
