use Rattle.std.proofs.Common.{rules, get_or, pos, FitsSigned, to_z-of_z}
use Rattle.it_space.specs.Sums.{terms_from}
use Rattle.it_best.proofs.WalkLemmas.{terms_more, terms_end}
use Rattle.it_best.proofs.numbers.weight_terms.Goals as goal
use mir.Syntax.{w128}

pub loop-index-preserved : goal.loop-index-preserved
loop-index-preserved c =
    let fits : FitsSigned w128 (get_or c.args.values.now c.loop-index.index (pos 0)) = search rules in
    terms_more c.args.values.now c.loop-index.index c.loop-index.terms.items c.push_some.new.terms.items
    (terms_from 0 c.args.values.now) c.loop-index-test.true (simp (to_z-of_z fits) at c.in_ok-push_some.ensures) c.loop-index.invariant

pub returns : goal.returns
returns c = terms_end c.args.values.now c.loop-index.index c.loop-index.terms.items
    (terms_from 0 c.args.values.now) c.loop-index-test.false c.loop-index.invariant
