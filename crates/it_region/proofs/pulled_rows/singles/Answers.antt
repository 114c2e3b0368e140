use Rattle.std.proofs.Common.{◌++◌, ◌∷◌, [], ap, ◌∙◌, ℕ, arith}
use Rattle.it_region.proofs.PullingLemmas.{singles-more, singles-end}
use Rattle.it_region.proofs.pulled_rows.singles.Goals as goal

pub loop-i-preserved : goal.loop-i-preserved
loop-i-preserved c = singles-more c.loop-i.sets.items c.push.new.self.items c.loop-i.i c.args.count c.loop-i-test.true
    (c.in_ok-push.ensures.items ∙ ap (λ (n : ℕ). c.loop-i.sets.items ++ n ∷ []) c.single.ensures) c.loop-i.invariant

pub returns : goal.returns
returns c = singles-end c.loop-i.sets.items c.loop-i.i c.args.count (omega (arith, c.loop-i-test.false)) c.loop-i.invariant
