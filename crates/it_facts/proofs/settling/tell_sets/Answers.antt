use Rattle.std.proofs.Common.{ℕ, subst}
use Rattle.it_space.specs.Rows.{point_of}
use Rattle.it_facts.specs.Settling.{Follows}
use Rattle.it_facts.proofs.PointLemmas.{hold_with_next}
use Rattle.it_facts.proofs.settling.tell_sets.Goals as goal

pub loop-number-preserved : goal.loop-number-preserved
loop-number-preserved c =
    let tells : ℕ → Type 0 = Follows c.args.space.variables (point_of c.args.point.now) c.args.facts.now in
    hold_with_next tells c.loop-number.number c.loop-number.invariant (subst tells c.from_number.ensures c.if-not-follows.ensures)
