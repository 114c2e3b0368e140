use Rattle.std.proofs.Common.{◌≡◌, ◌^◌, arith}
use Rattle.it_sharing.specs.AccessStructures.{is_unqualified, unqualified_sets}
use Rattle.it_sharing.proofs.NumberLoops.{passing_more, passing_done}
use Rattle.it_sharing.proofs.sets.unqualified_sets.Goals as goal

pub loop-number-preserved : goal.loop-number-preserved
loop-number-preserved c =
    passing_more (is_unqualified c.args.listed.now) c.loop-number.number (2 ^ c.args.variables) c.loop-number.sets.items
    c.add_unqualified.new.sets.items _ (omega (arith, c.set_count-number-end.ensures))
    (rw c.from_number-set.ensures at c.in_ok-add_unqualified.ensures) c.loop-number.invariant

pub returns : goal.returns
unfolding unqualified_sets
returns c = passing_done (is_unqualified c.args.listed.now) c.loop-number.number (2 ^ c.args.variables) c.loop-number.sets.items _
    (omega (arith, c.set_count-number-end.ensures)) c.loop-number.invariant
