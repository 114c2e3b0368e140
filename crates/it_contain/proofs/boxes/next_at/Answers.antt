use Rattle.std.proofs.Common.{rules}
use Rattle.it_contain.proofs.BoxLemmas.{kept_at, later_kept, own_takes}
use Rattle.it_contain.proofs.boxes.next_at.Goals as goal

pub returns-clause-takes : goal.returns-clause-takes
returns-clause-takes g c = own_takes _ c.args.boxes.now.items c.args.i c.next_of.new.one c.index_mut.result.now c.next_of.result
    (search rules) c.index_mut.ensures.value c.next_of.ensures.takes

pub returns-clause-later : goal.returns-clause-later
returns-clause-later g c = later_kept _ c.args.boxes.now.items c.args.i c.next_of.new.one

pub returns-clause-plans : goal.returns-clause-plans
returns-clause-plans g c = kept_at _ c.args.boxes.now.items c.args.i c.next_of.new.one c.index_mut.result.now c.index_mut.ensures.value c.next_of.ensures.plan
