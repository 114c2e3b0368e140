use Rattle.it_tell.proofs.OrderLemmas.{row_put}
use Rattle.it_tell.proofs.regions.put_in_order.Goals as goal

pub returns : goal.returns
returns c = row_put c.args.variables c.args.row c.args.sorted.now.items c.as_slice.result.now c.insert.new.self.items c.in_ok-place.place
    c.as_slice.ensures.value c.in_ok-place.ensures.place c.in_ok-insert.ensures.items
