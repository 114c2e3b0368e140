use Rattle.it_vectors.proofs.Stretches.{rest_is_noted}
use Rattle.it_vectors.proofs.narrow_numbers.note_stretches.Goals as goal

pub returns : goal.returns
returns c = rest_is_noted c.note_place.result c.args.row.now c.loop-k.starts.items c.note_place.new.starts.items c.loop-k.k
    c.past_nulls.result c.loop-k.invariant.noted c.past_nulls.ensures c.note_place.ensures
