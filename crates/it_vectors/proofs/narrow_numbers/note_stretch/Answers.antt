use Rattle.it_vectors.proofs.Stretches.{stretch_is_noted}
use Rattle.it_vectors.proofs.narrow_numbers.note_stretch.Goals as goal

pub returns-else-is_null_stretch : goal.returns-else-is_null_stretch
returns-else-is_null_stretch c = stretch_is_noted c.note_place.result c.args.row.now c.args.starts.now.items c.note_place.new.starts.items
    c.args.k c.requires.stretch c.requires.noted c.note_place.ensures
