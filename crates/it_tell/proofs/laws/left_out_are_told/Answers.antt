use Rattle.it_tell.proofs.ValueLemmas.{left_out_are_told}
use Rattle.it_tell.proofs.laws.left_out_are_told.Goals as goal

pub returns : goal.returns
returns c = left_out_are_told
