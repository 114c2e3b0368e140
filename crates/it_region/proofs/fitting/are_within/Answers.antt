use Rattle.std.proofs.Common.{◌^◌, take, lit<}
use Rattle.it_space.proofs.SpaceLemmas.{shift_is_power}
use Rattle.it_region.proofs.PairLemmas.{all_below}
use Rattle.it_region.proofs.fitting.are_within.Goals as goal

pub returns : goal.returns
returns c = rw (c.are_below.ensures, shift_is_power c.args.variables 18446744073709551616 c.requires.variables (lit< tt))
    (all_below (2 ^ c.args.variables) (take c.args.candidate.now.count c.args.candidate.now.parts))
