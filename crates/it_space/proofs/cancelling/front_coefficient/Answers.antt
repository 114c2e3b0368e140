use Rattle.std.proofs.Common.{rules, pos, slice_index_or, FitsSigned, to_z-of_z}
use Rattle.it_space.proofs.MixLemmas.{front_here, front_none}
use Rattle.it_space.proofs.cancelling.front_coefficient.Goals as goal
use mir.Syntax.{w128}

pub returns-then-term-coordinate : goal.returns-then-term-coordinate
returns-then-term-coordinate c =
    let fits : FitsSigned w128 (slice_index_or c.args.terms.now 0 (0, pos 0)).1 = search rules in
    rw (to_z-of_z fits) (front_here c.args.terms.now c.args.coordinate c.in-len1-up.len_at_least c.if-term-coordinate.true c.requires)

pub returns-else-term-coordinate : goal.returns-else-term-coordinate
returns-else-term-coordinate c = front_none c.args.terms.now c.args.coordinate c.in-len1-up.len_at_least c.if-term-coordinate.false c.requires
