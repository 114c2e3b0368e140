use Rattle.std.proofs.Common.{ap, ◌∙◌}
use Rattle.it_hull.specs.Hulls.{first_rows}
use Rattle.it_outer.specs.Rounds.{search_of}
use Rattle.it_outer.proofs.HullLemmas.{first_system}
use Rattle.it_outer.proofs.hulls.first_hull.Goals as goal

pub returns-clause-hull : goal.returns-clause-hull
returns-clause-hull c = first_system (search_of c.args.frame.now) (record { space = c.space.result; rows = c.in_ok-rows.rows })
    c.requires.search c.space.ensures.value
    (c.in_ok-rows.ensures ∙ ap first_rows c.as_slice.ensures.value)
