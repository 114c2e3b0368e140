use Rattle.it_redundant.specs.ProjectionSteps.{region_view}
use Rattle.it_redundant.proofs.ProjectionLemmas.{region_reduced}
use Rattle.it_redundant.proofs.projection.project.Goals as goal

pub returns-in-Ok-clause-region : goal.returns-in-Ok-clause-region
returns-in-Ok-clause-region c = region_reduced c.args.givens.now c.args.effort c.args.rows c.requires.system.givens c.requires.system.few_givens
    c.requires.few_rows c.requires.sets c.args.rates.now c.args.system.now.rows.items
    (region_view c.in-Ok.reduced) c.requires.some (rw (← c.requires.system.space) c.requires.system.system.rows) c.in-Ok.ensures.region
