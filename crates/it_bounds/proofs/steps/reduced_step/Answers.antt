use Rattle.std.proofs.Common.{Global, List, Vec, ap, ap₂, ◌∙◌}
use Rattle.it_space.specs.declared.answers.Certificate.{Certificate}
use Rattle.it_space.specs.declared.rows.Row.{Row}
use Rattle.it_space.specs.Rows.{Terms}
use Rattle.it_bounds.specs.HullSteps.{numbered_drops}
use Rattle.it_bounds.proofs.StepLemmas.{certified, reduced_step}
use Rattle.it_bounds.proofs.steps.reduced_step.Goals as goal

pub returns : goal.returns
returns c = reduced_step c.args.givens.now c.args.effort c.args.left.now.rows.items c.args.ray.now c.in_ok-reduced.reduced
    (record { step = record { ray = c.in_ok-ray.ray; drops = c.in_ok-drops.drops }; rows = c.replace-rows.result })
    c.in_ok-reduced.ensures.reduces c.in_ok-ray.ensures
    (c.in_ok-drops.ensures ∙ ap₂ (λ (rows : List Terms) (dropped : List (Row × Certificate)). numbered_drops 0 rows (certified dropped))
    c.as_slice.ensures.value c.as_slice-2.ensures.value)
    (ap (λ (v : Vec Row Global). v.items) c.replace-rows.ensures.value ∙ c.in_ok-kept.ensures.rows)
