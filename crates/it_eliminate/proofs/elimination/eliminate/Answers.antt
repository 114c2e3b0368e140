use Rattle.std.proofs.Common.{◌^◌, ◌∙◌, List, refl, subst}
use Rattle.it_space.specs.Rows.{Terms}
use Rattle.it_eliminate.specs.Elimination.{EliminationEnds, Region, ordered_rows}
use Rattle.it_eliminate.specs.Projections.{system_of}
use Rattle.it_eliminate.proofs.LawLemmas.{is_projection}
use Rattle.it_eliminate.proofs.elimination.eliminate.Goals as goal

pub returns-in-Ok-clause-region : goal.returns-in-Ok-clause-region
returns-in-Ok-clause-region c = is_projection c.args.rows c.args.system.now (system_of c.args.system.now.space c.in-Ok.left)
    c.args.rates.now c.requires.system refl
    (subst (λ (rows : List Terms). EliminationEnds (2 ^ c.args.system.now.space.variables) c.args.rows (ordered_rows rows) c.args.rates.now
    (Region c.in-Ok.left.items)) (c.in_ok-own.ensures ∙ c.as_slice.ensures.value) c.in-Ok.ensures.ends)
