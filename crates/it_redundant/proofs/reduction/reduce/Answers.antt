use Rattle.it_redundant.specs.Reduction.{kept_view, dropped_view}
use Rattle.it_redundant.proofs.ReductionLemmas.{hold_alike, kept_are_needed}
use Rattle.it_redundant.proofs.reduction.reduce.Goals as goal

pub returns-clause-alike : goal.returns-clause-alike
returns-clause-alike c = hold_alike c.args.givens.now c.args.effort c.requires.system.givens c.requires.system.few_givens
    c.args.system.now.rows.items (kept_view c.in_ok-reduced.reduced) (dropped_view c.in_ok-reduced.reduced) c.requires.few_rows
    (rw (← c.requires.system.space) c.requires.system.system.rows) (rw (← c.as_slice.ensures.value) c.in_ok-reduced.ensures)

pub returns-clause-needed : goal.returns-clause-needed
returns-clause-needed c = kept_are_needed c.args.givens.now c.args.effort c.requires.system.givens c.requires.system.few_givens
    c.args.system.now.rows.items (kept_view c.in_ok-reduced.reduced) (dropped_view c.in_ok-reduced.reduced) c.requires.few_rows
    (rw (← c.requires.system.space) c.requires.system.system.rows) (rw (← c.as_slice.ensures.value) c.in_ok-reduced.ensures)
