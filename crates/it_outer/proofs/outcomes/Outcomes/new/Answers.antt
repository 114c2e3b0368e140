use Rattle.it_outer.proofs.OutcomeLemmas.{no_outcomes}
use Rattle.it_outer.proofs.outcomes.Outcomes.new.Goals as goal

pub returns : goal.returns
returns c = no_outcomes c.args.problem.now c.args.effort (record { by_row = c.new.result; closed = c.in_ok-closed.closed })
    c.new.ensures.empty c.in_ok-closed.ensures
