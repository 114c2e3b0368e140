use Rattle.it_contain.proofs.OutcomeLemmas.{empty_outcomes}
use Rattle.it_contain.proofs.outcomes.Outcomes.new.Goals as goal

pub returns : goal.returns
returns c = empty_outcomes c.args.problem.now c.args.effort (record { by_row = c.new.result; closed = c.in_ok-closed.closed })
    c.new.ensures.empty c.in_ok-closed.ensures
