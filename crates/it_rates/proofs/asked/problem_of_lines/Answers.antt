use Rattle.it_rates.proofs.AskedLemmas.{posed_by_lines}
use Rattle.it_rates.proofs.asked.problem_of_lines.Goals as goal

pub invariant_of-result : goal.invariant_of-result
invariant_of-result c =
    (posed_by_lines c.args.question.now.body
    (record { space = c.space-space.result; constraints = c.in_ok-constraints.constraints.items }) c.facts.ensures
    c.space-space.ensures.counts (rw c.lines.ensures.value at c.in_ok-constraints.ensures)).limits

pub returns : goal.returns
returns c = posed_by_lines c.args.question.now.body _ c.facts.ensures c.space-space.ensures.counts (rw c.lines.ensures.value at c.in_ok-constraints.ensures)
