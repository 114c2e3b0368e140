use Rattle.std.proofs.Common.{ap, ◌∙◌}
use Rattle.it_demand.specs.QuestionSpaces.{space_of}
use Rattle.it_tell.proofs.OwnLineLemmas.{free_problem}
use Rattle.it_tell.proofs.containments.free_problem.Goals as goal

pub invariant_of-result : goal.invariant_of-result
invariant_of-result c = free_problem c.args.question.now.body
    (record { space = c.space-space.result; constraints = c.new-constraints.result.items }) c.facts.ensures
    (c.space-space.ensures.counts ∙ ap space_of c.problem_names.ensures.value) c.new-constraints.ensures.items
