use Rattle.it_space.specs.Answers.{answer_view}
use Rattle.it_region.specs.AnswerForms.{answer_forms}
use Rattle.it_cli.proofs.ProofLemmas.{constraints_over, targets_over}
use Rattle.it_cli.proofs.answering.proof_lines.Goals as goal

pub proof_text-requires-clause-rows : goal.proof_text-requires-clause-rows
proof_text-requires-clause-rows c = rw c.constraints.ensures.value (constraints_over
    c.args.question.now.body c.args.answered.now.problem.space c.args.answered.now.problem.constraints c.requires.space
    c.requires.stated.stated)

pub proof_text-requires-clause-targets : goal.proof_text-requires-clause-targets
proof_text-requires-clause-targets c = rw c.as_slice.ensures.value (targets_over c.args.question.now.body
    (answer_forms c.args.question.now.body (answer_view c.args.answered.now.answer)) c.in_ok-targets.targets.items
    c.in_ok-targets.ensures)
