use Rattle.std.proofs.Common.{◌++◌, ap, codes, ◌∙◌}
use Rattle.it_space.specs.Answers.{answer_view}
use Rattle.it_cli.proofs.CopyLemmas.{right_alone, right_is_writable}
use Rattle.it_cli.proofs.reporting.proof_report.Goals as goal

pub report_json-requires : goal.report_json-requires
report_json-requires c =
    right_is_writable (record { effort = c.args.effort; rows = 1; tries = 1 }) _
    c.args.question.now.body c.names.result.now (answer_view c.in_ok-answered.answered.answer)
    c.in_ok-answered.ensures.answered.found c.requires.proof c.in_ok-answered.ensures.answered.right

pub returns : goal.returns
returns c = record {
  answer = answer_view c.in_ok-answered.answered.answer;
  right = right_alone (record { effort = c.args.effort; rows = 1; tries = 1 }) _ c.args.question.now.body
      (answer_view c.in_ok-answered.answered.answer) c.in_ok-answered.ensures.answered.found c.requires.proof
      c.in_ok-answered.ensures.answered.right;
  is = c.in_ok-extend_from_slice.ensures.items ∙ ap (λ ys. ys ++ codes "\n") (rw c.names.ensures.value at c.in_ok-line.ensures);
}
