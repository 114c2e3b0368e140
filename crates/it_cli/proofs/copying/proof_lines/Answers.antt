use Rattle.std.proofs.Common.{◌≡◌}
use Rattle.it_run.proofs.AnswerLemmas.{if_ok}
use Rattle.it_space.specs.Answers.{answer_view}
use Rattle.it_print.specs.Lines.{answer_line, origins_of}
use Rattle.it_cli.specs.InnerEnds.{IsProofText}
use Rattle.it_cli.proofs.CopyLemmas.{right_alone}
use Rattle.it_cli.proofs.LineLemmas.{few_constraints, right_is_printable, text_by_places}
use Rattle.it_cli.proofs.copying.proof_lines.Goals as goal

pub text_lines-requires : goal.text_lines-requires
text_lines-requires c = record {
  printable = right_is_printable (record { effort = c.args.effort; rows = 1; tries = 1 }) _ c.args.question.now.body _
      c.in_ok-answered.answered.answer c.in_ok-answered.ensures.answered.found c.facts.ensures
      (few_constraints c.args.question.now.body c.in_ok-answered.answered.problem.space
      c.in_ok-answered.answered.problem.constraints c.in_ok-answered.ensures.problem)
      c.in_ok-answered.ensures.answered.right;
}

pub returns : goal.returns
returns c = if_ok c.text_lines.result (λ t. t.items ≡ answer_line c.args.k c.args.question.now.body
    (origins_of c.in_ok-answered.answered.problem.constraints) (answer_view c.in_ok-answered.answered.answer))
    (λ t. IsProofText c.args.effort c.args.k c.args.question.now.body t.items) c.text_lines.ensures (λ t is. record {
      answer = answer_view c.in_ok-answered.answered.answer;
      right = right_alone (record { effort = c.args.effort; rows = 1; tries = 1 }) _ c.args.question.now.body
          (answer_view c.in_ok-answered.answered.answer) c.in_ok-answered.ensures.answered.found c.requires.proof
          c.in_ok-answered.ensures.answered.right;
      is = text_by_places c.args.question.now c.args.k c.in_ok-answered.answered.problem.space
          c.in_ok-answered.answered.problem.constraints (answer_view c.in_ok-answered.answered.answer) t.items
          c.in_ok-answered.ensures.problem is;
    })
