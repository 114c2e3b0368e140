use Rattle.std.proofs.Common.{ap, sym, ◌∙◌}
use Rattle.it_space.specs.Answers.{answer_view}
use Rattle.it_syntax.specs.Meaning.{relation_view}
use Rattle.it_question.specs.Questions.{verb_view}
use Rattle.it_answer.proofs.TargetLemmas.{relation_forms}
use Rattle.it_answer.proofs.targets.target_rows.Goals as goal

pub returns-in-Prove : goal.returns-in-Prove
returns-in-Prove c = relation_forms c.args.question.now.body (relation_view c.in-Prove.relation)
    (answer_view c.args.answer.now) c.relation_rows.result (sym c.verb.ensures.value ∙ ap verb_view c.in-Prove.is) c.relation_rows.ensures
