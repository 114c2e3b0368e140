use Rattle.std.proofs.Common.{map, sym, ap, ◌∙◌}
use Rattle.it_syntax.specs.Meaning.{relation_view}
use Rattle.it_question.specs.Bodies.{body_view}
use Rattle.it_question.specs.Questions.{QuestionView, verb_view}
use Rattle.it_copy.specs.CopyLines.{copy_view}
use Rattle.it_copy.proofs.ExtendLemmas.{extension_of, few_is_question, past_is_misfit}
use Rattle.it_copy.proofs.extending.extend.Goals as goal

pub within_limits-requires : goal.within_limits-requires
within_limits-requires c few =
    few_is_question c.args.limits c.args.question.now.body (map copy_view c.args.lines.now) (relation_view c.in-Prove.relation) (body_view c.in-Ok.body)
    c.facts.ensures (sym c.verb.ensures.value ∙ ap verb_view c.in-Prove.is) c.in-Ok.ensures.placed c.in-Ok.ensures.body few

pub returns-in-Ok-within_limits-clause-extension : goal.returns-in-Ok-within_limits-clause-extension
returns-in-Ok-within_limits-clause-extension c =
    extension_of c.args.limits c.args.question.now.body (map copy_view c.args.lines.now) (relation_view c.in-Prove.relation)
    c.in-Ok-within_limits.extended.body (sym c.verb.ensures.value ∙ ap verb_view c.in-Prove.is) c.in-Ok.ensures.placed
    (ap (λ (q : QuestionView). q.body) c.in-Ok-within_limits.ensures.whole ∙ c.in-Ok.ensures.body)
    c.in-Ok-within_limits.ensures.few c.in-Ok-within_limits.ensures.small

pub returns-in-Err-within_limits-clause-misfit : goal.returns-in-Err-within_limits-clause-misfit
returns-in-Err-within_limits-clause-misfit c =
    past_is_misfit c.args.limits c.args.question.now.body (map copy_view c.args.lines.now) (relation_view c.in-Prove.relation)
    (body_view c.in-Ok.body) c.in-Err-within_limits.fault (sym c.verb.ensures.value ∙ ap verb_view c.in-Prove.is)
    c.in-Ok.ensures.placed c.in-Ok.ensures.body c.in-Err-within_limits.ensures.past
