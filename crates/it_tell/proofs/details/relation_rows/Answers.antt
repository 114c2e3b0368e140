use Rattle.std.proofs.Common.{map, ap, subst, sym, ◌∙◌}
use Rattle.it_space.specs.Answers.{certificate_view}
use Rattle.it_space.specs.Answers.AnswerView.{Yes}
use Rattle.it_syntax.specs.Meaning.{relation_view}
use Rattle.it_demand.specs.QuestionSpaces.{space_of}
use Rattle.it_question.specs.Limits.{IsVerbOver}
use Rattle.it_question.specs.Questions.{VerbView}
use Rattle.it_question.specs.ProblemLines.{names_under}
use Rattle.it_report.proofs.JudgingLemmas.{target_rows_are, yes_is_about_relation}
use Rattle.it_tell.specs.Steps.{AreRowsFor}
use Rattle.it_tell.proofs.details.relation_rows.Goals as goal

pub relation_of-relation-requires : goal.relation_of-relation-requires
relation_of-relation-requires c = yes_is_about_relation c.args.question.now.body (map certificate_view c.args.proofs.now) c.requires.fits

pub target_rows-requires-clause-within : goal.target_rows-requires-clause-within
target_rows-requires-clause-within c = rw c.space.ensures.counts (subst
    (λ (v : VerbView). IsVerbOver c.args.question.now.body.names v) c.relation_of-relation.ensures c.facts.ensures.verb)

pub returns : goal.returns
unfolding AreRowsFor
returns c =
    let q = c.args.question.now.body in (
      c.space.result,
      target_rows_are q (relation_view c.relation_of-relation.result.now) c.relation_of-relation.ensures
          (Yes (map certificate_view c.args.proofs.now)) c.space.result c.in_ok-rows.rows.items
          (c.space.ensures.counts ∙ ap (λ (v : VerbView). space_of (names_under q.names v)) (sym c.relation_of-relation.ensures)) c.in_ok-rows.ensures,
    )
