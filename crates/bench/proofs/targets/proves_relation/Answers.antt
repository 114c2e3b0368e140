use Rattle.std.proofs.Common.{◌≡◌, ap, subst, sym, ◌∙◌}
use Rattle.it_space.specs.declared.spaces.Space.{Space}
use Rattle.it_syntax.specs.Givens.{IsRelationOf}
use Rattle.it_syntax.specs.Meaning.{relation_view}
use Rattle.it_demand.specs.QuestionSpaces.{space_of}
use Rattle.it_question.specs.Limits.{IsVerbOver}
use Rattle.it_question.specs.Questions.{VerbView}
use Rattle.it_question.specs.ProblemLines.{names_under}
use Rattle.bench.proofs.targets.proves_relation.Goals as goal

pub target_rows-requires-clause-within : goal.target_rows-requires-clause-within
target_rows-requires-clause-within c =
    let q = c.args.question.now.body in
    let same : c.in_ok-problem.problem.space ≡ space_of q.names = c.in_ok-problem.ensures.poses.space
    ∙ ap (λ (v : VerbView). space_of (names_under q.names v)) c.requires.proves in
    rw c.space.ensures.value (subst (λ (s : Space). IsRelationOf s.variables s.rates (relation_view c.args.relation.now)) (sym same)
    (subst (λ (v : VerbView). IsVerbOver q.names v) c.requires.proves c.facts.ensures.verb))
