use Rattle.std.proofs.Common.{◌≡◌, ◌<◌, length, sym, ap, subst, Some}
use Rattle.it_report.specs.RowVerdicts.{place_named}
use Rattle.it_space.specs.Answers.AnswerView.{No}
use Rattle.it_syntax.specs.Meaning.{relation_view}
use Rattle.it_demand.specs.Targets.{targets}
use Rattle.it_canon.proofs.PosesLemmas.{as_many_rows}
use Rattle.it_report.specs.Judging.{answer_verdict}
use Rattle.it_report.proofs.JudgingLemmas.{verdict_is_told, has_verdict, no_is_about_relation, target_rows_are, target_is_there, point_is_complete}
use Rattle.it_report.proofs.judging.no_line.Goals as goal

pub relation_of-requires : goal.relation_of-requires
relation_of-requires c = no_is_about_relation c.args.question.now.body c.args.back c.args.point.now c.requires.fits

pub point_verdict-verdict-requires-clause-named : goal.point_verdict-verdict-requires-clause-named
point_verdict-verdict-requires-clause-named c =
    let r = relation_view c.relation_of.result.now in
    let p = c.in_ok-problem.problem in
    subst (λ ts. place_named c.args.back < length ts) (sym c.as_slice.ensures.value)
    (target_is_there c.args.question.now.body r c.relation_of.ensures c.args.back c.args.point.now p.space.variables c.in_ok-rows.rows.items
    (as_many_rows p.space (targets p.space.variables r) c.in_ok-rows.rows.items (rw c.space.ensures.value at c.in_ok-rows.ensures)) c.requires.fits)

pub point_verdict-verdict-requires-clause-complete : goal.point_verdict-verdict-requires-clause-complete
point_verdict-verdict-requires-clause-complete c =
    point_is_complete c.args.question.now.body (relation_view c.relation_of.result.now) c.relation_of.ensures c.args.back
    c.args.point.now c.in_ok-problem.problem.space c.in_ok-problem.ensures.poses.space c.requires.fits

pub returns : goal.returns
returns c =
    let q = c.args.question.now.body in
    let p = c.in_ok-problem.problem in
    let a = No c.args.back c.args.point.now in
    let v = c.point_verdict-verdict.result in
    let e : answer_verdict p c.in_ok-rows.rows.items a ≡ Some v
    = subst (λ ts. answer_verdict p ts a ≡ Some v) c.as_slice.ensures.value (ap Some (sym c.point_verdict-verdict.ensures.verdict)) in
    let are = target_rows_are q (relation_view c.relation_of.result.now) c.relation_of.ensures a p.space c.in_ok-rows.rows.items
    c.in_ok-problem.ensures.poses.space (rw c.space.ensures.value at c.in_ok-rows.ensures) in
    verdict_is_told (λ j. j.text.items) (λ j. j.invalid) c.args.k q a c.problem_names.result.now v c.verdict_line.result
    (has_verdict q p c.in_ok-problem.ensures.poses a c.in_ok-rows.rows.items c.problem_names.result.now v are c.problem_names.ensures.value e)
    c.verdict_line.ensures
