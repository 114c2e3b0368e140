use Rattle.std.proofs.Common.{◌≡◌, map, sym, ap, subst, Some}
use Rattle.it_space.specs.Answers.{certificate_view}
use Rattle.it_space.specs.Answers.AnswerView.{Yes}
use Rattle.it_syntax.specs.Meaning.{relation_view}
use Rattle.it_report.specs.Judging.{answer_verdict}
use Rattle.it_report.proofs.JudgingLemmas.{verdict_is_told, has_verdict, yes_is_about_relation, target_rows_are}
use Rattle.it_report.proofs.judging.yes_line.Goals as goal

pub relation_of-requires : goal.relation_of-requires
relation_of-requires c = yes_is_about_relation c.args.question.now.body (map certificate_view c.args.proofs.now) c.requires.fits

pub returns : goal.returns
returns c =
    let q = c.args.question.now.body in
    let p = c.in_ok-problem.problem in
    let a = Yes (map certificate_view c.args.proofs.now) in
    let v = c.proofs_verdict-verdict.result in
    let e : answer_verdict p c.in_ok-rows.rows.items a ≡ Some v
    = subst (λ ts. answer_verdict p ts a ≡ Some v) c.as_slice.ensures.value (ap Some (sym c.proofs_verdict-verdict.ensures.verdict)) in
    let are = target_rows_are q (relation_view c.relation_of.result.now) c.relation_of.ensures a p.space c.in_ok-rows.rows.items
    c.in_ok-problem.ensures.poses.space (rw c.space.ensures.value at c.in_ok-rows.ensures) in
    verdict_is_told (λ j. j.text.items) (λ j. j.invalid) c.args.k q a c.problem_names.result.now v c.verdict_line.result
    (has_verdict q p c.in_ok-problem.ensures.poses a c.in_ok-rows.rows.items c.problem_names.result.now v are c.problem_names.ensures.value e)
    c.verdict_line.ensures
