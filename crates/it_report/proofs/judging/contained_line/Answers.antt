use Rattle.std.proofs.Common.{◌≡◌, map, rules, sym, ap, subst, Some}
use Rattle.it_space.specs.Answers.{certificate_view}
use Rattle.it_space.specs.Answers.AnswerView.{Contained}
use Rattle.it_report.specs.Judging.{answer_verdict}
use Rattle.it_report.proofs.JudgingLemmas.{verdict_is_told, has_verdict, contained_is_about_regions, few_parts, pair_problem, candidate_fits, obligation_rows_are}
use Rattle.it_report.proofs.judging.contained_line.Goals as goal

pub pair-requires : goal.pair-requires
pair-requires c = record {
  contains = contained_is_about_regions c.args.question.now.body c.args.parts.now
      (map certificate_view c.args.proofs.now) c.requires.fits;
}

pub candidate-requires : goal.candidate-requires
candidate-requires c =
    few_parts c.args.question.now.body c.in_ok-pair.pair c.args.parts.now
    (map certificate_view c.args.proofs.now) c.in_ok-pair.ensures.limits c.in_ok-pair.ensures.pair c.requires.fits

pub obligations-requires-clause-fits : goal.obligations-requires-clause-fits
obligations-requires-clause-fits c =
    candidate_fits c.args.question.now.body c.in_ok-pair.pair c.args.parts.now
    (map certificate_view c.args.proofs.now) c.in_ok-pair.ensures.limits c.in_ok-pair.ensures.pair c.requires.fits
    c.candidate.result (search rules) c.candidate.ensures.count c.candidate.ensures.parts

pub returns : goal.returns
returns c =
    let q = c.args.question.now.body in
    let pair = c.in_ok-pair.pair in
    let p = pair.first in
    let ws = map certificate_view c.args.proofs.now in
    let parts = c.args.parts.now in
    let a = Contained parts ws in
    let v = c.proofs_verdict-verdict.result in
    let limits = c.in_ok-pair.ensures.limits in
    let pairs = c.in_ok-pair.ensures.pair in
    let fits = c.requires.fits in
    let e : answer_verdict p c.in_ok-rows.rows.items a ≡ Some v
    = subst (λ ts. answer_verdict p ts a ≡ Some v) c.as_slice.ensures.value (ap Some (sym c.proofs_verdict-verdict.ensures.verdict)) in
    let are = obligation_rows_are q pair parts ws limits pairs fits c.candidate.result c.in_ok-rows.rows.items c.candidate.ensures.parts
    c.in_ok-rows.ensures.rows in
    verdict_is_told (λ j. j.text.items) (λ j. j.invalid) c.args.k q a c.problem_names.result.now v c.verdict_line.result
    (has_verdict q p (pair_problem q pair parts ws limits pairs fits) a c.in_ok-rows.rows.items c.problem_names.result.now v are c.problem_names.ensures.value e)
    c.verdict_line.ensures
