use Rattle.std.proofs.Common.{◌≡◌, List, map, All, sym, ap, subst, ◌∙◌}
use Rattle.it_space.specs.Answers.{answer_view, certificate_view}
use Rattle.it_space.specs.Rows.{IsOver, Terms}
use Rattle.it_space.specs.Spaces.{size_of}
use Rattle.it_space.specs.declared.spaces.Space.{Space}
use Rattle.it_canon.proofs.PosesLemmas.{one_problem}
use Rattle.it_rates.specs.Asked.{under_all_lines}
use Rattle.it_certificate.specs.OriginReading.{rows_of}
use Rattle.it_report.specs.Judging.{IsDerivedVerdict}
use Rattle.it_report.specs.LineVerdicts.{Judged}
use Rattle.it_report.specs.RowVerdicts.{proofs_verdict}
use Rattle.it_report.proofs.JudgingLemmas.{derived_told, rows_over}
use Rattle.it_report.proofs.judging.derived_line.Goals as goal

pub proofs_verdict-verdict-requires : goal.proofs_verdict-verdict-requires
proofs_verdict-verdict-requires c =
    let q = c.args.question.now.body in
    let a = answer_view c.args.answer.now in
    let rows : rows_of a ≡ c.as_slice.result.now = ap rows_of c.rows_of.ensures ∙ sym c.in_ok-rows.ensures ∙ sym c.as_slice.ensures.value in
    let over : All (IsOver (size_of c.in_ok-problem.problem.space)) (rows_of a) =
    subst (λ (s : Space). All (IsOver (size_of s)) (rows_of a)) (sym c.in_ok-problem.ensures.space)
    (rows_over q a c.requires.fits.region c.requires.fits.answered) in
    record { rows = subst (λ (ts : List Terms). All (IsOver (size_of c.in_ok-problem.problem.space)) ts) rows over }

pub returns : goal.returns
returns c =
    let q = c.args.question.now.body in
    let a = answer_view c.args.answer.now in
    let ws = map certificate_view c.args.origins.now in
    let p = c.in_ok-problem.problem in
    let v = c.proofs_verdict-verdict.result in
    let rows : rows_of a ≡ c.as_slice.result.now = ap rows_of c.rows_of.ensures ∙ sym c.in_ok-rows.ensures ∙ sym c.as_slice.ensures.value in
    let verdict : IsDerivedVerdict q a ws (Judged q.names v) = ap (Judged q.names)
    (c.proofs_verdict-verdict.ensures.verdict ∙ ap (λ ts. proofs_verdict p ts ws) (sym rows)
    ∙ ap (λ x. proofs_verdict x (rows_of a) ws) (one_problem (under_all_lines q) p c.in_ok-problem.ensures)) in
    derived_told (λ j. j.text.items) (λ j. j.invalid) c.args.k q a ws (Judged q.names v) c.verdict_line.result verdict
    (rw c.names.ensures.value at c.verdict_line.ensures)
