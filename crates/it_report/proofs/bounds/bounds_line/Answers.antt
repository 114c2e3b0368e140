use Rattle.std.proofs.Common.{◌≡◌, length, All, false, true, rules, refl, sym, ap, subst, ◌∙◌}
use Rattle.it_space.specs.declared.spaces.Space.{Space}
use Rattle.it_space.specs.Spaces.{size_of}
use Rattle.it_check.specs.declared.verdicts.Verdict.TheVariants.{Valid}
use Rattle.it_spans.specs.Spans.{StepView, step_views}
use Rattle.it_canon.proofs.PosesLemmas.{one_problem}
use Rattle.it_rates.specs.Asked.{under_all_lines}
use Rattle.it_certificate.specs.Bounds.{bounds_view}
use Rattle.it_report.specs.BoundsVerdicts.{bounds_verdict, parts_verdict}
use Rattle.it_report.specs.LineVerdicts.{Hulled, Judged}
use Rattle.it_report.specs.RowVerdicts.{is_valid}
use Rattle.it_report.proofs.FrameLemmas.{steps_complete}
use Rattle.it_report.proofs.JudgingLemmas.{bounds_told}
use Rattle.it_report.proofs.VerdictLemmas.{only_valid}
use Rattle.it_report.proofs.bounds.bounds_line.Goals as goal

pub parts_verdict-verdict-requires-clause-rays : goal.parts_verdict-verdict-requires-clause-rays
parts_verdict-verdict-requires-clause-rays c =
    let steps = c.args.bounds.now.steps.items in
    steps_complete (size_of c.in_ok-problem.problem.space) steps
    (subst (λ (s : Space). All (λ (v : StepView). length v.ray ≡ size_of s) (step_views steps)) (sym c.in_ok-problem.ensures.space) c.requires.fits.rays)

pub returns-then-not-is_valid : goal.returns-then-not-is_valid
returns-then-not-is_valid c =
    let q = c.args.question.now.body in
    let b = bounds_view c.args.bounds.now in
    let p = c.in_ok-problem.problem in
    let v = c.parts_verdict-verdict.result in
    let invalid : is_valid v ≡ false = search rules in
    let verdict : bounds_verdict q b ≡ v = sym (c.parts_verdict-verdict.ensures.verdict
    ∙ ap (λ x. parts_verdict x b) (one_problem (under_all_lines q) p c.in_ok-problem.ensures)) in
    bounds_told (λ j. j.text.items) (λ j. j.invalid) c.args.k q b (Judged q.names v) c.verdict_line.result (refl, verdict, invalid)
    (rw c.names.ensures.value at c.verdict_line.ensures)

pub returns : goal.returns
returns c =
    let q = c.args.question.now.body in
    let b = bounds_view c.args.bounds.now in
    let p = c.in_ok-problem.problem in
    let v = c.parts_verdict-verdict.result in
    let valid : is_valid v ≡ true = search rules in
    let verdict : bounds_verdict q b ≡ Valid = sym (c.parts_verdict-verdict.ensures.verdict
    ∙ ap (λ x. parts_verdict x b) (one_problem (under_all_lines q) p c.in_ok-problem.ensures)) ∙ only_valid v valid in
    bounds_told (λ j. j.text.items) (λ j. j.invalid) c.args.k q b (Hulled c.in_ok-hull.hull) c.hull_line.result
    (verdict, c.in_ok-hull.ensures) c.hull_line.ensures
