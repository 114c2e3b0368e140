use Rattle.std.proofs.Common.{◌≡◌, length, All, sym, subst, ◌∙◌, arith}
use Rattle.it_space.specs.Spaces.{size_of}
use Rattle.it_space.specs.declared.spaces.Space.{Space}
use Rattle.it_spans.specs.Spans.{StepView, step_views}
use Rattle.it_rates.proofs.AskedLemmas.{asked_rates}
use Rattle.it_rates.proofs.FrameLemmas.{own_kept}
use Rattle.it_report.specs.BoundsVerdicts.{most_rows}
use Rattle.it_report.proofs.FrameLemmas.{steps_complete}
use Rattle.it_report.proofs.bounds.hull_verdict.Goals as goal

pub check_hull-requires-clause-kept : goal.check_hull-requires-clause-kept
check_hull-requires-clause-kept c = own_kept most_rows c.args.question.now.body c.facts.ensures (omega arith)
    (asked_rates c.args.question.now.body c.requires.fits.gone c.facts.ensures c.requires.fits.asked) c.space-space.result
    c.gone_rates-gone.result.now c.as_slice.result.now
    c.space-space.ensures.counts (rw c.verb.ensures.value at c.gone_rates-gone.ensures) (c.as_slice.ensures.value ∙ c.in_ok-kept.ensures)

pub check_hull-requires-clause-steps : goal.check_hull-requires-clause-steps
check_hull-requires-clause-steps c =
    let steps = c.args.bounds.now.steps.items in
    let complete = subst (λ (s : Space). All (λ (v : StepView). length v.ray ≡ size_of s) (step_views steps))
    (sym c.space-space.ensures.counts) c.requires.fits.rays in
    steps_complete (size_of c.space-space.result) c.as_slice-2.result.now
    (subst (λ xs. All (λ (v : StepView). length v.ray ≡ size_of c.space-space.result) (step_views xs)) (sym c.as_slice-2.ensures.value) complete)
