use Rattle.std.proofs.Common.{◌≡◌, ℤ, List, length, option_map, sym, subst, ◌∙◌, All}
use Rattle.it_space.specs.declared.spaces.Space.{Space}
use Rattle.it_space.specs.Spaces.{size_of}
use Rattle.it_spans.specs.Spans.{step_views}
use Rattle.it_rates.proofs.AskedLemmas.{some_rates}
use Rattle.it_rates.proofs.FrameLemmas.{own_frame, own_kept}
use Rattle.it_bounds.proofs.FrameLemmas.{own_steps}
use Rattle.it_bounds.proofs.reporting.steps_of.Goals as goal

pub hull_steps-requires : goal.hull_steps-requires
hull_steps-requires c = let q = c.args.question.now.body in record {
  frame = own_frame c.args.limits.rows q c.facts.ensures c.requires.few_rows
      (some_rates q c.facts.ensures c.requires.asked) c.space-space.result c.gone_rates-gone.result.now c.as_slice.result.now
      c.space-space.ensures.counts (rw c.verb.ensures.value at c.gone_rates-gone.ensures)
      (c.as_slice.ensures.value ∙ c.in_ok-kept.ensures);
  kept = own_kept c.args.limits.rows q c.facts.ensures c.requires.few_rows
      (some_rates q c.facts.ensures c.requires.asked) c.space-space.result c.gone_rates-gone.result.now c.as_slice.result.now
      c.space-space.ensures.counts (rw c.verb.ensures.value at c.gone_rates-gone.ensures)
      (c.as_slice.ensures.value ∙ c.in_ok-kept.ensures);
  rays = subst (λ (s : Space). All (λ (ray : List ℤ). length ray ≡ size_of s) c.args.rays.now) (sym c.space-space.ensures.counts) c.requires.rays;
}

pub returns : goal.returns
returns c = own_steps c.args.limits c.args.question.now.body c.facts.ensures c.requires.few_rows
    (some_rates c.args.question.now.body c.facts.ensures c.requires.asked) c.space-space.result c.gone_rates-gone.result.now
    c.as_slice.result.now c.space-space.ensures.counts (rw c.verb.ensures.value at c.gone_rates-gone.ensures)
    (c.as_slice.ensures.value ∙ c.in_ok-kept.ensures) c.args.rays.now (option_map (λ v. step_views v.items) c.in_ok-steps.steps) c.in_ok-steps.ensures
