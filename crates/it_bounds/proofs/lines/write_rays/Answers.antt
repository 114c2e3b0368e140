use Rattle.std.proofs.Common.{ℕ, List, ◌∙◌, ap, ap₂, subst, sym}
use Rattle.it_space.specs.declared.spaces.Space.{Space}
use Rattle.it_space.specs.Spaces.{size_of}
use Rattle.it_demand.specs.QuestionSpaces.{space_of}
use Rattle.it_question.specs.ProblemLines.{problem_names}
use Rattle.it_hull.specs.KeptRates.{kept_coordinates}
use Rattle.it_outer.specs.Rounds.{ArePlaces}
use Rattle.it_outer.proofs.FrameLemmas.{kept_places}
use Rattle.it_bounds.specs.Lines.{told_rates}
use Rattle.it_bounds.proofs.LineLemmas.{rays_done}
use Rattle.it_bounds.proofs.lines.write_rays.Goals as goal

pub write_ray-requires-clause-kept : goal.write_ray-requires-clause-kept
write_ray-requires-clause-kept c =
    let names = c.problem_names-names.result.now in
    let gone = c.gone_rates.result.now in
    subst (λ (cs : List ℕ). ArePlaces (size_of (space_of names)) cs)
    (sym (c.as_slice.ensures.value ∙ c.in_ok-kept.ensures ∙ ap (λ (s : Space). kept_coordinates s gone) c.space.ensures.counts))
    (kept_places (space_of names) gone)

pub returns : goal.returns
returns c = rays_done c.args.posed.now.number c.problem_names-names.result.now (problem_names c.args.posed.now.question.now.body) c.in_ok-kept.kept.items
    (told_rates c.args.posed.now.question.now.body) c.args.rays.now c.loop-ray.ray-index
    c.loop-ray.out.items c.args.out.now.items c.problem_names-names.ensures.value
    (c.in_ok-kept.ensures ∙ ap₂ (λ (s : Space) (rs : List ℕ). kept_coordinates s rs)
    (c.space.ensures.counts ∙ ap space_of c.problem_names-names.ensures.value) (rw c.verb.ensures.value at c.gone_rates.ensures))
    c.loop-ray-test.false c.loop-ray.invariant
