use Rattle.std.proofs.Common.{rules, refl, inl, subst, sym, ◌≡◌, length, List, ℤ, All}
use Rattle.it_space.specs.Spaces.{size_of}
use Rattle.it_outer.specs.Extremes.{extreme_rays}
use Rattle.it_outer.specs.Rounds.{search_of}
use Rattle.it_outer.specs.Search.{AllFit}
use Rattle.it_outer.proofs.ExtremeLemmas.{all_extreme}
use Rattle.it_outer.proofs.RoundLemmas.{second_result, second_wide}
use Rattle.it_space.specs.Rows.{Terms}
use Rattle.it_outer.proofs.search.second_pass.Goals as goal

pub extreme_rays-requires : goal.extreme_rays-requires
extreme_rays-requires c = rw c.space.ensures.value (record {
  space = c.requires.frame.search.problem.space;
  kept = rw c.as_slice.ensures.value c.requires.frame.places;
  rows = rw c.as_slice-2.ensures.value c.requires.rows;
  rays = rw c.as_slice-3.ensures.value c.requires.rays;
})

pub pass-requires-clause-rays : goal.pass-requires-clause-rays
pass-requires-clause-rays c =
    let is : c.in-Ok.rays.items ≡ extreme_rays c.args.frame.now.kept.items c.args.first.now.hull.rows.items c.args.first.now.rays.items = search rules in
    subst (λ (rs : List (List ℤ)). All (λ values. length values ≡ size_of c.args.frame.now.problem.now.space) rs) (sym is)
    (all_extreme (λ values. length values ≡ size_of c.args.frame.now.problem.now.space) c.args.frame.now.kept.items
    c.args.first.now.hull.rows.items c.args.first.now.rays.items c.requires.rays)

pub returns-in-Ok : goal.returns-in-Ok
returns-in-Ok c =
    let is : c.in-Ok.rays.items ≡ extreme_rays c.args.frame.now.kept.items c.args.first.now.hull.rows.items c.args.first.now.rays.items = search rules in
    let fit : AllFit c.args.first.now.hull.rows.items c.args.first.now.rays.items = subst
    (λ (rs : List Terms). AllFit rs c.args.first.now.rays.items) c.as_slice-2.ensures.value
    (subst (λ (rs : List (List ℤ)). AllFit c.as_slice-2.result.now rs) c.as_slice-3.ensures.value c.in-Ok.ensures.fit) in
    second_result (search_of c.args.frame.now) c.args.first.now.hull.rows.items c.args.first.now.rays.items c.in-Ok.rays.items c.pass.result
    is fit c.pass.ensures.ends

pub returns-in-Err-Wide : goal.returns-in-Err-Wide
returns-in-Err-Wide c =
    inl (
      second_wide c.args.first.now.hull.rows.items c.as_slice-2.result.now c.args.first.now.rays.items c.as_slice-3.result.now
          c.as_slice-2.ensures.value c.as_slice-3.ensures.value (c.in-Err-Wide.ensures.wide c.in-Err-Wide.field-0-is),
      refl,
    )
