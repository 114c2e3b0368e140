use Rattle.it_problems.specs.Problems.{ProblemView}
use Rattle.std.proofs.Common.{rules, ◌≡◌, ◌+◌, ◌<◌, ◌↔◌, ℕ, ℤ, List, All, length, FitsSigned, to_z-of_z, sym, ap, subst, ◌∙◌, arith}
use Rattle.it_space.specs.Answers.{certificate_view}
use Rattle.it_space.specs.Rows.{coefficient}
use Rattle.it_polymatroid.specs.Elementals.{elementals}
use Rattle.it_elemental.specs.Generators.{generators_of}
use Rattle.it_elemental.proofs.GeneratorLemmas.{few_elementals}
use Rattle.it_lift.proofs.GeneratorLemmas.{total_is}
use Rattle.it_lift.proofs.Whole.{is_lift, lift_fits, weights_some}
use Rattle.it_lift.proofs.lifting.lift_all.Goals as goal
use mir.Syntax.{w128}
use Rattle.it_space.proofs.MixLemmas.{where_fault}

count_is : (q : ProblemView) (a b : ℕ) → a ≡ length (elementals q.space.variables) → b ≡ length q.constraints → a + b ≡ (generators_of q).count
count_is q a b e f = omega (arith, total_is q)

unfits : {P Q : Type 0} → P ↔ Q → ¬ P → ¬ Q
unfits b n f = n (b.1 f)

pub start-requires-clause-places : goal.start-requires-clause-places
start-requires-clause-places c =
    let total = count_is c.args.problem.now c.count.result (length c.constraints.result.now)
    (c.count.ensures ∙ ap (λ s. length (elementals s.variables)) c.space.ensures.value) (ap length c.constraints.ensures.value) in
    subst (λ (ws : List (ℕ × ℤ)). All (λ w. w.0 < c.count.result + length c.constraints.result.now) ws) (sym c.as_slice.ensures.value)
    (λ k d l. omega (arith, total, (c.requires.sums.allowed k d l).0))

pub add_all-requires-clause-places : goal.add_all-requires-clause-places
add_all-requires-clause-places c k d l =
    let total = count_is c.args.problem.now c.count.result (length c.constraints.result.now)
    (c.count.ensures ∙ ap (λ s. length (elementals s.variables)) c.space.ensures.value) (ap length c.constraints.ensures.value) in
    omega (arith, total, c.in_ok-sums.ensures.complete, c.requires.dependences.placed k d l)

pub returns-in_err-add_all-clause-wide : goal.returns-in_err-add_all-clause-wide
returns-in_err-add_all-clause-wide c =
    let is = c.in_ok-sums.ensures.weights ∙ ap coefficient c.as_slice.ensures.value in
    let both = lift_fits c.args.problem.now c.args.dependences.now c.args.target.now
    (certificate_view c.args.collapsed.now) c.in_ok-sums.sums c.requires.dependences.shape c.requires.dependences c.requires.sums is in
    let stops = where_fault c.in_err-add_all.ensures.wide (unfits both) in
    search (rules, stops)

pub weights-requires : goal.weights-requires
weights-requires c =
    grind (
      arith,
      c.in_ok-add_all.ensures.added.complete,
      c.in_ok-sums.ensures.complete,
      c.count.ensures,
      c.space.ensures.value,
      c.constraints.ensures.value,
      c.facts.ensures.few,
      few_elementals c.args.problem.now.space.variables c.facts.ensures.space.few,
    )

pub returns-clause-fits : goal.returns-clause-fits
returns-clause-fits c =
    let is = c.in_ok-sums.ensures.weights ∙ ap coefficient c.as_slice.ensures.value in
    let both = lift_fits c.args.problem.now c.args.dependences.now c.args.target.now
    (certificate_view c.args.collapsed.now) c.in_ok-sums.sums c.requires.dependences.shape c.requires.dependences c.requires.sums is in
    both.0 (c.in_ok-add_all.ensures.before, c.in_ok-add_all.ensures.added.fits)

pub returns-clause-lifted : goal.returns-clause-lifted
returns-clause-lifted c =
    let f : FitsSigned w128 c.args.collapsed.now.scale = search rules in
    let is = c.in_ok-sums.ensures.weights ∙ ap coefficient c.as_slice.ensures.value in
    rw (to_z-of_z f, c.in_ok-weights.ensures) (is_lift c.args.problem.now c.args.dependences.now c.args.target.now
    (certificate_view c.args.collapsed.now) c.in_ok-sums.sums c.add_all.new.sums c.facts.ensures
    c.requires.dependences c.requires.target c.requires.sums (c.in_ok-sums.ensures.complete
    ∙ count_is c.args.problem.now c.count.result (length c.constraints.result.now)
    (c.count.ensures ∙ ap (λ s. length (elementals s.variables)) c.space.ensures.value) (ap length c.constraints.ensures.value)) is
    c.in_ok-add_all.ensures.added)

pub returns-clause-nonzero : goal.returns-clause-nonzero
returns-clause-nonzero c = rw c.in_ok-weights.ensures (weights_some 0 c.add_all.new.sums)
