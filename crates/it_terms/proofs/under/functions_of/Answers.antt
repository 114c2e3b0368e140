use Rattle.std.proofs.Common.{◌≡◌, ◌<◌, ◌≤◌, ◌^◌, ◌∙◌, All, List, ap, arith, get_or, length, map, subst, sym}
use Rattle.it_problems.specs.Problems.{IsProblem}
use Rattle.it_space.specs.Spaces.{size_of}
use Rattle.it_space.specs.declared.spaces.Space.{Space}
use Rattle.it_elemental.specs.Generators.{forms_of, of_constraint}
use Rattle.it_closure.specs.Reading.{dependences_of}
use Rattle.it_closure.specs.declared.dependences.Dependence.{Dependence}
use Rattle.it_demand.proofs.ZipLemmas.{zip-length}
use Rattle.it_terms.specs.FunctionProofs.{IsSaid}
use Rattle.it_terms.specs.Sums.{AreChosen}
use Rattle.it_terms.proofs.SaidLemmas.{chosen_are_said, chosen_are_there, chosen_over}
use Rattle.it_terms.proofs.under.functions_of.Goals as goal

pub invariant_of-few : goal.invariant_of-few
invariant_of-few c =
    let s = c.args.problem.now.space in
    let cs = c.args.problem.now.constraints in
    let lines = c.args.lines.now in
    let chosen = c.in-Some.constraints.items in
    let are : AreChosen cs lines chosen = rw c.constraints-all.ensures.value at rw c.in-Some.is at c.in_ok-constraints.ensures in
    let counted : length chosen ≡ length lines = zip-length (λ line c. (line < length cs) × (c ≡ get_or cs line c)) lines chosen are in
    let few : length c.constraints-all.result.now ≤ 2 ^ 20 = rw c.constraints-all.ensures.value c.facts.ensures.few in
    let is : IsProblem (record { space = s; constraints = chosen }) = record {
      space = c.facts.ensures.space;
      rows = chosen_over (size_of s) cs lines chosen c.facts.ensures.rows are;
      few = omega (arith, counted, few);
    } in
    subst (λ (z : Space). IsProblem (record { space = z; constraints = chosen })) (sym c.space-space.ensures.value) is

pub returns-in_ok-read-in-Some-clause-said : goal.returns-in_ok-read-in-Some-clause-said
returns-in_ok-read-in-Some-clause-said c =
    let s = c.args.problem.now.space in
    let cs = c.args.problem.now.constraints in
    let lines = c.args.lines.now in
    let chosen = c.in-Some.constraints.items in
    let are : AreChosen cs lines chosen = rw c.constraints-all.ensures.value at rw c.in-Some.is at c.in_ok-constraints.ensures in
    subst (λ (ds : List Dependence). All (IsSaid s.variables (forms_of (map of_constraint cs)) lines) ds)
    (sym (c.in_ok-read-in-Some.ensures.list ∙ ap (λ (z : Space). dependences_of (record { space = z; constraints = chosen })) c.space-space.ensures.value))
    (chosen_are_said s cs chosen lines (chosen_over (size_of s) cs lines chosen c.facts.ensures.rows are) are)

pub returns-in_ok-read-in-Some-clause-there : goal.returns-in_ok-read-in-Some-clause-there
returns-in_ok-read-in-Some-clause-there c =
    let cs = c.args.problem.now.constraints in
    let lines = c.args.lines.now in
    let chosen = c.in-Some.constraints.items in
    let are : AreChosen cs lines chosen = rw c.constraints-all.ensures.value at rw c.in-Some.is at c.in_ok-constraints.ensures in
    chosen_are_there cs lines chosen are
