use Rattle.std.proofs.Common.{◌≤◌, ◌<◌, ◌+◌, ◌*◌, ◌^◌, ◌∙◌, cond, drop, ap, arith, map, subst, sym}
use Rattle.std.proofs.lemmas.List.{length-map}
use Rattle.it_space.specs.Spaces.{most_variables}
use Rattle.it_codes.specs.Codes.{functions_of, zero_set}
use Rattle.it_codes.proofs.CountingLemmas.{item_functions, set_step, set_end, small_place, next_place}
use Rattle.it_codes.proofs.counting.zero_set.Goals as goal

pub with_place-set-requires-clause-place : goal.with_place-set-requires-clause-place
with_place-set-requires-clause-place c = small_place c.loop-variable.variable-index c.loop-variable.place (omega arith) c.loop-variable.invariant.1

pub overflow_mul-place : goal.overflow_mul-place
overflow_mul-place c = let small : c.loop-variable.place ≤ 2 ^ most_variables = small_place c.loop-variable.variable-index c.loop-variable.place
    (omega arith) c.loop-variable.invariant.1 in omega arith

pub loop-variable-preserved : goal.loop-variable-preserved
loop-variable-preserved c = (
  omega arith,
  next_place c.loop-variable.variable-index c.loop-variable.place c.loop-variable.invariant.1,
  (let below : c.with_place-set.result < 2 * c.loop-variable.place = c.with_place-set.ensures.below in omega arith),
  ap (λ n. n + c.loop-variable.place * 2 * zero_set c.args.size c.args.message
      (drop (c.loop-variable.variable-index + 1) (map functions_of c.args.variables.now)))
      (c.with_place-set.ensures.value ∙ ap (λ b. c.loop-variable.set + c.loop-variable.place * cond b 1 0) c.vanishes.ensures)
      ∙ set_step c.args.size c.args.message (map functions_of c.args.variables.now) c.loop-variable.variable-index
      (functions_of c.variable-item.result) c.loop-variable.set c.loop-variable.place
      (zero_set c.args.size c.args.message (map functions_of c.args.variables.now))
      (subst (λ n. c.loop-variable.variable-index < n) (sym (length-map c.args.variables.now functions_of)) c.loop-variable-test.true)
      (item_functions c.args.variables.now c.loop-variable.variable-index c.variable-item.result c.loop-variable-test.true
      c.variable-item.is) c.loop-variable.invariant.3,
)

pub overflow_cast-result : goal.overflow_cast-result
overflow_cast-result c =
    let small : c.loop-variable.place ≤ 2 ^ most_variables = small_place c.loop-variable.variable-index c.loop-variable.place
    (omega (arith, c.loop-variable.invariant.0, c.requires.variables)) c.loop-variable.invariant.1 in
    omega (arith, small, c.loop-variable.invariant.2)

pub returns : goal.returns
returns c = set_end c.args.size c.args.message (map functions_of c.args.variables.now) c.loop-variable.variable-index c.loop-variable.set c.loop-variable.place
    (zero_set c.args.size c.args.message (map functions_of c.args.variables.now))
    (subst (λ n. n ≤ c.loop-variable.variable-index) (sym (length-map c.args.variables.now functions_of)) c.loop-variable-test.false)
    c.loop-variable.invariant.3
