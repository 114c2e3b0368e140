use Rattle.std.proofs.Common.{◌+◌, ◌<◌, ◌≤◌, ◌^◌, length, ap, arith}
use Rattle.it_space.specs.Spaces.{most_coordinates, most_variables}
use Rattle.it_closure.proofs.SizeLemmas.{rows-few, product-few}
use Rattle.it_closure.proofs.sizes.size.Goals as goal

pub overflow_mul-result : goal.overflow_mul-result
overflow_mul-result c =
    let count : c.count.result < 2 ^ 32 = c.count.type_inv in
    let rows = rows-few c.space.result.variables most_variables c.space.result.rates c.in_ok-dependences.dependences.list
    (rw c.space.ensures.value c.facts.ensures.space.few) (rw c.space.ensures.value c.facts.ensures.space.few_rates) in
    let few : c.len-rows.result ≤ most_coordinates = omega (arith, c.len-rows.ensures, ap length c.in_ok-coordinates.ensures, rows) in
    omega (
      arith,
      product-few c.len-rows.result (c.count.result + c.constraint_columns-constraints.result + c.len-rows.result) few
          (omega (
            arith,
            count,
            c.constraint_columns-constraints.ensures.few,
            ap length c.constraints.ensures.value,
            few,
            c.facts.ensures.few,
          )),
    )
