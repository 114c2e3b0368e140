use Rattle.std.proofs.Common.{refl, arith}
use Rattle.it_polymatroid.specs.Tables.{value_at}
use Rattle.it_polymatroid.proofs.TableLemmas.{by_pairs}
use Rattle.it_polymatroid.proofs.tables.is_polymatroid.Goals as goal

pub returns : goal.returns
returns c = (
  λ _. by_pairs c.args.table.now.variables (value_at c.args.table.now) c.variables.ensures.table.empty (λ s h. c.loop-number.invariant.1 s (omega arith)),
  λ _. refl,
)
