use Rattle.std.proofs.Common.{pos, get_or, length, arith}
use Rattle.it_polymatroid.specs.Tables.{value_at}
use Rattle.it_polymatroid.proofs.Images.{pulled_table, pulled_polymatroid}
use Rattle.it_polymatroid.proofs.substitutions.pull_back.Goals as goal

pub new-requires : goal.new-requires
new-requires c = pulled_table c.args.table.now c.args.by.now c.len-variables.result c.in_ok-values.values.items c.in_ok-values.ensures.table
    c.len-variables.ensures (omega (arith, c.len-variables.ensures))
    c.in_ok-values.ensures.complete c.in_ok-values.ensures.within c.in_ok-values.ensures.values

pub returns-clause-polymatroid : goal.returns-clause-polymatroid
returns-clause-polymatroid c p = rw (c.new.ensures, c.len-variables.ensures)
    (pulled_polymatroid c.args.table.now.variables (length c.args.by.now) (value_at c.args.table.now)
    (λ s. get_or c.in_ok-values.values.items s (pos 0)) c.args.by.now c.requires.within c.in_ok-values.ensures.values p)
