use Rattle.std.proofs.Common.{◌≡◌, pos}
use Rattle.it_space.specs.Sums.{number_at}
use Rattle.it_vectors.proofs.Quotients.{said_of_more}
use Rattle.it_vectors.proofs.narrow_numbers.is_null_stretch.Goals as goal

pub loop-k-preserved : goal.loop-k-preserved
loop-k-preserved c = said_of_more (λ k. number_at c.args.row.now k ≡ pos 0) c.args.from c.loop-k.k c.loop-k.all c.is_null-all.result
    c.loop-k.invariant c.is_null-all.ensures
