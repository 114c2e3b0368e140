use Rattle.std.proofs.Common.{rules, ◌≡◌}
use Rattle.it_space.specs.Cancelling.{common_at}
use Rattle.it_space.proofs.MixLemmas.{common-some}
use Rattle.it_space.proofs.cancelling.common_divisor.Goals as goal

pub returns-clause-some : goal.returns-clause-some
returns-clause-some c =
    let is : c.unsigned_abs.result ≡ common_at c.args.at c.args.up.now c.args.down.now = search rules in
    common-some c.args.at c.args.up.now c.args.down.now c.unsigned_abs.result c.requires is
