use Rattle.std.proofs.Common.{arith, ◌≤◌, ◌^◌}
use Rattle.std.proofs.Math.Pow.{pow_mono}
use Rattle.it_check.proofs.terms.power.Goals as goal

pub returns : goal.returns
returns c =
    let least : 2 ^ c.args.i ≤ 2 ^ 16 = pow_mono {i = c.args.i} {j = 16} (omega arith) in
    record {
      value = omega arith;
      small = omega arith;
    }
