use Rattle.std.proofs.Common.{◌≡◌, pos, rules}
use Rattle.it_rational.proofs.Field.{null_from}
use Rattle.it_fraction.proofs.fraction.Fraction.is_zero.Goals as goal

pub returns-then-self-eq0-clause-yes : goal.returns-then-self-eq0-clause-yes
returns-then-self-eq0-clause-yes c = let e : c.args.self.num ≡ pos 0 = search rules in null_from c.args.self e
