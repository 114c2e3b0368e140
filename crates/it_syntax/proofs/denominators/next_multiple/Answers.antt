use Rattle.std.proofs.Common.{◌≡◌, sym, subst}
use Rattle.it_number.specs.Gcd.{lcm}
use Rattle.it_syntax.proofs.MultipleLemmas.{lcm_one, multiple_not_none, multiple_found}
use Rattle.it_syntax.proofs.denominators.next_multiple.Goals as goal

pub returns-then-denominator-eq1 : goal.returns-then-denominator-eq1
returns-then-denominator-eq1 c = subst (λ d. c.args.multiple ≡ lcm c.args.multiple d) (sym c.if-denominator-eq1.true) (sym (lcm_one c.args.multiple))

pub unreachable-requires : goal.unreachable-requires
unreachable-requires c = multiple_not_none c.args.multiple c.args.denominator c.requires.both c.requires.small c.in-None.ensures

pub returns : goal.returns
returns c = (multiple_found c.args.multiple c.args.denominator c.in-Some.both c.requires.some c.in-Some.ensures).1
