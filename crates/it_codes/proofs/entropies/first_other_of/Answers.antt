use Rattle.std.proofs.Common.{◌≤◌, ◌<◌, ◌^◌, subst, arith}
use Rattle.it_codes.specs.Codes.{variables_of, HasEntropy}
use Rattle.it_codes.proofs.EntropyLemmas.{one_more_set}
use Rattle.it_codes.proofs.entropies.first_other_of.Goals as goal

pub returns-then-not-has_entropy : goal.returns-then-not-has_entropy
returns-then-not-has_entropy c = record {
  from_one = c.loop-set.invariant.1;
  within = subst (λ n. c.loop-set.set < n) c.loop-set.invariant.0 c.loop-set-test.true;
  before = c.loop-set.invariant.2;
  other = c.if-not-has_entropy.ensures.no;
}

pub loop-set-preserved : goal.loop-set-preserved
loop-set-preserved c = (
  c.loop-set.invariant.0,
  omega arith,
  one_more_set (HasEntropy c.args.code.now c.args.times c.args.point.now) c.loop-set.set c.loop-set.invariant.2 c.if-not-has_entropy.ensures.yes,
)

pub returns : goal.returns
returns c = λ s from below.
    let last : 2 ^ variables_of c.args.code.now ≤ c.loop-set.set = subst (λ n. n ≤ c.loop-set.set) c.loop-set.invariant.0 c.loop-set-test.false in
    c.loop-set.invariant.2 s from (omega (arith, last, below))
