use Rattle.std.proofs.Common.{◌^◌, ◌<◌, subst, arith}
use Rattle.std.proofs.lemmas.Int.{ints}
use Rattle.it_syntax.proofs.MultipleLemmas.{multiple_with-zero, multiple_within_limit, multiple_past_limit}
use Rattle.it_syntax.proofs.denominators.multiple_with.Goals as goal

pub returns-then-denominator-eq0 : goal.returns-then-denominator-eq0
returns-then-denominator-eq0 c = multiple_with-zero c.args.multiple c.args.denominator c.if-denominator-eq0.true

pub returns-then-both-le-MOST_MULTIPLE : goal.returns-then-both-le-MOST_MULTIPLE
returns-then-both-le-MOST_MULTIPLE c = multiple_within_limit c.args.multiple c.args.denominator c.in-Ok.both c.if-denominator-eq0.false
    c.in-Ok.ensures.1 c.if-both-le-MOST_MULTIPLE.true

pub returns-else-both-le-MOST_MULTIPLE : goal.returns-else-both-le-MOST_MULTIPLE
returns-else-both-le-MOST_MULTIPLE c = multiple_past_limit c.args.multiple c.args.denominator
    (subst (λ y. 2 ^ 32 < y) c.in-Ok.ensures.1 c.if-both-le-MOST_MULTIPLE.false)

pub returns-in-Err : goal.returns-in-Err
returns-in-Err c = multiple_past_limit c.args.multiple c.args.denominator (omega (arith, ints, c.in-Err.ensures))
