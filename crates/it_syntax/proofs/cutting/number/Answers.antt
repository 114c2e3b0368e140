use Rattle.std.proofs.Common.{◌≤◌, ◌^◌, IsSomeAnd, subst}
use Rattle.it_number.specs.Decimals.{value_from}
use Rattle.it_syntax.proofs.cutting.number.Goals as goal

pub returns-in-None-clause-wrong : goal.returns-in-None-clause-wrong
returns-in-None-clause-wrong c = (
  c.requires,
  (
    c.digits-n.result,
    (
      c.digits-n.ensures,
      subst
          (λ text. IsSomeAnd (value_from 0 text) (λ v. 2 ^ 64 ≤ v)) c.split_at.ensures.front c.in-None.ensures.large,
    ),
  ),
)
