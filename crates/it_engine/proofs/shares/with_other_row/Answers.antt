use Rattle.std.proofs.Common.{◌≡◌, ◌+◌, ◌*◌, ◌/◌, refl}
use Rattle.std.proofs.lemmas.Nat.Gcd.{dvd_of_mod-eq-zero}
use Rattle.it_engine.proofs.Answers.{if_some_more}
use Rattle.it_engine.proofs.BehindNumbers.{added_in_place, added_over_both}
use Rattle.it_engine.proofs.shares.with_other_row.Goals as goal

pub returns-then-shares-denominator-eq0 : goal.returns-then-shares-denominator-eq0
returns-then-shares-denominator-eq0 c = if_some_more c.with_share.result (λ s. (s.multiple ≡ c.args.shares.multiple)
    × (s.bound ≡ c.args.shares.bound + c.args.entry * (c.args.shares.multiple / c.args.denominator))) _ c.with_share.ensures
    (λ s. added_in_place c.args.shares.multiple c.args.shares.bound c.args.denominator c.args.entry
    (c.args.shares.multiple / c.args.denominator) s.multiple s.bound c.requires.some c.requires.low
    (dvd_of_mod-eq-zero c.args.denominator c.if-shares-denominator-eq0.true) refl)

pub returns : goal.returns
returns c = if_some_more c.with_share-2.result (λ s. (s.multiple ≡ c.in_ok-wider.wider.multiple)
    × (s.bound ≡ c.in_ok-wider.wider.bound + c.args.entry * (c.in_ok-wider.wider.multiple / c.args.denominator))) _ c.with_share-2.ensures
    (λ s. added_over_both c.args.shares.multiple c.args.shares.bound c.args.denominator c.args.entry c.common_divisor.result
    c.in_ok-wider.wider.multiple c.in_ok-wider.wider.bound s.multiple s.bound
    c.requires.some c.requires.denominator c.common_divisor.ensures.value c.in_ok-wider.ensures)
