use Rattle.std.proofs.Common.{◌≡◌, ◌+◌, ◌*◌, ℕ, sym, subst, ap, ◌∙◌, ◌/◌}
use Rattle.std.proofs.Math.Nat.{div-one, div_self, one-dvd}
use Rattle.std.proofs.lemmas.Nat.Gcd.{dvd_refl}
use Rattle.it_engine.proofs.Answers.{if_some_more}
use Rattle.it_engine.proofs.BehindNumbers.{added_in_place}
use Rattle.it_engine.proofs.shares.with_row.Goals as goal
use Prim.Native.Nat.{◌∣◌}

pub returns-then-denominator-eq1 : goal.returns-then-denominator-eq1
returns-then-denominator-eq1 c = if_some_more c.with_share.result (λ s. (s.multiple ≡ c.args.shares.multiple)
    × (s.bound ≡ c.args.shares.bound + c.args.entry * c.args.shares.multiple)) _ c.with_share.ensures
    (λ s. added_in_place c.args.shares.multiple c.args.shares.bound c.args.denominator c.args.entry c.args.shares.multiple s.multiple s.bound
    c.requires.some c.requires.low
    (subst (λ (x : ℕ). x ∣ c.args.shares.multiple) (sym c.if-denominator-eq1.true) (one-dvd c.args.shares.multiple))
    (sym (div-one c.args.shares.multiple) ∙ ap (λ x. c.args.shares.multiple / x) (sym c.if-denominator-eq1.true)))

pub returns-then-denominator-shares : goal.returns-then-denominator-shares
returns-then-denominator-shares c = if_some_more c.with_share-then-denominator-shares.result
    (λ s. (s.multiple ≡ c.args.shares.multiple) × (s.bound ≡ c.args.shares.bound + c.args.entry * 1)) _
    c.with_share-then-denominator-shares.ensures
    (λ s. added_in_place c.args.shares.multiple c.args.shares.bound c.args.denominator c.args.entry 1 s.multiple s.bound c.requires.some c.requires.low
    (subst (λ (x : ℕ). x ∣ c.args.shares.multiple) (sym c.if-denominator-shares.true) (dvd_refl c.args.shares.multiple))
    (sym (div_self c.requires.some) ∙ ap (λ x. c.args.shares.multiple / x) (sym c.if-denominator-shares.true)))
