-- Findings in order: the first that isn't empty.
use Rattle.std.proofs.Common.{◌≡◌, ℤ, pos, ◌≤ℤ◌, false, Option, Some, None, refl, ap, arith}
use Rattle.std.specs.Option.{option_or}
use Rattle.std.specs.Int.Signed.{lt_z}
use Rattle.std.proofs.lemmas.Int.{ints}
use Rattle.it_check.specs.Verdicts.{valid_unless}
use Rattle.it_check.specs.declared.verdicts.Verdict.{Verdict}
use Rattle.it_check.specs.declared.verdicts.Verdict.TheVariants.{Valid}

pub first_part : (o rest : Option Verdict) → (o ≡ Some Valid → ⊥) → valid_unless (option_or o rest) ≡ Valid → (o ≡ None) × (valid_unless rest ≡ Valid)
first_part (Some v) rest n e = absurd (n (ap Some e))
first_part None rest n e = (refl, e)

pub last_part : (o : Option Verdict) → (o ≡ Some Valid → ⊥) → valid_unless o ≡ Valid → o ≡ None
last_part (Some v) n e = absurd (n (ap Some e))
last_part None n e = refl

pub clean_or : (a b : Option Verdict) → (a ≡ Some Valid → ⊥) → (b ≡ Some Valid → ⊥) → option_or a b ≡ Some Valid → ⊥
clean_or (Some v) b f g e = f e
clean_or None b f g e = g e

pub none_both : (a b : Option Verdict) → option_or a b ≡ None → (a ≡ None) × (b ≡ None)
none_both (Some v) b e = absurd (cc)
none_both None b e = (refl, e)

pub least_by_test : (x : ℤ) → lt_z x (pos 0) ≡ false → pos 0 ≤ℤ x
least_by_test x e = grind (arith, ints)

pub not_below : (x : ℤ) → pos 0 ≤ℤ x → lt_z x (pos 0) ≡ false
not_below x e = grind (arith, ints)
