-- The verdict on what has to be 0, as the code forms it.
use Rattle.std.proofs.Common.{◌≡◌, ◌≢◌, ℕ, ℤ, pos, Bool, true, false, cond, Result, Ok, Err, OkIff, refl, sym, ap, ◌∙◌}
use Rattle.std.specs.Ordering.{int_eq}
use Rattle.std.specs.Result.{result_ok}
use Rattle.std.proofs.lemmas.Bool.Decides.{Decides-int_eq}
use Rattle.it_fraction.specs.declared.fraction.Wide.{Wide}
use Rattle.it_space.specs.Rows.{Terms, ValueFits, value}
use Rattle.it_check.specs.Sums.{sum_within}
use Rattle.it_check.specs.declared.verdicts.Verdict.TheVariants.{Valid, Width}
use Rattle.it_check.proofs.SumLemmas.{sum_is}
use Rattle.it_report.specs.declared.factors.FactorVerdict.TheVariants.{Checked, NotZero}
use Rattle.it_report.specs.FactorVerdicts.{zero_verdict}

module _ (place : ℕ) (row : Terms) (m : ℕ → ℤ) (r : Result ℤ Wide) (o : OkIff r (ValueFits row m) (value row m)) where
  zero_is : zero_verdict place (sum_within (pos 0) row m) ≡ zero_verdict place (result_ok r)
  zero_is = ap (zero_verdict place) (sum_is r row m o)

  pub zero_wide : (e : Wide) → r ≡ Err e → Checked (Width place) ≡ zero_verdict place (sum_within (pos 0) row m)
  zero_wide e q = sym (zero_is ∙ ap (λ x. zero_verdict place (result_ok x)) q)

  tested_zero : (x : ℤ) (b : Bool) → r ≡ Ok x → int_eq x (pos 0) ≡ b → zero_verdict place (sum_within (pos 0) row m) ≡ cond b (Checked Valid) (NotZero x)
  tested_zero x b q e = zero_is ∙ ap (λ y. zero_verdict place (result_ok y)) q ∙ ap (λ t. cond t (Checked Valid) (NotZero x)) e

  pub zero_there : (x : ℤ) → r ≡ Ok x → x ≡ pos 0 → Checked Valid ≡ zero_verdict place (sum_within (pos 0) row m)
  zero_there x q e = sym (tested_zero x true q ((Decides-int_eq x (pos 0)).1 e))

  pub not_zero : (x : ℤ) → r ≡ Ok x → x ≢ pos 0 → NotZero x ≡ zero_verdict place (sum_within (pos 0) row m)
  not_zero x q n = sym (tested_zero x false q (by_test (int_eq x (pos 0)) (Decides-int_eq x (pos 0)).0))
    where
      by_test : (b : Bool) → (b ≡ true → x ≡ pos 0) → b ≡ false
      by_test true d = absurd (n (d refl))
      by_test false d = refl
