-- Sums that are None where a number passes the limit, by the conditions that the numbers fit.
use Rattle.std.specs.Prelude.{◌≡◌, ◌≢◌, ℕ, zero, suc, ◌^◌, ℤ, pos, negsuc, ◌+ℤ◌, ◌*ℤ◌, unsigned_abs, [], ◌∷◌, ◌++◌, Bool, true, false, cond, ◌&&◌, Option, Some, None, Result, Ok, Err, OkIff}
use Rattle.std.proofs.Common.{refl, sym, ap, ap₂, ◌∙◌, arith, lit<}
use Rattle.std.specs.Bool.{Decides}
use Rattle.std.specs.Result.{result_ok}
use Rattle.std.proofs.lemmas.Int.{ints}
use Rattle.std.proofs.lemmas.Bool.Decides.{Decides-ltb}
use Rattle.std.proofs.Math.IntN.{+ℤ_idl}
use Rattle.std.proofs.lemmas.Bool.{false≢true}
use Rattle.it_number.specs.Limit.{IsWithin}
use Rattle.it_fraction.specs.declared.fraction.Wide.{Wide}
use Rattle.it_space.specs.Rows.{Terms, FitsOnTop, ValueFits, value}
use Rattle.it_check.specs.Sums.{is_within, product_within, sum_within}
use Rattle.it_check.specs.Windows.{plus_product, plus_some}

pub decides_within : (z : ℤ) → Decides (is_within z) (IsWithin z)
unfolding is_within
decides_within z = Decides-ltb (unsigned_abs z) (2 ^ 127)

-- ---- products

pub product_is : (r : Result ℤ Wide) (a b : ℤ) → OkIff r (IsWithin (a *ℤ b)) (a *ℤ b) → product_within a b ≡ result_ok r
product_is r a b o = by_result r (is_within (a *ℤ b)) (decides_within (a *ℤ b)) o
  where
    by_result : (r : Result ℤ Wide) (t : Bool) → Decides t (IsWithin (a *ℤ b)) → OkIff r (IsWithin (a *ℤ b)) (a *ℤ b)
        → cond t (Some (a *ℤ b)) None ≡ result_ok r
    by_result (Ok x) true d o = ap Some (sym o.1)
    by_result (Ok x) false d o = absurd (false≢true (d.1 o.0))
    by_result (Err e) true d o = absurd (o (d.0 refl))
    by_result (Err e) false d o = refl

pub product_told : (a b x : ℤ) → product_within a b ≡ Some x → IsWithin (a *ℤ b) × (x ≡ a *ℤ b)
product_told a b x e = by_test (is_within (a *ℤ b)) (decides_within (a *ℤ b)) e
  where
    by_test : (t : Bool) → Decides t (IsWithin (a *ℤ b)) → cond t (Some (a *ℤ b)) None ≡ Some x → IsWithin (a *ℤ b) × (x ≡ a *ℤ b)
    by_test true d e = (d.0 refl, cc)
    by_test false d e = absurd (cc)

pub product_fits : (a b : ℤ) → IsWithin (a *ℤ b) → product_within a b ≡ Some (a *ℤ b)
product_fits a b f = ap (λ t. cond t (Some (a *ℤ b)) None) ((decides_within (a *ℤ b)).1 f)

-- ---- sums

pub sum_fits : (sum : ℤ) (ts : Terms) (p : ℕ → ℤ) → FitsOnTop sum ts p → sum_within sum ts p ≡ Some (sum +ℤ value ts p)
sum_fits sum [] p f = ap Some (omega (arith, ints))
sum_fits sum (t ∷ ts) p f =
    ap (λ b. cond (b && is_within (sum +ℤ t.1 *ℤ p t.0)) (sum_within (sum +ℤ t.1 *ℤ p t.0) ts p) None) ((decides_within (t.1 *ℤ p t.0)).1 f.0)
    ∙ ap (λ b. cond b (sum_within (sum +ℤ t.1 *ℤ p t.0) ts p) None) ((decides_within (sum +ℤ t.1 *ℤ p t.0)).1 f.1)
    ∙ sum_fits (sum +ℤ t.1 *ℤ p t.0) ts p f.2 ∙ ap Some (omega (arith, ints))

pub sum_told : (sum : ℤ) (ts : Terms) (p : ℕ → ℤ) (x : ℤ) → sum_within sum ts p ≡ Some x → FitsOnTop sum ts p × (x ≡ sum +ℤ value ts p)
sum_told sum [] p x e = (tt, sum_plus_zero sum x e)
  where
    sum_plus_zero : (sum x : ℤ) → Some sum ≡ Some x → x ≡ sum +ℤ pos 0
    sum_plus_zero sum x e = let q : sum ≡ x = cc in omega (arith, ints, q)
sum_told sum (t ∷ ts) p x e = by_test (is_within (t.1 *ℤ p t.0)) (is_within (sum +ℤ t.1 *ℤ p t.0)) (decides_within (t.1 *ℤ p t.0))
    (decides_within (sum +ℤ t.1 *ℤ p t.0)) e (sum_told (sum +ℤ t.1 *ℤ p t.0) ts p x)
  where
    by_test : (a b : Bool) → Decides a (IsWithin (t.1 *ℤ p t.0)) → Decides b (IsWithin (sum +ℤ t.1 *ℤ p t.0))
        → cond (a && b) (sum_within (sum +ℤ t.1 *ℤ p t.0) ts p) None ≡ Some x
        → (sum_within (sum +ℤ t.1 *ℤ p t.0) ts p ≡ Some x → FitsOnTop (sum +ℤ t.1 *ℤ p t.0) ts p × (x ≡ (sum +ℤ t.1 *ℤ p t.0) +ℤ value ts p))
        → FitsOnTop sum (t ∷ ts) p × (x ≡ sum +ℤ value (t ∷ ts) p)
    by_test true true d f e back = let r = back e in ((d.0 refl, f.0 refl, r.0), omega (arith, ints, r.1))
    by_test true false d f e back = absurd (cc)
    by_test false b d f e back = absurd (cc)

pub sum_is : (r : Result ℤ Wide) (ts : Terms) (p : ℕ → ℤ) → OkIff r (ValueFits ts p) (value ts p) → sum_within (pos 0) ts p ≡ result_ok r
sum_is (Ok x) ts p o = sum_fits (pos 0) ts p o.0 ∙ ap Some (+ℤ_idl (value ts p) ∙ sym o.1)
sum_is (Err e) ts p o = by_option (sum_within (pos 0) ts p) (λ x q. o (sum_told (pos 0) ts p x q).0)
  where
    by_option : (r : Option ℤ) → ((x : ℤ) → r ≡ Some x → ⊥) → r ≡ None
    by_option (Some x) f = absurd (f x refl)
    by_option None f = refl

-- ---- sums, one term further

pub plus_is : (r : Result ℤ Wide) (sum a b : ℤ) → OkIff r (IsWithin (a *ℤ b) × IsWithin (sum +ℤ a *ℤ b)) (sum +ℤ a *ℤ b)
    → result_ok r ≡ plus_product (Some sum) a b
plus_is r sum a b o = by_result r (is_within (a *ℤ b)) (is_within (sum +ℤ a *ℤ b)) (decides_within (a *ℤ b)) (decides_within (sum +ℤ a *ℤ b)) o
  where
    by_result : (r : Result ℤ Wide) (s t : Bool) → Decides s (IsWithin (a *ℤ b)) → Decides t (IsWithin (sum +ℤ a *ℤ b))
        → OkIff r (IsWithin (a *ℤ b) × IsWithin (sum +ℤ a *ℤ b)) (sum +ℤ a *ℤ b) → result_ok r ≡ cond (s && t) (Some (sum +ℤ a *ℤ b)) None
    by_result (Ok x) true true d e o = ap Some o.1
    by_result (Ok x) true false d e o = absurd (false≢true (e.1 o.0.1))
    by_result (Ok x) false t d e o = absurd (false≢true (d.1 o.0.0))
    by_result (Err x) true true d e o = absurd (o (d.0 refl, e.0 refl))
    by_result (Err x) true false d e o = refl
    by_result (Err x) false t d e o = refl

sum_more : (sum : ℤ) (ts : Terms) (t : ℕ × ℤ) (p : ℕ → ℤ) → sum_within sum (ts ++ t ∷ []) p ≡ plus_product (sum_within sum ts p) t.1 (p t.0)
sum_more sum [] t p = refl
sum_more sum (u ∷ ts) t p = by_test (is_within (u.1 *ℤ p u.0) && is_within (sum +ℤ u.1 *ℤ p u.0)) (sum_more (sum +ℤ u.1 *ℤ p u.0) ts t p)
  where
    by_test : (b : Bool) → sum_within (sum +ℤ u.1 *ℤ p u.0) (ts ++ t ∷ []) p ≡ plus_product (sum_within (sum +ℤ u.1 *ℤ p u.0) ts p) t.1 (p t.0)
        → cond b (sum_within (sum +ℤ u.1 *ℤ p u.0) (ts ++ t ∷ []) p) None ≡ plus_product (cond b (sum_within (sum +ℤ u.1 *ℤ p u.0) ts p) None) t.1 (p t.0)
    by_test true ih = ih
    by_test false ih = refl

pub zero_within : is_within (pos 0) ≡ true
zero_within = (decides_within (pos 0)).1 (lit< tt)

-- each sum that is told is within the limit
told_within : (sum : ℤ) (ts : Terms) (p : ℕ → ℤ) (x : ℤ) → is_within sum ≡ true → sum_within sum ts p ≡ Some x → is_within x ≡ true
told_within sum [] p x w e = let q : sum ≡ x = cc in ap is_within (sym q) ∙ w
told_within sum (t ∷ ts) p x w e = by_test (is_within (t.1 *ℤ p t.0)) (is_within (sum +ℤ t.1 *ℤ p t.0)) refl e (told_within (sum +ℤ t.1 *ℤ p t.0) ts p x)
  where
    by_test : (a b : Bool) → is_within (sum +ℤ t.1 *ℤ p t.0) ≡ b → cond (a && b) (sum_within (sum +ℤ t.1 *ℤ p t.0) ts p) None ≡ Some x
        → (is_within (sum +ℤ t.1 *ℤ p t.0) ≡ true → sum_within (sum +ℤ t.1 *ℤ p t.0) ts p ≡ Some x → is_within x ≡ true) → is_within x ≡ true
    by_test true true q e back = back q e
    by_test true false q e back = absurd (cc)
    by_test false b q e back = absurd (cc)

-- nothing is added where the second factor is 0
plus_zero : (x a : ℤ) → is_within x ≡ true → plus_product (Some x) a (pos 0) ≡ Some x
plus_zero x a w =
    let none : a *ℤ pos 0 ≡ pos 0 = omega (arith, ints) in
    let same : x +ℤ a *ℤ pos 0 ≡ x = omega (arith, ints) in
    ap₂ (λ y z. cond (is_within y && is_within z) (Some z) None) none same ∙ ap₂ (λ p q. cond (p && q) (Some x) None) zero_within w

plus_some_is : (o : Option ℤ) (a b : ℤ) → ((x : ℤ) → o ≡ Some x → is_within x ≡ true) → plus_product o a b ≡ plus_some o a b
plus_some_is None a (pos zero) w = refl
plus_some_is (Some x) a (pos zero) w = plus_zero x a (w x refl)
plus_some_is o a (pos (suc n)) w = refl
plus_some_is o a (negsuc n) w = refl

pub plus_nonzero : (o : Option ℤ) (a b : ℤ) → b ≢ pos 0 → plus_product o a b ≡ plus_some o a b
plus_nonzero o a (pos zero) n = absurd (n refl)
plus_nonzero o a (pos (suc m)) n = refl
plus_nonzero o a (negsuc m) n = refl

pub sum_step : (ts : Terms) (t : ℕ × ℤ) (p : ℕ → ℤ) → sum_within (pos 0) (ts ++ t ∷ []) p ≡ plus_some (sum_within (pos 0) ts p) t.1 (p t.0)
sum_step ts t p = sum_more (pos 0) ts t p ∙ plus_some_is (sum_within (pos 0) ts p) t.1 (p t.0) (λ x e. told_within (pos 0) ts p x zero_within e)
