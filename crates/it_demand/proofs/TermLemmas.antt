-- The terms of a canonical row, from all coefficients.
use Rattle.std.proofs.Common.{◌≡◌, ℕ, zero, suc, ◌+◌, ◌-◌, ◌<◌, ◌≤◌, ◌^◌, ℤ, pos, negsuc, ◌+ℤ◌, ◌*ℤ◌, refl, ap, ◌∙◌, arith, List, [], ◌∷◌, length, drop}
use Rattle.std.proofs.lemmas.Int.{ints}
use Rattle.std.proofs.lemmas.List.Elements.{All-nil}
use Rattle.it_space.specs.Rows.{Terms, Ascends, IsOver, row_mass, value}
use Rattle.it_space.specs.Sums.{terms_from}
use Rattle.it_demand.specs.Coefficients.{dense_form_from, dense_form, mass}
use Rattle.it_space.proofs.TermLemmas.{ascends_lower}
use Rattle.it_space.proofs.SumLemmas.{terms_up_to}

pub terms_canonical : (first : ℕ) (xs : List ℤ) → mass xs < 2 ^ 127 → Ascends first (terms_from first xs)
terms_canonical first [] h = tt
terms_canonical first (pos zero ∷ xs) h = ascends_lower first (first + 1) (terms_from (first + 1) xs) (omega arith)
    (terms_canonical (first + 1) xs (omega arith))
terms_canonical first (pos (suc n) ∷ xs) h = (omega arith, λ e. absurd (omega (arith, ints)), omega (arith, ints), terms_canonical (first + 1) xs (omega arith))
terms_canonical first (negsuc n ∷ xs) h = (omega arith, λ e. absurd (omega (arith, ints)), omega (arith, ints), terms_canonical (first + 1) xs (omega arith))

pub terms-value : (first : ℕ) (xs : List ℤ) (p : ℕ → ℤ) → value (terms_from first xs) p ≡ dense_form_from first xs p
terms-value first [] p = refl
terms-value first (pos zero ∷ xs) p = omega (arith, ints, terms-value (first + 1) xs p)
terms-value first (pos (suc n) ∷ xs) p = ap (λ z. pos (suc n) *ℤ p first +ℤ z) (terms-value (first + 1) xs p)
terms-value first (negsuc n ∷ xs) p = ap (λ z. negsuc n *ℤ p first +ℤ z) (terms-value (first + 1) xs p)

-- The row of some coefficients: its terms are those from coordinate 1 on.
pub row_canonical : (xs : List ℤ) (ts : Terms) → ts ≡ terms_from 1 (drop 1 xs) → mass xs < 2 ^ 127 → Ascends 0 ts
row_canonical [] ts e h = rw e tt
row_canonical (x ∷ xs) ts e h = rw e (ascends_lower 0 1 (terms_from 1 xs) (omega arith) (terms_canonical 1 xs (omega arith)))

pub row-value : (xs : List ℤ) (ts : Terms) (p : ℕ → ℤ) → ts ≡ terms_from 1 (drop 1 xs) → p 0 ≡ pos 0 → value ts p ≡ dense_form xs p
row-value [] ts p e z = ap (λ (r : Terms). value r p) e
row-value (x ∷ xs) ts p e z = ap (λ (r : Terms). value r p) e ∙ terms-value 1 xs p ∙ omega (arith, ints, ap (λ y. x *ℤ y) z)

pub row_up_to : (xs : List ℤ) (ts : Terms) → ts ≡ terms_from 1 (drop 1 xs) → IsOver (length xs - 1) ts
row_up_to [] ts e = rw e (All-nil (λ t. (1 ≤ t.0) × (t.0 ≤ 0)))
row_up_to (x ∷ xs) ts e = rw e (terms_up_to (length (x ∷ xs) - 1) 1 xs (omega arith) (omega arith))

-- the absolute values of the terms are those of the coefficients
terms-mass : (first : ℕ) (xs : List ℤ) → row_mass (terms_from first xs) ≡ mass xs
terms-mass first [] = refl
terms-mass first (pos zero ∷ xs) = omega (arith, terms-mass (first + 1) xs)
terms-mass first (pos (suc n) ∷ xs) = omega (arith, terms-mass (first + 1) xs)
terms-mass first (negsuc n ∷ xs) = omega (arith, terms-mass (first + 1) xs)

pub row-mass : (xs : List ℤ) (ts : Terms) → ts ≡ terms_from 1 (drop 1 xs) → row_mass ts ≤ mass xs
row-mass [] ts e = rw e (omega arith)
row-mass (x ∷ xs) ts e = rw e (omega (arith, terms-mass 1 xs))
