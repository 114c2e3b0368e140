-- Rows as they are read are canonical.
use Rattle.std.proofs.Common.{◌≡◌, ◌≢◌, ℕ, zero, suc, ◌+◌, ◌≤◌, ◌==◌, ◌&&◌, ℤ, pos, negsuc, not, unsigned_abs, [], ◌∷◌, refl, ap, true, false, nat_le, arith, rules}
use Rattle.std.specs.Prelude.{All}
use Rattle.std.proofs.lemmas.List.Elements.{All-head, All-tail}
use Rattle.it_number.specs.Limit.{IsWithin}
use Rattle.it_space.specs.Rows.{Ascends, IsCanonical, Terms}
use Rattle.it_space.proofs.BoolLemmas.{both_true}
use Rattle.it_certificate.specs.Parts.{is_row_between}

-- a number other than 0 passes the test for it
pub nonzero_passes : (z : ℤ) → (z ≡ pos 0 → ⊥) → not (unsigned_abs z == 0) ≡ true
nonzero_passes (pos zero) other = absurd (other refl)
nonzero_passes (pos (suc n)) other = search (rules)
nonzero_passes (negsuc n) other = search (rules)

-- a number that passes the test isn't 0
not_zero : (z : ℤ) → not (unsigned_abs z == 0) ≡ true → z ≢ pos 0
not_zero z is e = let f : not (unsigned_abs z == 0) ≡ false = ap (λ x. not (unsigned_abs x == 0)) e in cc

row_ascends : (from low size : ℕ) (ts : Terms) → low ≤ from → is_row_between from size ts ≡ true → All (λ t. IsWithin t.1) ts → Ascends low ts
row_ascends from low size [] le is all = tt
row_ascends from low size (t ∷ ts) le is all =
    let h = both_true (nat_le from t.0 && (nat_le t.0 size && not (unsigned_abs t.1 == 0))) (is_row_between (t.0 + 1) size ts) is in
    let k = both_true (nat_le from t.0) (nat_le t.0 size && not (unsigned_abs t.1 == 0)) h.0 in
    let m = both_true (nat_le t.0 size) (not (unsigned_abs t.1 == 0)) k.1 in
    let there : from ≤ t.0 = let e = k.0 in search (rules, e) in (
      omega (arith, there, le),
      not_zero t.1 m.1,
      All-head (λ t. IsWithin t.1) t ts all,
      row_ascends (t.0 + 1) (t.0 + 1) size ts
          (omega arith) h.1 (All-tail (λ t. IsWithin t.1) t ts all),
    )

pub row_is_canonical : (size : ℕ) (ts : Terms) → is_row_between 1 size ts ≡ true → All (λ t. IsWithin t.1) ts → IsCanonical ts
row_is_canonical size ts is all = row_ascends 1 0 size ts (omega arith) is all
