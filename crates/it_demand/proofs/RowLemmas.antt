-- Rows of forms that were added up from 0.
use Rattle.std.proofs.Common.{◌≡◌, ℕ, ◌+◌, ◌-◌, ◌≤◌, ℤ, pos, ◌+ℤ◌, ap, subst, ◌∙◌, arith, List, length, Result, Ok, Err, IfOk}
use Rattle.std.proofs.lemmas.Int.{ints}
use Rattle.it_space.specs.declared.spaces.Space.{Space}
use Rattle.it_space.specs.Bounds.{most_mass}
use Rattle.it_space.specs.Rows.{Terms, IsCanonical, IsOver, row_mass, value}
use Rattle.it_space.specs.Spaces.{size_of}
use Rattle.it_polymatroid.specs.Certificates.{Form}
use Rattle.it_demand.specs.Coefficients.{dense_form, mass, IsFormAdded}
use Rattle.it_demand.specs.Canonical.{IsRowOf}

pub row_of_sums : {E : Type 0} (s : Space) (old new : List ℤ) (m : ℕ) (form : Form) (row : Result Terms E) → length old ≡ size_of s + 1
    → mass old ≡ 0 → ((p : ℕ → ℤ) → dense_form old p ≡ pos 0) → m ≤ most_mass → IsFormAdded old new m form
    → IfOk row (λ r. (p : ℕ → ℤ) → p 0 ≡ pos 0 → value r p ≡ dense_form new p) → IfOk row (IsOver (length new - 1)) → IfOk row IsCanonical
    → IfOk row (λ r. row_mass r ≤ mass new) → IfOk row (IsRowOf s form)
row_of_sums s old new m form (Err e) size null none below a same up can fit = tt
row_of_sums s old new m form (Ok row) size null none below a same up can fit = record {
  same = λ p z. same p z ∙ a.sum p ∙ ap (λ x. x +ℤ form p) (none p) ∙ omega (arith, ints);
  coordinates = let e : length new - 1 ≡ size_of s = omega (arith, a.complete, size) in subst (λ n. IsOver n row) e up;
  canonical = can;
  small = omega (arith, fit, a.small, null, below);
}
