-- A whole multiple of a polymatroid is one, and meets the givens that it meets where these are about entropies alone.
use Rattle.std.proofs.Common.{◌≡◌, ℕ, ◌-◌, ◌<◌, ◌≤◌, ◌^◌, bit_and, bit_or, ℤ, pos, ◌+ℤ◌, ◌-ℤ◌, ◌*ℤ◌, ◌≤ℤ◌, List, [], ◌∷◌, sym, ap, ap₂, subst, ◌∙◌, arith, All}
use Rattle.std.proofs.lemmas.Int.{ints}
use Rattle.std.proofs.lemmas.Nat.{pow_pos, or_lt, and_le_l}
use Rattle.std.proofs.lemmas.List.Elements.{All-nil, All-cons, All-head, All-tail}
use Rattle.it_number.proofs.Integers.{zring, sum_of_multiples}
use Rattle.it_number.proofs.SignLemmas.{product_least}
use Rattle.it_problems.specs.declared.problems.Constraint.{Constraint}
use Rattle.it_problems.specs.declared.problems.Kind.{Kind}
use Rattle.it_problems.specs.declared.problems.Kind.TheVariants.{Inequality, Equation}
use Rattle.it_problems.specs.Problems.{ProblemView, Meets, IsMet, AreMet}
use Rattle.it_space.specs.Rows.{Terms, IsOver, value}
use Rattle.it_space.proofs.SetLemmas.{inside_below}
use Rattle.it_polymatroid.specs.Polymatroid.{IsPolymatroid}
use Rattle.it_redundant.specs.Theorems.{MeetsGivens, SpeakOfSets}

-- multiples keep the order
below_multiple : (k : ℕ) (x y : ℤ) → x ≤ℤ y → (pos k *ℤ x) ≤ℤ (pos k *ℤ y)
below_multiple k x y h =
    let gap : pos 0 ≤ℤ (y -ℤ x) = omega (arith, ints) in
    let grown : pos 0 ≤ℤ (pos k *ℤ (y -ℤ x)) = product_least (pos k) (y -ℤ x) (omega (arith, ints)) gap in
    let parts : pos k *ℤ (y -ℤ x) ≡ pos k *ℤ y -ℤ pos k *ℤ x = omega (arith, zring) in
    omega (arith, ints)

sum_multiple : (k : ℕ) (x y : ℤ) → pos k *ℤ (x +ℤ y) ≡ pos k *ℤ x +ℤ pos k *ℤ y
sum_multiple k x y = omega (arith, zring)

module _ (n k : ℕ) (p q : ℕ → ℤ) (same : (c : ℕ) → c < 2 ^ n → q c ≡ pos k *ℤ p c) where
  -- ---- a polymatroid

  multiples_in_order : (a b x y : ℤ) → a ≡ pos k *ℤ x → b ≡ pos k *ℤ y → x ≤ℤ y → a ≤ℤ b
  multiples_in_order a b x y e f h = let m : (pos k *ℤ x) ≤ℤ (pos k *ℤ y) = below_multiple k x y h in omega (arith, ints)

  pub polymatroid_multiple : IsPolymatroid n p → IsPolymatroid n q
  polymatroid_multiple h = record {
    empty = same 0 (pow_pos n) ∙ ap (λ x. pos k *ℤ x) h.empty ∙ omega (arith, ints);
    rises = λ s t l i. multiples_in_order (q s) (q t) (p s) (p t) (same s (inside_below n s t l i)) (same t l) (h.rises s t l i);
    submodular = λ s t l m.
        let below : bit_and s t < 2 ^ n = let b : bit_and s t ≤ s = and_le_l s t in omega (arith, b) in
        multiples_in_order (q (bit_or s t) +ℤ q (bit_and s t)) (q s +ℤ q t) (p (bit_or s t) +ℤ p (bit_and s t)) (p s +ℤ p t)
        (ap₂ (λ x y. x +ℤ y) (same (bit_or s t) (or_lt n s t l m)) (same (bit_and s t) below) ∙ sym (sum_multiple k (p (bit_or s t)) (p (bit_and s t))))
        (ap₂ (λ x y. x +ℤ y) (same s l) (same t m) ∙ sym (sum_multiple k (p s) (p t))) (h.submodular s t l m);
  }

  -- ---- rows over sets

  value_multiple : (ts : Terms) → IsOver (2 ^ n - 1) ts → value ts q ≡ pos k *ℤ value ts p
  value_multiple [] u = omega (arith, ints)
  value_multiple (t ∷ ts) u =
      let own : (1 ≤ t.0) × (t.0 ≤ 2 ^ n - 1) = All-head (λ (t : ℕ × ℤ). (1 ≤ t.0) × (t.0 ≤ 2 ^ n - 1)) t ts u in
      sum_of_multiples (pos k) t.1 (p t.0) (q t.0) (value ts p) (value ts q) (same t.0 (omega (arith, own.0, own.1, pow_pos n)))
      (value_multiple ts (All-tail (λ (t : ℕ × ℤ). (1 ≤ t.0) × (t.0 ≤ 2 ^ n - 1)) t ts u))

  met_multiple : (kind : Kind) (x y : ℤ) → y ≡ pos k *ℤ x → Meets kind x → Meets kind y
  met_multiple Inequality x y e h = subst (λ z. pos 0 ≤ℤ z) (sym e) (product_least (pos k) x (omega (arith, ints)) h)
  met_multiple Equation x y e h = e ∙ ap (λ z. pos k *ℤ z) h ∙ omega (arith, ints)

  are_met_multiple : (cs : List Constraint) → All (λ c. IsOver (2 ^ n - 1) c.row) cs → AreMet p cs → AreMet q cs
  are_met_multiple [] u h = All-nil (IsMet q)
  are_met_multiple (c ∷ cs) u h = All-cons (IsMet q) c cs
      (met_multiple c.kind (value c.row p) (value c.row q) (value_multiple c.row
      (All-head (λ (c : Constraint). IsOver (2 ^ n - 1) c.row) c cs u)) (All-head (IsMet p) c cs h))
      (are_met_multiple cs (All-tail (λ (c : Constraint). IsOver (2 ^ n - 1) c.row) c cs u) (All-tail (IsMet p) c cs h))

pub multiple_meets : (givens : ProblemView) (k : ℕ) (p q : ℕ → ℤ) → SpeakOfSets givens
    → ((c : ℕ) → c < 2 ^ givens.space.variables → q c ≡ pos k *ℤ p c) → MeetsGivens givens p → MeetsGivens givens q
multiple_meets givens k p q sets same m = (
  polymatroid_multiple givens.space.variables k p q same m.0,
  are_met_multiple
      givens.space.variables k p q same givens.constraints sets m.1,
)
