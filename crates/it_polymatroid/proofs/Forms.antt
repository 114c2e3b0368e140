-- Linear forms: sums over coordinates, and the forms that generators and targets are made of.
use Rattle.std.proofs.Common.{◌≡◌, ℕ, zero, suc, ◌+◌, ◌<◌, ◌≤◌, ◌⊎◌, inl, inr, ℤ, pos, neg_ℤ, ◌+ℤ◌, ◌-ℤ◌, ◌*ℤ◌, refl, sym, ap, ap₂, ◌∙◌, arith, [], ◌∷◌, cond, eq-eqb, ne_eqb}
use Rattle.std.proofs.lemmas.Int.{ints}
use Rattle.it_number.proofs.Integers.{zring}
use Rattle.it_polymatroid.specs.Certificates.{Form, dot, IsLinear}
use Rattle.it_space.specs.Rows.{one_at, Terms, IsOver, value}
use native.Mathlib.Nat.{eq-or-lt_of_le, le_of_suc-le-suc}
use Rattle.std.proofs.lemmas.List.Elements.{All-head, All-tail}

pub dot-zero : (n : ℕ) (p : ℕ → ℤ) → dot n (λ c. pos 0) p ≡ pos 0
dot-zero zero p = refl
dot-zero (suc n) p = omega (arith, ints, dot-zero n p)

pub dot-add : (n : ℕ) (f g p : ℕ → ℤ) → dot n (λ c. f c +ℤ g c) p ≡ dot n f p +ℤ dot n g p
dot-add zero f g p = refl
dot-add (suc n) f g p = omega (arith, zring, dot-add n f g p)

pub dot-scale : (n : ℕ) (k : ℤ) (f p : ℕ → ℤ) → dot n (λ c. k *ℤ f c) p ≡ k *ℤ dot n f p
dot-scale zero k f p = omega (arith, ints)
dot-scale (suc n) k f p = omega (arith, zring, dot-scale n k f p)

pub dot-same : (n : ℕ) (f g p : ℕ → ℤ) → ((c : ℕ) → c < n → f c ≡ g c) → dot n f p ≡ dot n g p
dot-same zero f g p h = refl
dot-same (suc n) f g p h = ap₂ (λ x y. x *ℤ p n +ℤ y) (h n (omega arith)) (dot-same n f g p (λ c k. h c (omega arith)))

-- coordinate 0 has no part in a sum, since the value there is 0
pub dot_from_one : (n : ℕ) (f g p : ℕ → ℤ) → p 0 ≡ pos 0 → ((c : ℕ) → 0 < c → c < n → f c ≡ g c) → dot n f p ≡ dot n g p
dot_from_one zero f g p e h = refl
dot_from_one (suc zero) f g p e h = rw e (omega (arith, ints))
dot_from_one (suc (suc n)) f g p e h = ap₂ (λ x y. x *ℤ p (suc n) +ℤ y) (h (suc n) (omega arith) (omega arith))
    (dot_from_one (suc n) f g p e (λ c k l. h c k (omega arith)))

-- the map of a coordinate is 0 at the empty set
pub one_at-zero : (c : ℕ) → 0 < c → one_at c 0 ≡ pos 0
one_at-zero c h = ap (λ b. cond b (pos 1) (pos 0)) (ne_eqb 0 c (omega arith))

-- one coordinate alone
dot_past : (n x : ℕ) (p : ℕ → ℤ) → n ≤ x → dot n (λ c. one_at c x) p ≡ pos 0
dot_past zero x p h = refl
dot_past (suc n) x p h = ap₂ (λ b y. cond b (pos 1) (pos 0) *ℤ p n +ℤ y) (ne_eqb x n (omega arith)) (dot_past n x p (omega arith)) ∙ omega (arith, ints)

pub dot-one : (n x : ℕ) (p : ℕ → ℤ) → x < n → dot n (λ c. one_at c x) p ≡ p x
dot-one zero x p h = absurd (omega arith)
dot-one (suc n) x p h = by_cases (eq-or-lt_of_le (le_of_suc-le-suc h)) (λ l. dot-one n x p l)
  where
    by_cases : (x ≡ n) ⊎ (x < n) → (x < n → dot n (λ c. one_at c x) p ≡ p x) → dot (suc n) (λ c. one_at c x) p ≡ p x
    by_cases (inl e) ih = ap₂ (λ b y. cond b (pos 1) (pos 0) *ℤ p n +ℤ y) (eq-eqb x n e) (dot_past n x p (omega arith)) ∙ omega (arith, ints, ap p (sym e))
    by_cases (inr l) ih = ap₂ (λ b y. cond b (pos 1) (pos 0) *ℤ p n +ℤ y) (ne_eqb x n (omega arith)) (ih l) ∙ omega (arith, ints)

-- the value at a coordinate is linear
pub linear_at : (size c : ℕ) → c < size → IsLinear size (λ p. p c)
linear_at size c h = record { sum = λ p e. sym (dot-one size c p h) }

pub linear_zero : (size : ℕ) → IsLinear size (λ p. pos 0)
linear_zero size = record { sum = λ p e. sym (dot-zero size p) }

pub linear-add : (size : ℕ) (f g : Form) → IsLinear size f → IsLinear size g → IsLinear size (λ p. f p +ℤ g p)
linear-add size f g l m = record { sum = λ p e. ap₂ (λ x y. x +ℤ y) (l.sum p e) (m.sum p e) ∙ sym (dot-add size (λ c. f (one_at c)) (λ c. g (one_at c)) p) }

pub linear-scale : (size : ℕ) (k : ℤ) (f : Form) → IsLinear size f → IsLinear size (λ p. k *ℤ f p)
linear-scale size k f l = record { sum = λ p e. ap (λ x. k *ℤ x) (l.sum p e) ∙ sym (dot-scale size k (λ c. f (one_at c)) p) }

-- forms with the same values at every point
pub linear_same : (size : ℕ) (f g : Form) → ((p : ℕ → ℤ) → p 0 ≡ pos 0 → f p ≡ g p) → IsLinear size f → IsLinear size g
linear_same size f g same l = record {
  sum = λ p e. sym (same p e) ∙ l.sum p e
      ∙ dot_from_one size (λ c. f (one_at c)) (λ c. g (one_at c)) p e (λ c h k. same (one_at c) (one_at-zero c h));
}

pub linear-sub : (size : ℕ) (f g : Form) → IsLinear size f → IsLinear size g → IsLinear size (λ p. f p -ℤ g p)
linear-sub size f g l m = linear_same size (λ p. f p +ℤ neg_ℤ (pos 1) *ℤ g p) (λ p. f p -ℤ g p) (λ p e. minus_as_negation (f p) (g p))
    (linear-add size f (λ p. neg_ℤ (pos 1) *ℤ g p) l (linear-scale size (neg_ℤ (pos 1)) g m))
  where
    minus_as_negation : (x y : ℤ) → x +ℤ neg_ℤ (pos 1) *ℤ y ≡ x -ℤ y
    minus_as_negation x y = omega (arith, ints)

-- and so is the value of a row
pub value_linear : (size : ℕ) (row : Terms) → IsOver size row → IsLinear (size + 1) (value row)
value_linear size [] u = linear_zero (size + 1)
value_linear size (t ∷ ts) u =
    let here : (1 ≤ t.0) × (t.0 ≤ size) = All-head (λ (t : ℕ × ℤ). (1 ≤ t.0) × (t.0 ≤ size)) t ts u in
    linear-add (size + 1) (λ p. t.1 *ℤ p t.0) (value ts) (linear-scale (size + 1) t.1 (λ p. p t.0) (linear_at (size + 1) t.0 (omega arith)))
    (value_linear size ts (All-tail (λ (t : ℕ × ℤ). (1 ≤ t.0) × (t.0 ≤ size)) t ts u))
