-- Certificates: the evidence for a yes, independent of any solver.
use Rattle.std.specs.Prelude.{◌≡◌, ℕ, zero, suc, ◌<◌, ℤ, pos, ◌+ℤ◌, ◌*ℤ◌, ◌≤ℤ◌, List, [], ◌∷◌, Bool, true, false, All}
use Rattle.it_space.specs.Rows.{one_at}
use Rattle.it_space.specs.Answers.{CertificateView}

-- A linear form is a function of the points, which are maps from coordinates to numbers; it is 0 at the empty set's place, coordinate 0.
abbrev pub Form : Type 0
Form = (ℕ → ℤ) → ℤ

-- the forms that a certificate may weigh: for each number below `count` one that must be at least 0, or be 0 where it is an equation
pub record Generators : Type 0 where
  pub count : ℕ
  pub form : ℕ → Form
  pub is_equation : ℕ → Bool

-- the sum over a list of numbered weights of each weight times the value of f at its number
abbrev pub combination : List (ℕ × ℤ) → (ℕ → ℤ) → ℤ
combination [] f = pos 0
combination (w ∷ ws) f = w.1 *ℤ f w.0 +ℤ combination ws f

-- a weight that is allowed in a certificate: its generator exists, and it isn't negative unless that is an equation
abbrev pub IsAllowed : Generators → ℕ × ℤ → Type 0
IsAllowed g w = (w.0 < g.count) × (g.is_equation w.0 ≡ false → pos 0 ≤ℤ w.1)

-- A certificate (Farkas 1902): weights by which the generators add up to a positive multiple of the target, at each coordinate below `size`.
pub record IsCertificate (size : ℕ) (g : Generators) (target : Form) (w : CertificateView) : Type 0 where
  pub scale_from_one : pos 1 ≤ℤ w.scale
  pub allowed : All (IsAllowed g) w.weights
  pub adds_up : (c : ℕ) → 0 < c → c < size → w.scale *ℤ target (one_at c) ≡ combination w.weights (λ i. g.form i (one_at c))

-- the sum over the coordinates below `size` of value times coefficient
abbrev pub dot : ℕ → (ℕ → ℤ) → (ℕ → ℤ) → ℤ
dot zero f p = pos 0
dot (suc size) f p = f size *ℤ p size +ℤ dot size f p

-- f is linear in the values at the coordinates below `size`
pub record IsLinear (size : ℕ) (f : Form) : Type 0 where
  pub sum : (p : ℕ → ℤ) → p 0 ≡ pos 0 → f p ≡ dot size (λ c. f (one_at c)) p

-- Weak duality: a target with a certificate over linear generators is at least 0 wherever the generators are met.
abbrev pub CertificatesProve : Type 0
CertificatesProve = (size : ℕ) (g : Generators) (target : Form) (w : CertificateView) → ((i : ℕ) → i < g.count → IsLinear size (g.form i)) → IsLinear size target
    → IsCertificate size g target w → (p : ℕ → ℤ) → p 0 ≡ pos 0
    → ((i : ℕ) → i < g.count → pos 0 ≤ℤ g.form i p) → ((i : ℕ) → i < g.count → g.is_equation i ≡ true → g.form i p ≡ pos 0) → pos 0 ≤ℤ target p
