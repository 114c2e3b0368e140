-- Linear forms as the list of all their coefficients.
use Rattle.std.specs.Prelude.{◌≡◌, ℕ, ◌+◌, ◌≤◌, ℤ, pos, neg_ℤ, ◌+ℤ◌, ◌*ℤ◌, unsigned_abs, Bool, List, [], ◌∷◌, length, if◌then◌else◌}
use Rattle.it_polymatroid.specs.Certificates.{Form}

-- the form with the coefficients `xs`, the first of which is that of the coordinate `first`
abbrev pub dense_form_from : ℕ → List ℤ → Form
dense_form_from first [] p = pos 0
dense_form_from first (x ∷ xs) p = x *ℤ p first +ℤ dense_form_from (first + 1) xs p

-- the form with the coefficients `xs`, of all coordinates from 0 on
abbrev pub dense_form : List ℤ → Form
dense_form xs p = dense_form_from 0 xs p

-- the sum of the absolute values
abbrev pub mass : List ℤ → ℕ
mass [] = 0
mass (x ∷ xs) = unsigned_abs x + mass xs

-- `form` was added to the form of `old`; the sum of the absolute values grew by at most `bound`
pub record IsFormAdded (old new : List ℤ) (bound : ℕ) (form : Form) : Type 0 where
  pub complete : length new ≡ length old
  pub small : mass new ≤ mass old + bound
  pub sum : (p : ℕ → ℤ) → dense_form new p ≡ dense_form old p +ℤ form p

-- x, negated if `negative`
abbrev pub signed_by : Bool → ℤ → ℤ
signed_by negative x = if negative then neg_ℤ x else x
