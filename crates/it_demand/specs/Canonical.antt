-- Rows of linear forms, and the forms of relations.
use Rattle.std.specs.Prelude.{◌≡◌, ℕ, ℤ, pos, neg_ℤ}
use Rattle.it_space.specs.declared.spaces.Space.{Space}
use Rattle.it_space.specs.Bounds.{IsSmall}
use Rattle.it_space.specs.Rows.{Terms, IsCanonical, IsOver, value}
use Rattle.it_space.specs.Spaces.{size_of}
use Rattle.it_polymatroid.specs.Certificates.{Form}
use Rattle.it_syntax.specs.declared.types.Sign.{Sign}
use Rattle.it_syntax.specs.declared.types.Sign.TheVariants.{AtLeast, AtMost, Equal}
use Rattle.it_syntax.specs.Meaning.{RelationView, difference_at}

-- the canonical row over the coordinates of the space that has the form's value at every map that is 0 at the empty set, with
-- small coefficients
pub record IsRowOf (s : Space) (form : Form) (row : Terms) : Type 0 where
  pub same : (p : ℕ → ℤ) → p 0 ≡ pos 0 → value row p ≡ form p
  pub coordinates : IsOver (size_of s) row
  pub canonical : IsCanonical row
  pub small : IsSmall row

-- the difference of the sides as it is compared with 0 by `>=` or `=`
abbrev pub signed_difference : Sign → ℤ → ℤ
signed_difference AtLeast x = x
signed_difference AtMost x = neg_ℤ x
signed_difference Equal x = x

-- the form that a relation says to be at least 0, or to be 0: the left side less the right one, negated for `<=`
abbrev pub form_of : ℕ → RelationView → Form
form_of n r p = signed_difference r.sign (difference_at n p r)
