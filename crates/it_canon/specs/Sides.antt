-- The two sides of a relation as forms.
use Rattle.std.specs.Prelude.{ℕ}
use Rattle.it_polymatroid.specs.Certificates.{Form}
use Rattle.it_syntax.specs.Meaning.{RelationView, common_denominator, side_at}

-- the left side over n variables, times the least common multiple of the denominators of both sides
abbrev pub left_form : ℕ → RelationView → Form
left_form n r p = side_at n p (common_denominator r) r.left

-- the right side over n variables, times the least common multiple of the denominators of both sides
abbrev pub right_form : ℕ → RelationView → Form
right_form n r p = side_at n p (common_denominator r) r.right
