-- The targets of a relation: the forms that it says to be at least 0.
use Rattle.std.specs.Prelude.{ℕ, neg_ℤ, List, [], ◌∷◌}
use Rattle.it_problems.specs.declared.problems.Kind.{Kind}
use Rattle.it_problems.specs.declared.problems.Kind.TheVariants.{Inequality, Equation}
use Rattle.it_polymatroid.specs.Certificates.{Form}
use Rattle.it_syntax.specs.Meaning.{RelationView}
use Rattle.it_demand.specs.Canonical.{form_of}
use Rattle.it_demand.specs.Demands.{kind_of}

-- the negated form
abbrev pub negation : Form → Form
negation form p = neg_ℤ (form p)

-- the forms that a demand says to be at least 0: its own, and for an equation also the negated one, after it
abbrev pub inequalities_of : Kind → Form → List Form
inequalities_of Inequality form = form ∷ []
inequalities_of Equation form = form ∷ negation form ∷ []

-- the targets of a relation over n variables
abbrev pub targets : ℕ → RelationView → List Form
targets n r = inequalities_of (kind_of r.sign) (form_of n r)
