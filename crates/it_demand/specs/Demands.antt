-- The demands of a given: that some forms are 0, or at least 0.
use Rattle.std.specs.Prelude.{ℕ, ◌-ℤ◌, List, [], ◌∷◌, map}
use Rattle.it_problems.specs.declared.problems.Kind.{Kind}
use Rattle.it_problems.specs.declared.problems.Kind.TheVariants.{Inequality, Equation}
use Rattle.it_polymatroid.specs.Certificates.{Form}
use Rattle.it_syntax.specs.declared.types.Sign.{Sign}
use Rattle.it_syntax.specs.declared.types.Sign.TheVariants.{AtLeast, AtMost, Equal}
use Rattle.it_syntax.specs.declared.types.Atom.{Atom}
use Rattle.it_syntax.specs.declared.types.Atom.TheVariants.{Entropy}
use Rattle.it_syntax.specs.Meaning.{RelationView, atom_at}
use Rattle.it_syntax.specs.Givens.{GivenView, Relation, Markov, Independent, Function, union_of, links, sum_of_conditionals}
use Rattle.it_demand.specs.Canonical.{form_of}

-- the demand that a form is at least 0, or that it is 0
pub record Demand : Type 0 where
  pub kind : Kind
  pub form : Form

-- the kind of a relation of this sign: an equation for `=`, else an inequality
abbrev pub kind_of : Sign → Kind
kind_of AtLeast = Inequality
kind_of AtMost = Inequality
kind_of Equal = Equation

-- the demand of a relation
abbrev pub demand_of : ℕ → RelationView → Demand
demand_of n r = record { kind = kind_of r.sign; form = form_of n r }

-- the demand that a form is 0
abbrev pub equation : Form → Demand
equation form = record { kind = Equation; form = form }

-- the demands that each of these atoms is 0
abbrev pub equations : ℕ → List Atom → List Demand
equations n atoms = map (λ atom. equation (λ p. atom_at n p atom)) atoms

-- the sum of the H(A|W) over the members A, less their joint entropy given W
abbrev pub independence_form : ℕ → List ℕ → ℕ → Form
independence_form n members given p = sum_of_conditionals n p members given -ℤ atom_at n p (Entropy (union_of members) given)

-- the demands of a given: one of a relation, one of each link of a chain, one of an independence and of a function
abbrev pub demands : ℕ → GivenView → List Demand
demands n (Relation r) = demand_of n r ∷ []
demands n (Markov sets) = equations n (links sets)
demands n (Independent members given) = equation (independence_form n members given) ∷ []
demands n (Function value argument) = equation (λ p. atom_at n p (Entropy value argument)) ∷ []
