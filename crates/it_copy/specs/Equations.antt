-- The equations of a copy (Zhang and Yeung, "On characterization of entropy function via information inequalities", 1998): it has
-- with each part of the set the entropy of its original with that part, and is independent, given the set, of all variables
-- before it that aren't in the set.
use Rattle.std.specs.Prelude.{ℕ, ◌+◌, ◌-◌, ◌^◌, false, List, [], ◌∷◌, ◌++◌, map, filter, bit_or}
use Rattle.it_polymatroid.specs.Elementals.{span}
use Rattle.it_closure.specs.Closures.{is_inside}
use Rattle.it_syntax.specs.declared.types.Sign.TheVariants.{Equal}
use Rattle.it_syntax.specs.declared.types.Atom.{Atom}
use Rattle.it_syntax.specs.declared.types.Atom.TheVariants.{Nothing, Entropy, Mutual, Rate}
use Rattle.it_syntax.specs.declared.types.Term.{Term}
use Rattle.it_syntax.specs.Givens.{GivenView, Relation}

-- an atom once, or the number 0
abbrev pub term_of : Atom → Term
term_of Nothing = record { negative = false; number = 0; denominator = 1; atom = Nothing }
term_of (Entropy of given) = record { negative = false; number = 1; denominator = 1; atom = Entropy of given }
term_of (Mutual left right given) = record { negative = false; number = 1; denominator = 1; atom = Mutual left right given }
term_of (Rate r) = record { negative = false; number = 1; denominator = 1; atom = Rate r }

-- the given that two atoms are equal
abbrev pub equal_atoms : Atom → Atom → GivenView
equal_atoms left right = Relation (record { left = term_of left ∷ []; sign = Equal; right = term_of right ∷ [] })

-- H(R,S) = H(A,S), for the copy R of A
abbrev pub inside_equation : ℕ → ℕ → ℕ → GivenView
inside_equation fresh old s = equal_atoms (Entropy (bit_or (2 ^ fresh) s) 0) (Entropy (bit_or (2 ^ old) s) 0)

-- such an equation for each of `sets` that is inside `over`
abbrev pub inside_equations : ℕ → ℕ → ℕ → List ℕ → List GivenView
inside_equations fresh old over sets = map (inside_equation fresh old) (filter (λ s. is_inside s over) sets)

-- I(R;V|W) = 0, where V is the variables before R that aren't in W
abbrev pub apart_equation : ℕ → ℕ → GivenView
apart_equation fresh over = equal_atoms (Mutual (2 ^ fresh) ((2 ^ fresh - 1) - over) over) Nothing

-- the equations of variable `fresh`, a copy of variable `old` over a set: one for each set inside it, by number, and the last one
unfoldable pub copy_equations : ℕ → ℕ → ℕ → List GivenView
copy_equations fresh old over = inside_equations fresh old over (span 0 (over + 1)) ++ apart_equation fresh over ∷ []
