-- What a relation says of entropies and rates, by cases on the tree that was read (Yeung 1997, "A Framework for Linear Information
-- Inequalities"). A map p gives the number at each coordinate of n variables: p s the joint entropy of the set s, p 0 that of
-- the empty set, p (2 ^ n + r) rate r.
use Rattle.std.specs.Prelude.{◌≡◌, ℕ, ◌+◌, ◌*◌, ◌/◌, ◌<◌, ◌^◌, bit_or, ℤ, pos, neg_ℤ, ◌+ℤ◌, ◌-ℤ◌, ◌*ℤ◌, ◌≤ℤ◌, List, [], ◌∷◌, map, if◌then◌else◌}
use Rattle.std.specs.List.{fold}
use Rattle.it_number.specs.Gcd.{lcm}
use Rattle.it_syntax.specs.declared.types.Atom.{Atom}
use Rattle.it_syntax.specs.declared.types.Atom.TheVariants.{Nothing, Entropy, Mutual, Rate}
use Rattle.it_syntax.specs.declared.types.Term.{Term}
use Rattle.it_syntax.specs.declared.types.Sign.{Sign}
use Rattle.it_syntax.specs.declared.types.Sign.TheVariants.{AtLeast, AtMost, Equal}
use Rattle.it_syntax.specs.declared.types.Relation.{Relation}

-- a relation as contracts compare it: each side by the list of its terms
pub record RelationView : Type 0 where
  pub left : List Term
  pub sign : Sign
  pub right : List Term

-- what contracts see of a relation
abbrev pub relation_view : Relation → RelationView
relation_view r = record { left = r.left.terms.items; sign = r.sign; right = r.right.terms.items }

-- H(A|B) = h(A, B) - h(B) and I(A;B|C) = h(A, C) + h(B, C) - h(A, B, C) - h(C)
abbrev pub atom_at : ℕ → (ℕ → ℤ) → Atom → ℤ
atom_at n p Nothing = pos 0
atom_at n p (Entropy of given) = p (bit_or of given) -ℤ p given
atom_at n p (Mutual left right given) =
    (p (bit_or left given) +ℤ p (bit_or right given)) -ℤ (p (bit_or (bit_or left right) given) +ℤ p given)
atom_at n p (Rate r) = p (2 ^ n + r)

-- the least common multiple of m and the denominators of `ts`
abbrev pub multiple_from : ℕ → List Term → ℕ
multiple_from m ts = fold lcm m (map (λ t. t.denominator) ts)

-- the least common multiple of the denominators of both sides
abbrev pub common_denominator : RelationView → ℕ
common_denominator r = multiple_from (multiple_from 1 r.left) r.right

-- the coefficient of the atom in m times the term, without its sign, where the denominator divides m
abbrev pub multiplicity : ℕ → Term → ℕ
multiplicity m t = t.number * (m / t.denominator)

-- m times the value of the term at p: its atom's value times the coefficient, with the term's sign
abbrev pub term_at : ℕ → (ℕ → ℤ) → ℕ → Term → ℤ
term_at n p m t = (if t.negative then neg_ℤ (pos (multiplicity m t)) else pos (multiplicity m t)) *ℤ atom_at n p t.atom

-- m times the sum of the terms at p
abbrev pub side_at : ℕ → (ℕ → ℤ) → ℕ → List Term → ℤ
side_at n p m [] = pos 0
side_at n p m (t ∷ ts) = term_at n p m t +ℤ side_at n p m ts

-- the left side less the right one, times the least common multiple of the denominators
abbrev pub difference_at : ℕ → (ℕ → ℤ) → RelationView → ℤ
difference_at n p r = side_at n p (common_denominator r) r.left -ℤ side_at n p (common_denominator r) r.right

-- x and y are related as the sign says
abbrev pub Relates : Sign → ℤ → ℤ → Type 0
Relates AtLeast x y = y ≤ℤ x
Relates AtMost x y = x ≤ℤ y
Relates Equal x y = x ≡ y

-- the relation holds at p: the values of its sides, times the least common multiple of the denominators, are related as its sign says
abbrev pub Holds : ℕ → (ℕ → ℤ) → RelationView → Type 0
Holds n p r = Relates r.sign (side_at n p (common_denominator r) r.left) (side_at n p (common_denominator r) r.right)

-- the sets of the atom are sets of n variables, and its rate is one of m
abbrev pub IsAtomOf : ℕ → ℕ → Atom → Type 0
IsAtomOf n m Nothing = Unit {0}
IsAtomOf n m (Entropy of given) = (of < 2 ^ n) × (given < 2 ^ n)
IsAtomOf n m (Mutual left right given) = (left < 2 ^ n) × (right < 2 ^ n) × (given < 2 ^ n)
IsAtomOf n m (Rate r) = r < m
