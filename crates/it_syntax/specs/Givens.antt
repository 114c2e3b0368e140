-- What the constraints of `given` lines say of entropies (Yeung 1997, "A Framework for Linear Information Inequalities"):
-- relations, chains, independence and functions.
use Rattle.std.specs.Prelude.{◌≡◌, ℕ, ◌+◌, ◌<◌, ◌≤◌, ◌^◌, bit_or, ℤ, pos, ◌+ℤ◌, List, [], ◌∷◌, length, All}
use Rattle.std.specs.List.{fold}
use Rattle.it_syntax.specs.declared.types.Atom.{Atom}
use Rattle.it_syntax.specs.declared.types.Atom.TheVariants.{Entropy, Mutual}
use Rattle.it_syntax.specs.declared.types.Given.{Given}
use Rattle.it_syntax.specs.declared.types.Given.TheVariants as givens
use Rattle.it_syntax.specs.Meaning.{RelationView, relation_view, common_denominator, atom_at, Holds, IsAtomOf}

-- a given as contracts compare it: each vector by the list of its items
pub data GivenView : Type 0 where
  Relation : (relation : RelationView) → GivenView
  Markov : (sets : List ℕ) → GivenView
  Independent : (members : List ℕ) (given : ℕ) → GivenView
  Function : (value argument : ℕ) → GivenView

-- what contracts see of a given
abbrev pub given_view : Given → GivenView
given_view (givens.Relation r) = Relation (relation_view r)
given_view (givens.Markov sets) = Markov sets.items
given_view (givens.Independent members given) = Independent members.items given
given_view (givens.Function value argument) = Function value argument

-- the union of sets
abbrev pub union_of : List ℕ → ℕ
union_of sets = fold bit_or 0 sets

-- The links of a chain A1 to Ak: I(A1,..,A(i-1); A(i+1) | Ai) for each i from 2 to k - 1. `past` is the union of the sets
-- before those in the list.
abbrev pub links_from : ℕ → List ℕ → List Atom
links_from past (here ∷ next ∷ sets) = Mutual past next here ∷ links_from (bit_or past here) (next ∷ sets)
links_from past (here ∷ []) = []
links_from past [] = []

-- all links of a chain
abbrev pub links : List ℕ → List Atom
links [] = []
links (first ∷ sets) = links_from first sets

-- the sum of the H(A|W) over the members A
abbrev pub sum_of_conditionals : ℕ → (ℕ → ℤ) → List ℕ → ℕ → ℤ
sum_of_conditionals n p [] given = pos 0
sum_of_conditionals n p (member ∷ members) given = atom_at n p (Entropy member given) +ℤ sum_of_conditionals n p members given

-- The constraint holds at the map p: each link of a chain is 0, the joint entropy of independent sets is the sum of theirs,
-- a function has no entropy given its argument.
abbrev pub IsTrueAt : ℕ → (ℕ → ℤ) → GivenView → Type 0
IsTrueAt n p (Relation r) = Holds n p r
IsTrueAt n p (Markov sets) = All (λ link. atom_at n p link ≡ pos 0) (links sets)
IsTrueAt n p (Independent members given) = atom_at n p (Entropy (union_of members) given) ≡ sum_of_conditionals n p members given
IsTrueAt n p (Function value argument) = atom_at n p (Entropy value argument) ≡ pos 0

-- a relation of n variables and m rates within the limits: at most 256 terms, and denominators other than 0 whose least common
-- multiple is at most 2 ^ 32
pub record IsRelationOf (n m : ℕ) (r : RelationView) : Type 0 where
  pub few : length r.left + length r.right ≤ 256
  pub left : All (λ t. IsAtomOf n m t.atom) r.left
  pub right : All (λ t. IsAtomOf n m t.atom) r.right
  pub some_multiple : 1 ≤ common_denominator r
  pub small_multiple : common_denominator r ≤ 2 ^ 32

-- `least` to `most` sets of n variables
pub record AreSetsOf (n least most : ℕ) (sets : List ℕ) : Type 0 where
  pub some : least ≤ length sets
  pub few : length sets ≤ most
  pub within : All (λ s. s < 2 ^ n) sets

-- a constraint of n variables within the limits: a relation without rates, 3 to 16 sets in a chain, 2 to 16 in an independence
abbrev pub IsGivenOf : ℕ → GivenView → Type 0
IsGivenOf n (Relation r) = IsRelationOf n 0 r
IsGivenOf n (Markov sets) = AreSetsOf n 3 16 sets
IsGivenOf n (Independent members given) = AreSetsOf n 2 16 members × (given < 2 ^ n)
IsGivenOf n (Function value argument) = (value < 2 ^ n) × (argument < 2 ^ n)
