-- Relations and constraints within the limits, of more variables and rates, and how many demands lines have.
use Rattle.std.proofs.Common.{◌≡◌, ℕ, zero, suc, map, ◌+◌, ◌*◌, ◌<◌, ◌≤◌, ◌^◌, refl, arith, List, [], ◌∷◌, length, All, lit<, length-append}
use Rattle.std.specs.List.{flat_map}
use Rattle.std.proofs.Math.Nat.{pow-le-pow_right}
use Rattle.std.proofs.lemmas.List.Elements.{All-head, All-tail, All-weaker}
use Rattle.it_syntax.specs.declared.types.Atom.{Atom}
use Rattle.it_syntax.specs.declared.types.Atom.TheVariants.{Nothing, Entropy, Mutual, Rate}
use Rattle.it_syntax.specs.declared.types.Term.{Term}
use Rattle.it_syntax.specs.Meaning.{RelationView, IsAtomOf}
use Rattle.it_syntax.specs.Givens.{GivenView, Relation, Markov, Independent, Function, IsRelationOf, AreSetsOf, IsGivenOf}
use Rattle.it_demand.specs.Demands.{demand_of, demands}
use Rattle.it_demand.specs.Origins.{part_origins, line_parts, given_origins, row_origins}
use Rattle.it_demand.proofs.ChainLemmas.{chain-length}

-- sets of n variables are sets of more
pub wider_set : (n w s : ℕ) → n ≤ w → s < 2 ^ n → s < 2 ^ w
wider_set n w s h l = let e : 2 ^ n ≤ 2 ^ w = pow-le-pow_right (lit< tt) h in omega arith

wider_atom : (n w m : ℕ) → n ≤ w → (a : Atom) → IsAtomOf n m a → IsAtomOf w m a
wider_atom n w m h Nothing a = tt
wider_atom n w m h (Entropy of given) a = (wider_set n w of h a.0, wider_set n w given h a.1)
wider_atom n w m h (Mutual left right given) a = (wider_set n w left h a.0, wider_set n w right h a.1, wider_set n w given h a.2)
wider_atom n w m h (Rate r) a = a

pub wider_relation : (n w m : ℕ) → n ≤ w → (r : RelationView) → IsRelationOf n m r → IsRelationOf w m r
wider_relation n w m h r a = record {
  few = a.few;
  left = All-weaker (λ (t : Term). IsAtomOf n m t.atom) (λ t. IsAtomOf w m t.atom) (λ t b. wider_atom n w m h t.atom b) r.left a.left;
  right = All-weaker (λ (t : Term). IsAtomOf n m t.atom) (λ t. IsAtomOf w m t.atom) (λ t b. wider_atom n w m h t.atom b) r.right a.right;
  some_multiple = a.some_multiple;
  small_multiple = a.small_multiple;
}

wider_sets : (n w least most : ℕ) → n ≤ w → (sets : List ℕ) → AreSetsOf n least most sets → AreSetsOf w least most sets
wider_sets n w least most h sets a = record {
  some = a.some;
  few = a.few;
  within = All-weaker (λ s. s < 2 ^ n) (λ s. s < 2 ^ w)
      (λ s l. wider_set n w s h l) sets a.within;
}

pub wider_given : (n w : ℕ) → n ≤ w → (c : GivenView) → IsGivenOf n c → IsGivenOf w c
wider_given n w h (Relation r) a = wider_relation n w 0 h r a
wider_given n w h (Markov sets) a = wider_sets n w 3 16 h sets a
wider_given n w h (Independent members given) a = (wider_sets n w 2 16 h members a.0, wider_set n w given h a.1)
wider_given n w h (Function value argument) a = (wider_set n w value h a.0, wider_set n w argument h a.1)

-- a relation without rates is one over a space with rates
rated_atom : (n m : ℕ) (a : Atom) → IsAtomOf n 0 a → IsAtomOf n m a
rated_atom n m Nothing a = tt
rated_atom n m (Entropy of given) a = a
rated_atom n m (Mutual left right given) a = a
rated_atom n m (Rate r) a = absurd (omega (arith, a))

pub more_rates : (n m : ℕ) (r : RelationView) → IsRelationOf n 0 r → IsRelationOf n m r
more_rates n m r a = record {
  few = a.few;
  left = All-weaker (λ (t : Term). IsAtomOf n 0 t.atom) (λ t. IsAtomOf n m t.atom) (λ t b. rated_atom n m t.atom b) r.left a.left;
  right = All-weaker (λ (t : Term). IsAtomOf n 0 t.atom) (λ t. IsAtomOf n m t.atom) (λ t b. rated_atom n m t.atom b) r.right a.right;
  some_multiple = a.some_multiple;
  small_multiple = a.small_multiple;
}

-- a given has at most 14 parts
parts-few : (n : ℕ) (c : GivenView) → IsGivenOf n c → length (demands n c) ≤ 14
parts-few n (Relation r) a = omega arith
parts-few n (Markov sets) a = omega (arith, chain-length n sets, a.few)
parts-few n (Independent members given) a = omega arith
parts-few n (Function value argument) a = omega arith

pub givens-few : (n : ℕ) (cs : List GivenView) → All (IsGivenOf n) cs → length (flat_map (demands n) cs) ≤ 14 * length cs
givens-few n [] a = omega arith
givens-few n (c ∷ cs) a =
    omega (
      arith,
      length-append (demands n c) (flat_map (demands n) cs),
      parts-few n c (All-head (IsGivenOf n) c cs a),
      givens-few n cs
          (All-tail (IsGivenOf n) c cs a),
    )

-- there is an origin for each demand
parts-length : (line parts part count : ℕ) → length (part_origins line parts part count) ≡ count
parts-length line parts part zero = refl
parts-length line parts part (suc count) = omega (arith, parts-length line parts (part + 1) count)

pub given_origins-length : (n line : ℕ) (cs : List GivenView) → length (given_origins n line cs) ≡ length (flat_map (demands n) cs)
given_origins-length n line [] = refl
given_origins-length n line (c ∷ cs) = omega (
  arith,
  length-append (line_parts line (demands n c)) (given_origins n (line + 1) cs),
  parts-length line (length (demands n c)) 1 (length (demands n c)),
  length-append (demands n c) (flat_map (demands n) cs),
  given_origins-length n (line + 1) cs,
)

pub row_origins-length : (n line : ℕ) (rs : List RelationView) → length (row_origins line rs) ≡ length (map (demand_of n) rs)
row_origins-length n line [] = refl
row_origins-length n line (r ∷ rs) = omega (arith, row_origins-length n (line + 1) rs)
