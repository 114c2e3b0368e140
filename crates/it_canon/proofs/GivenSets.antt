-- The constraints of `given` lines are over the sets alone: no rate stands in their rows.
use Rattle.std.proofs.Common.{◌≡◌, ◌⊎◌, inl, inr, ℕ, ◌+◌, ◌-◌, ◌<◌, ◌≤◌, ◌^◌, bit_or, ℤ, pos, neg_ℤ, ◌+ℤ◌, ◌-ℤ◌, ◌*ℤ◌, refl, sym, ap, ap₂, ◌∙◌, arith, List, [], ◌∷◌, flat_map, cond, ne_eqb, All}
use Rattle.std.proofs.lemmas.Int.{ints}
use Rattle.std.proofs.lemmas.Nat.{or_lt, pow_pos}
use Rattle.std.proofs.lemmas.List.Elements.{All-nil, All-cons, All-head, All-tail, All-append}
use Rattle.std.proofs.lemmas.Bool.{cases_lt}
use Rattle.it_space.specs.declared.spaces.Space.{Space}
use Rattle.it_problems.specs.declared.problems.Constraint.{Constraint}
use Rattle.it_problems.specs.declared.problems.Origin.{Origin}
use Rattle.it_space.specs.Rows.{Terms, Ascends, IsOver, coefficient, one_at}
use Rattle.it_space.specs.Spaces.{size_of}
use Rattle.it_space.proofs.CanonicalRows.{head_is, other_is}
use Rattle.it_space.proofs.TermLemmas.{value-one_at}
use Rattle.it_polymatroid.specs.Certificates.{Form}
use Rattle.it_polymatroid.proofs.Forms.{one_at-zero}
use Rattle.it_syntax.specs.declared.types.Atom.{Atom}
use Rattle.it_syntax.specs.declared.types.Atom.TheVariants.{Nothing, Entropy, Mutual, Rate}
use Rattle.it_syntax.specs.declared.types.Sign.{Sign}
use Rattle.it_syntax.specs.declared.types.Sign.TheVariants.{AtLeast, AtMost, Equal}
use Rattle.it_syntax.specs.declared.types.Term.{Term}
use Rattle.it_syntax.specs.Meaning.{RelationView, IsAtomOf, common_denominator, multiplicity, atom_at, side_at}
use Rattle.it_syntax.specs.Givens.{GivenView, Relation, Markov, Independent, Function, union_of, links_from, sum_of_conditionals, IsRelationOf, IsGivenOf}
use Rattle.it_demand.specs.Canonical.{IsRowOf, form_of, signed_difference}
use Rattle.it_demand.specs.Demands.{Demand, equation, equations, demand_of, demands, independence_form}
use Rattle.it_demand.specs.Origins.{States, AreStated}
use Rattle.it_demand.proofs.ChainLemmas.{union_below}
use Rattle.it_demand.proofs.ZipLemmas.{zip-passes}

-- the form is 0 at the map that is 1 at one coordinate past the sets of n variables and 0 elsewhere
abbrev IsOfSets : ℕ → Form → Type 0
IsOfSets n form = (c : ℕ) → 2 ^ n ≤ c → form (one_at c) ≡ pos 0

-- ---- rows

-- a row without coefficients from a coordinate on has no terms there
terms_below : (size bound from : ℕ) (ts : Terms) → Ascends from ts → ((c : ℕ) → bound ≤ c → coefficient ts c ≡ pos 0) → IsOver size ts → IsOver (bound - 1) ts
terms_below size bound from [] a z u = All-nil (λ (t : ℕ × ℤ). (1 ≤ t.0) × (t.0 ≤ bound - 1))
terms_below size bound from (t ∷ ts) a z u = All-cons (λ (x : ℕ × ℤ). (1 ≤ x.0) × (x.0 ≤ bound - 1)) t ts
    (term_in_range.0, omega (arith, term_below_bound)) (terms_below size bound (t.0 + 1) ts a.3 no_later_coefficient
    (All-tail (λ (x : ℕ × ℤ). (1 ≤ x.0) × (x.0 ≤ size)) t ts u))
  where
    term_in_range : (1 ≤ t.0) × (t.0 ≤ size)
    term_in_range = All-head (λ (x : ℕ × ℤ). (1 ≤ x.0) × (x.0 ≤ size)) t ts u

    term_below_bound : t.0 < bound
    term_below_bound = by_cases (cases_lt t.0 bound)
      where
        by_cases : (t.0 < bound) ⊎ (bound ≤ t.0) → t.0 < bound
        by_cases (inl l) = l
        by_cases (inr g) = absurd (a.1 (sym (head_is from t ts a) ∙ z t.0 g))

    no_later_coefficient : (c : ℕ) → bound ≤ c → coefficient ts c ≡ pos 0
    no_later_coefficient c l = sym (other_is t ts c (λ e. omega (arith, term_below_bound, l, e))) ∙ z c l

row_of_sets : (s : Space) (form : Form) (row : Terms) → IsOfSets s.variables form → IsRowOf s form row → IsOver (2 ^ s.variables - 1) row
row_of_sets s form row f r = terms_below (size_of s) (2 ^ s.variables) 0 row r.canonical
    (λ c l. sym (value-one_at row c) ∙ r.same (one_at c) (one_at-zero c (omega (arith, l, pow_pos s.variables))) ∙ f c l) r.coordinates

-- ---- forms

at_set : (n c s : ℕ) → 2 ^ n ≤ c → s < 2 ^ n → one_at c s ≡ pos 0
at_set n c s h l = ap (λ b. cond b (pos 1) (pos 0)) (ne_eqb s c (λ e. omega (arith, h, l, e)))

atom_of_sets : (n : ℕ) (a : Atom) → IsAtomOf n 0 a → IsOfSets n (λ p. atom_at n p a)
atom_of_sets n Nothing k c h = refl
atom_of_sets n (Entropy of given) k c h = ap₂ (λ x y. x -ℤ y) (at_set n c (bit_or of given) h (or_lt n of given k.0 k.1)) (at_set n c given h k.1)
atom_of_sets n (Mutual left right given) k c h = ap₂ (λ x y. x -ℤ y)
    (ap₂ (λ x y. x +ℤ y) (at_set n c (bit_or left given) h (or_lt n left given k.0 k.2)) (at_set n c (bit_or right given) h (or_lt n right given k.1 k.2)))
    (ap₂ (λ x y. x +ℤ y) (at_set n c (bit_or (bit_or left right) given) h
    (or_lt n (bit_or left right) given (or_lt n left right k.0 k.1) k.2)) (at_set n c given h k.2))
atom_of_sets n (Rate r) k c h = absurd (omega (arith, k))

side_of_sets : (n m : ℕ) (ts : List Term) → All (λ t. IsAtomOf n 0 t.atom) ts → IsOfSets n (λ p. side_at n p m ts)
side_of_sets n m [] a c h = refl
side_of_sets n m (t ∷ ts) a c h = ap₂ (λ x y. cond t.negative (neg_ℤ (pos (multiplicity m t))) (pos (multiplicity m t)) *ℤ x +ℤ y)
    (atom_of_sets n t.atom (All-head (λ (t : Term). IsAtomOf n 0 t.atom) t ts a) c h)
    (side_of_sets n m ts (All-tail (λ (t : Term). IsAtomOf n 0 t.atom) t ts a) c h) ∙ omega (arith, ints)

relation_of_sets : (n : ℕ) (r : RelationView) → IsRelationOf n 0 r → IsOfSets n (form_of n r)
relation_of_sets n r k c h = ap₂ (λ x y. signed_difference r.sign (x -ℤ y)) (side_of_sets n (common_denominator r) r.left k.left c h)
    (side_of_sets n (common_denominator r) r.right k.right c h) ∙ zero_difference r.sign
  where
    zero_difference : (s : Sign) → signed_difference s (pos 0 -ℤ pos 0) ≡ pos 0
    zero_difference AtLeast = refl
    zero_difference AtMost = refl
    zero_difference Equal = refl

sum_of_sets : (n : ℕ) (members : List ℕ) (given : ℕ) → All (λ s. s < 2 ^ n) members → given < 2 ^ n → IsOfSets n (λ p. sum_of_conditionals n p members given)
sum_of_sets n [] given a l c h = refl
sum_of_sets n (s ∷ members) given a l c h = ap₂ (λ x y. x +ℤ y) (atom_of_sets n (Entropy s given) (All-head (λ s. s < 2 ^ n) s members a, l)
    c h) (sum_of_sets n members given (All-tail (λ s. s < 2 ^ n) s members a) l c h)

independence_of_sets : (n : ℕ) (members : List ℕ) (given : ℕ) → All (λ s. s < 2 ^ n) members → given < 2 ^ n → IsOfSets n (independence_form n members given)
independence_of_sets n members given a l c h = ap₂ (λ x y. x -ℤ y) (sum_of_sets n members given a l c h)
    (atom_of_sets n (Entropy (union_of members) given) (union_below n members a, l) c h)

-- ---- givens

links_of_sets : (n past : ℕ) (sets : List ℕ) → past < 2 ^ n → All (λ s. s < 2 ^ n) sets → All (λ d. IsOfSets n d.form) (equations n (links_from past sets))
links_of_sets n past [] l a = All-nil (λ (d : Demand). IsOfSets n d.form)
links_of_sets n past (here ∷ []) l a = All-nil (λ (d : Demand). IsOfSets n d.form)
links_of_sets n past (here ∷ next ∷ sets) l a =
    let after = All-tail (λ s. s < 2 ^ n) here (next ∷ sets) a in
    let here_lt = All-head (λ s. s < 2 ^ n) here (next ∷ sets) a in
    let link : Atom = Mutual past next here in
    All-cons (λ (d : Demand). IsOfSets n d.form) (equation (λ p. atom_at n p link)) (equations n (links_from (bit_or past here) (next ∷ sets)))
    (atom_of_sets n link (l, All-head (λ s. s < 2 ^ n) next sets after, here_lt))
    (links_of_sets n (bit_or past here) (next ∷ sets) (or_lt n past here l here_lt) after)

one_of_sets : (n : ℕ) (d : Demand) → IsOfSets n d.form → All (λ e. IsOfSets n e.form) (d ∷ [])
one_of_sets n d f = All-cons (λ (e : Demand). IsOfSets n e.form) d [] f (All-nil (λ (e : Demand). IsOfSets n e.form))

given_of_sets : (n : ℕ) (g : GivenView) → IsGivenOf n g → All (λ d. IsOfSets n d.form) (demands n g)
given_of_sets n (Relation r) k = one_of_sets n (demand_of n r) (relation_of_sets n r k)
given_of_sets n (Markov []) k = All-nil (λ (d : Demand). IsOfSets n d.form)
given_of_sets n (Markov (s ∷ sets)) k = links_of_sets n s sets (All-head (λ s. s < 2 ^ n) s sets k.within) (All-tail (λ s. s < 2 ^ n) s sets k.within)
given_of_sets n (Independent members given) k = one_of_sets n (equation (independence_form n members given))
    (independence_of_sets n members given k.0.within k.1)
given_of_sets n (Function value argument) k = one_of_sets n (equation (λ p. atom_at n p (Entropy value argument))) (atom_of_sets n (Entropy value argument) k)

lines_of_sets : (n : ℕ) (gs : List GivenView) → All (IsGivenOf n) gs → All (λ d. IsOfSets n d.form) (flat_map (demands n) gs)
lines_of_sets n [] a = All-nil (λ (d : Demand). IsOfSets n d.form)
lines_of_sets n (g ∷ gs) a = All-append (λ (d : Demand). IsOfSets n d.form) (demands n g) (flat_map (demands n) gs)
    (given_of_sets n g (All-head (IsGivenOf n) g gs a)) (lines_of_sets n gs (All-tail (IsGivenOf n) g gs a))

-- the rows of the constraints of `given` lines have no coordinate past the sets
pub given_sets : (s : Space) (places : List Origin) (cs : List GivenView) (constraints : List Constraint) → All (IsGivenOf s.variables) cs
    → AreStated s places (flat_map (demands s.variables) cs) constraints
    → All (λ c. IsOver (2 ^ s.variables - 1) c.row) constraints
given_sets s places cs constraints a h = zip-passes (States s) (λ d. IsOfSets s.variables d.form) (λ c. IsOver (2 ^ s.variables - 1) c.row)
    (λ d c t f. row_of_sets s d.form c.row f t.row) (flat_map (demands s.variables) cs) constraints h.stated (lines_of_sets s.variables cs a)
