-- Constraints are met where the lines that they state are true, and the rows of a system are at least 0 where its lines hold.
use Rattle.std.proofs.Common.{◌≡◌, ◌↔◌, ℕ, ℤ, pos, ◌-ℤ◌, ◌≤ℤ◌, refl, sym, subst, subst₂, arith, List, [], ◌∷◌, map, All}
use Rattle.std.specs.List.{flat_map}
use Rattle.std.proofs.lemmas.Int.{ints}
use Rattle.std.proofs.lemmas.List.Elements.{All-nil, All-cons, All-head, All-tail, All-append}
use Rattle.it_space.specs.declared.spaces.Space.{Space}
use Rattle.it_problems.specs.declared.problems.Kind.{Kind}
use Rattle.it_problems.specs.declared.problems.Origin.{Origin}
use Rattle.it_problems.specs.declared.problems.Constraint.{Constraint}
use Rattle.it_problems.specs.Problems.{Meets, IsMet, AreMet}
use Rattle.it_space.specs.Rows.{Terms, value}
use Rattle.it_syntax.specs.declared.types.Atom.{Atom}
use Rattle.it_syntax.specs.declared.types.Sign.{Sign}
use Rattle.it_syntax.specs.declared.types.Sign.TheVariants.{AtLeast, AtMost, Equal}
use Rattle.it_syntax.specs.declared.types.Atom.TheVariants.{Entropy}
use Rattle.it_syntax.specs.Meaning.{RelationView, common_denominator, atom_at, side_at, Relates, Holds}
use Rattle.it_syntax.specs.Givens.{GivenView, Relation, Markov, Independent, Function, IsTrueAt, links, sum_of_conditionals, union_of}
use Rattle.it_polymatroid.specs.Certificates.{Form}
use Rattle.it_demand.specs.Canonical.{IsRowOf, form_of, signed_difference}
use Rattle.it_demand.specs.Demands.{Demand, kind_of, equation, equations, demand_of, demands}
use Rattle.it_demand.specs.Origins.{States, AreStated, line_parts, AreParts}
use Rattle.it_demand.specs.Targets.{negation, targets, inequalities_of}
use Rattle.it_demand.specs.SystemForms.{system_forms, AreRowsOf, AreAtLeastZero}
use Rattle.it_demand.proofs.ZipLemmas.{zip-same, All-parts}

-- a demand is met at a map
abbrev pub IsSatisfied : (ℕ → ℤ) → Demand → Type 0
IsSatisfied p d = Meets d.kind (d.form p)

states_same : (s : Space) (d : Demand) (c : Constraint) (p : ℕ → ℤ) → p 0 ≡ pos 0 → States s d c → IsMet p c ↔ IsSatisfied p d
states_same s d c p z h = (
  λ m. subst₂ (λ (k : Kind) (x : ℤ). Meets k x) h.kind (h.row.same p z) m,
  λ m. subst₂ (λ (k : Kind) (x : ℤ). Meets k x) (sym h.kind) (sym (h.row.same p z)) m,
)

-- constraints are met where what they state is
pub stated_met : (s : Space) (places : List Origin) (ds : List Demand) (cs : List Constraint) (p : ℕ → ℤ) → p 0 ≡ pos 0
    → AreStated s places ds cs → AreMet p cs ↔ All (IsSatisfied p) ds
stated_met s places ds cs p z h = zip-same (States s) (IsSatisfied p) (IsMet p) (λ d c t. states_same s d c p z t) ds cs h.stated

-- one demand alone
one_demand_met : (p : ℕ → ℤ) (d : Demand) → All (IsSatisfied p) (d ∷ []) ↔ IsSatisfied p d
one_demand_met p d = (λ m. All-head (IsSatisfied p) d [] m, λ m. All-cons (IsSatisfied p) d [] m (All-nil (IsSatisfied p)))

demand_compares : (s : Sign) (x y : ℤ) → Meets (kind_of s) (signed_difference s (x -ℤ y)) ↔ Relates s x y
demand_compares AtLeast x y = (λ h. omega (arith, ints, h), λ h. omega (arith, ints, h))
demand_compares AtMost x y = (λ h. omega (arith, ints, h), λ h. omega (arith, ints, h))
demand_compares Equal x y = (λ h. omega (arith, ints, h), λ h. omega (arith, ints, h))

difference_is_zero : (x y : ℤ) → (x -ℤ y ≡ pos 0) ↔ (y ≡ x)
difference_is_zero x y = (λ h. omega (arith, ints, h), λ h. omega (arith, ints, h))

links_met : (n : ℕ) (p : ℕ → ℤ) (ls : List Atom) → All (IsSatisfied p) (equations n ls) ↔ All (λ link. atom_at n p link ≡ pos 0) ls
links_met n p [] = (λ m. All-nil (λ link. atom_at n p link ≡ pos 0), λ m. All-nil (IsSatisfied p))
links_met n p (l ∷ ls) =
    let rest = links_met n p ls in
    let one : Demand = equation (λ q. atom_at n q l) in (
      λ m. All-cons (λ link. atom_at n p link ≡ pos 0) l ls (All-head (IsSatisfied p) one (equations n ls) m)
          (rest.0 (All-tail (IsSatisfied p) one (equations n ls) m)),
      λ m. All-cons (IsSatisfied p) one (equations n ls) (All-head (λ link. atom_at n p link ≡ pos 0) l ls m)
          (rest.1 (All-tail (λ link. atom_at n p link ≡ pos 0) l ls m)),
    )

pub iff_trans : {A B C : Type 0} → A ↔ B → B ↔ C → A ↔ C
iff_trans f g = (λ a. g.0 (f.0 a), λ c. f.1 (g.1 c))

demands_satisfied : (n : ℕ) (p : ℕ → ℤ) (c : GivenView) → All (IsSatisfied p) (demands n c) ↔ IsTrueAt n p c
demands_satisfied n p (Relation r) = iff_trans (one_demand_met p _) (demand_compares r.sign (side_at n p (common_denominator r) r.left)
    (side_at n p (common_denominator r) r.right))
demands_satisfied n p (Markov sets) = links_met n p (links sets)
demands_satisfied n p (Independent members given) = iff_trans (one_demand_met p _)
    (difference_is_zero (sum_of_conditionals n p members given) (atom_at n p (Entropy (union_of members) given)))
demands_satisfied n p (Function value argument) = one_demand_met p _

pub given_met : (s : Space) (line : ℕ) (c : GivenView) (cs : List Constraint) → AreParts s line (demands s.variables c) cs → (p : ℕ → ℤ)
    → p 0 ≡ pos 0 → AreMet p cs ↔ IsTrueAt s.variables p c
given_met s line c cs h p z = iff_trans (stated_met s (line_parts line (demands s.variables c)) (demands s.variables c) cs p z h)
    (demands_satisfied s.variables p c)

-- those of several lines, where each is true
pub givens_satisfied : (n : ℕ) (cs : List GivenView) (p : ℕ → ℤ) → All (IsSatisfied p) (flat_map (demands n) cs) ↔ All (IsTrueAt n p) cs
givens_satisfied n [] p = (λ m. All-nil (IsTrueAt n p), λ m. All-nil (IsSatisfied p))
givens_satisfied n (c ∷ cs) p =
    let more = flat_map (demands n) cs in
    let one = demands_satisfied n p c in
    let rest = givens_satisfied n cs p in (
      λ m. let each = All-parts (IsSatisfied p) (demands n c) more m in All-cons (IsTrueAt n p) c cs (one.0 each.0) (rest.0 each.1),
      λ m. All-append (IsSatisfied p) (demands n c) more (one.1 (All-head (IsTrueAt n p) c cs m)) (rest.1 (All-tail (IsTrueAt n p) c cs m)),
    )

pub rows_satisfied : (n : ℕ) (rs : List RelationView) (p : ℕ → ℤ) → All (IsSatisfied p) (map (demand_of n) rs) ↔ All (Holds n p) rs
rows_satisfied n [] p = (λ m. All-nil (Holds n p), λ m. All-nil (IsSatisfied p))
rows_satisfied n (r ∷ rs) p =
    let more = map (demand_of n) rs in
    let one = demand_compares r.sign (side_at n p (common_denominator r) r.left) (side_at n p (common_denominator r) r.right) in
    let rest = rows_satisfied n rs p in (
      λ m. All-cons (Holds n p) r rs (one.0 (All-head (IsSatisfied p) (demand_of n r) more m)) (rest.0 (All-tail (IsSatisfied p) (demand_of n r) more m)),
      λ m. All-cons (IsSatisfied p) (demand_of n r) more (one.1 (All-head (Holds n p) r rs m)) (rest.1 (All-tail (Holds n p) r rs m)),
    )

-- the rows of a relation are at least 0 where it holds
pub targets_met : (s : Sign) (x y : ℤ) (form : Form) (p : ℕ → ℤ) → form p ≡ signed_difference s (x -ℤ y)
    → All (λ (f : Form). pos 0 ≤ℤ f p) (inequalities_of (kind_of s) form) ↔ Relates s x y
targets_met AtLeast x y form p e = (
  λ m. omega (arith, ints, e, All-head (λ (f : Form). pos 0 ≤ℤ f p) form [] m),
  λ h. All-cons (λ (f : Form). pos 0 ≤ℤ f p) form [] (omega (arith, ints, e, h)) (All-nil (λ (f : Form). pos 0 ≤ℤ f p)),
)
targets_met AtMost x y form p e = (
  λ m. omega (arith, ints, e, All-head (λ (f : Form). pos 0 ≤ℤ f p) form [] m),
  λ h. All-cons (λ (f : Form). pos 0 ≤ℤ f p) form [] (omega (arith, ints, e, h)) (All-nil (λ (f : Form). pos 0 ≤ℤ f p)),
)
targets_met Equal x y form p e =
    let P : Form → Type 0 = λ (f : Form). pos 0 ≤ℤ f p in
    let back : Form = negation form in (
      λ m. omega (arith, ints, e, All-head P form (back ∷ []) m, All-head P back [] (All-tail P form (back ∷ []) m)),
      λ h. All-cons P form (back ∷ []) (omega (arith, ints, e, h)) (All-cons P back [] (omega (arith, ints, e, h)) (All-nil P)),
    )

forms_met : (n : ℕ) (rs : List RelationView) (p : ℕ → ℤ) → All (λ (f : Form). pos 0 ≤ℤ f p) (system_forms n rs) ↔ All (Holds n p) rs
forms_met n [] p = (λ m. All-nil (Holds n p), λ m. All-nil (λ (f : Form). pos 0 ≤ℤ f p))
forms_met n (r ∷ rs) p =
    let P : Form → Type 0 = λ (f : Form). pos 0 ≤ℤ f p in
    let one = targets_met r.sign (side_at n p (common_denominator r) r.left) (side_at n p (common_denominator r) r.right) (form_of n r) p refl in
    let rest = forms_met n rs p in (
      λ m. let each = All-parts P (targets n r) (system_forms n rs) m in All-cons (Holds n p) r rs (one.0 each.0) (rest.0 each.1),
      λ m. All-append P (targets n r) (system_forms n rs) (one.1 (All-head (Holds n p) r rs m)) (rest.1 (All-tail (Holds n p) r rs m)),
    )

pub system_met : (s : Space) (rs : List RelationView) (rows : List Terms) → AreRowsOf s (system_forms s.variables rs) rows → (p : ℕ → ℤ)
    → p 0 ≡ pos 0 → AreAtLeastZero p rows ↔ All (Holds s.variables p) rs
system_met s rs rows h p z = iff_trans
    (zip-same (IsRowOf s) (λ (f : Form). pos 0 ≤ℤ f p) (λ row. pos 0 ≤ℤ value row p)
    (λ f row t. (λ m. subst (λ (x : ℤ). pos 0 ≤ℤ x) (t.same p z) m, λ m. subst (λ (x : ℤ). pos 0 ≤ℤ x) (sym (t.same p z)) m))
    (system_forms s.variables rs) rows h)
    (forms_met s.variables rs p)
