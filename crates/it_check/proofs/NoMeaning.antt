-- The verdict on a counterexample is `Valid` exactly if it refutes the target and its numbers are within the limit.
use Rattle.std.proofs.Common.{◌≡◌, ℕ, ◌+◌, ℤ, pos, neg_ℤ, ◌+ℤ◌, ◌≤ℤ◌, List, [], ◌∷◌, map, length, Bool, true, false, cond, not, Option, Some, None, ltb, refl, sym, ap, subst, ◌∙◌, arith}
use Rattle.std.specs.Option.{option_or}
use Rattle.std.specs.Bool.{Decides}
use Rattle.std.specs.Int.Signed.{lt_z}
use Rattle.std.specs.Ordering.{int_eq}
use Rattle.std.proofs.lemmas.Int.{ints}
use Rattle.std.proofs.lemmas.Bool.Decides.{Decides-int_eq}
use Rattle.it_problems.specs.declared.problems.Kind.{Kind}
use Rattle.it_problems.specs.declared.problems.Kind.TheVariants.{Inequality, Equation}
use Rattle.it_problems.specs.declared.problems.Constraint.{Constraint}
use Rattle.it_problems.specs.Problems.{Meets, AreMet, IsMet}
use Rattle.it_space.specs.Rows.{Terms, ValueFits, value}
use Rattle.it_polymatroid.specs.Polymatroid.{IsPolymatroid}
use Rattle.it_polymatroid.specs.Elementals.{elementals, elemental_value}
use Rattle.std.specs.List.{AllByRecursion as Every}
use Rattle.std.proofs.Math.IntN.{+ℤ_idl}
use Rattle.it_space.proofs.EveryLemmas.{every_of, all_of, every-append, every_front, every_back, every-map, every_mapped, every-same}
use Rattle.it_polymatroid.proofs.Generate.{elementals_generate}
use Rattle.it_elemental.specs.Rows.{elemental_row}
use Rattle.it_elemental.proofs.RowLemmas.{value-row}
use Rattle.it_elemental.specs.Generators.{Generator, of_elemental, of_constraint, generator_list}
use Rattle.it_check.specs.Sums.{sum_within}
use Rattle.it_check.specs.Verdicts.{valid_unless, violates, violation, of_value, of_generators, of_target, met_verdict, no_verdict}
use Rattle.it_check.specs.declared.verdicts.Verdict.{Verdict}
use Rattle.it_check.specs.declared.verdicts.Verdict.TheVariants.{Valid, BrokenElemental, UnmetConstraint, NotViolated}
use Rattle.it_check.proofs.SumLemmas.{sum_told, sum_fits}
use Rattle.it_check.proofs.FindingLemmas.{first_part, last_part, clean_or, none_both, least_by_test, not_below}

-- ---- one generator

meets_unless_violated : (k : Kind) (x : ℤ) → violates k x ≡ false → Meets k x
meets_unless_violated Inequality x e = least_by_test x e
meets_unless_violated Equation x e = by_test (int_eq x (pos 0)) (Decides-int_eq x (pos 0)) e
  where
    by_test : (b : Bool) → Decides b (x ≡ pos 0) → not b ≡ false → x ≡ pos 0
    by_test true d e = d.0 refl
    by_test false d e = absurd (cc)

meets_not_violated : (k : Kind) (x : ℤ) → Meets k x → violates k x ≡ false
meets_not_violated Inequality x h = not_below x h
meets_not_violated Equation x h = ap not ((Decides-int_eq x (pos 0)).1 h)

-- the value fits, and meets its kind
abbrev pub IsRight : (ℕ → ℤ) → Generator → Type 0
IsRight p g = ValueFits g.row p × Meets g.kind (value g.row p)

violation_not_valid : (count i : ℕ) (x : ℤ) → violation count i x ≡ Valid → ⊥
violation_not_valid count i x e = by_test (ltb i count) e
  where
    by_test : (b : Bool) → cond b (BrokenElemental i x) (UnmetConstraint i x) ≡ Valid → ⊥
    by_test true e = cc
    by_test false e = cc

value_clean : (count i : ℕ) (k : Kind) (o : Option ℤ) → of_value count i k o ≡ Some Valid → ⊥
value_clean count i k None q = cc
value_clean count i k (Some x) q = by_test (violates k x) q
  where
    by_test : (b : Bool) → cond b (Some (violation count i x)) None ≡ Some Valid → ⊥
    by_test true q = violation_not_valid count i x (inside_is_valid (violation count i x) q)
      where
        inside_is_valid : (v : Verdict) → Some v ≡ Some Valid → v ≡ Valid
        inside_is_valid v q = cc
    by_test false q = cc

generator_none : (count i : ℕ) (g : Generator) (p : ℕ → ℤ) → of_value count i g.kind (sum_within (pos 0) g.row p) ≡ None → IsRight p g
generator_none count i g p q = by_option (sum_within (pos 0) g.row p) (λ x e. sum_told (pos 0) g.row p x e) q
  where
    by_option : (o : Option ℤ) → ((x : ℤ) → o ≡ Some x → ValueFits g.row p × (x ≡ pos 0 +ℤ value g.row p)) → of_value count i g.kind o ≡ None → IsRight p g
    by_option None f q = absurd (cc)
    by_option (Some x) f q = (
      (f x refl).0,
      subst (Meets g.kind) ((f x refl).1 ∙ +ℤ_idl (value g.row p))
          (meets_unless_violated g.kind x (test_is_false (violates g.kind x) q)),
    )
      where
        test_is_false : (b : Bool) → cond b (Some (violation count i x)) None ≡ None → b ≡ false
        test_is_false true q = absurd (cc)
        test_is_false false q = refl

none_generator : (count i : ℕ) (g : Generator) (p : ℕ → ℤ) → IsRight p g → of_value count i g.kind (sum_within (pos 0) g.row p) ≡ None
none_generator count i g p h = ap (of_value count i g.kind) (sum_fits (pos 0) g.row p h.0 ∙ ap Some (+ℤ_idl (value g.row p)))
    ∙ ap (λ b. cond b (Some (violation count i (value g.row p))) None) (meets_not_violated g.kind (value g.row p) h.1)

-- ---- all generators

generators_clean : (count i : ℕ) (gs : List Generator) (p : ℕ → ℤ) → of_generators count i gs p ≡ Some Valid → ⊥
unfolding of_generators
generators_clean count i [] p q = cc
generators_clean count i (g ∷ gs) p q = clean_or (of_value count i g.kind (sum_within (pos 0) g.row p)) (of_generators count (i + 1) gs p)
    (value_clean count i g.kind (sum_within (pos 0) g.row p)) (generators_clean count (i + 1) gs p) q

generators_none : (count i : ℕ) (gs : List Generator) (p : ℕ → ℤ) → of_generators count i gs p ≡ None → Every (IsRight p) gs
unfolding of_generators
generators_none count i [] p q = tt
generators_none count i (g ∷ gs) p q = let both = none_both (of_value count i g.kind (sum_within (pos 0) g.row p))
    (of_generators count (i + 1) gs p) q in (generator_none count i g p both.0, generators_none count (i + 1) gs p both.1)

none_generators : (count i : ℕ) (gs : List Generator) (p : ℕ → ℤ) → Every (IsRight p) gs → of_generators count i gs p ≡ None
unfolding of_generators
none_generators count i [] p h = refl
none_generators count i (g ∷ gs) p h = ap (λ o. option_or o (of_generators count (i + 1) gs p)) (none_generator count i g p h.0)
    ∙ none_generators count (i + 1) gs p h.1

-- ---- the target

target_clean : (place : ℕ) (o : Option ℤ) → of_target place o ≡ Some Valid → ⊥
target_clean place None q = cc
target_clean place (Some x) q = by_test (lt_z x (pos 0)) q
  where
    by_test : (b : Bool) → cond b None (Some (NotViolated x)) ≡ Some Valid → ⊥
    by_test true q = cc
    by_test false q = cc

at_most_minus_one : (x : ℤ) → lt_z x (pos 0) ≡ true → x ≤ℤ neg_ℤ (pos 1)
at_most_minus_one x e = grind (arith, ints)

is_below : (x : ℤ) → x ≤ℤ neg_ℤ (pos 1) → lt_z x (pos 0) ≡ true
is_below x e = grind (arith, ints)

target_none : (place : ℕ) (row : Terms) (p : ℕ → ℤ) → of_target place (sum_within (pos 0) row p) ≡ None → ValueFits row p × (value row p ≤ℤ neg_ℤ (pos 1))
target_none place row p q = by_option (sum_within (pos 0) row p) (λ x e. sum_told (pos 0) row p x e) q
  where
    by_option : (o : Option ℤ) → ((x : ℤ) → o ≡ Some x → ValueFits row p × (x ≡ pos 0 +ℤ value row p)) → of_target place o ≡ None
        → ValueFits row p × (value row p ≤ℤ neg_ℤ (pos 1))
    by_option None f q = absurd (cc)
    by_option (Some x) f q = (
      (f x refl).0,
      subst (λ (y : ℤ). y ≤ℤ neg_ℤ (pos 1)) ((f x refl).1 ∙ +ℤ_idl (value row p))
          (at_most_minus_one x (test_is_true (lt_z x (pos 0)) q)),
    )
      where
        test_is_true : (b : Bool) → cond b None (Some (NotViolated x)) ≡ None → b ≡ true
        test_is_true true q = refl
        test_is_true false q = absurd (cc)

none_target : (place : ℕ) (row : Terms) (p : ℕ → ℤ) → ValueFits row p → value row p ≤ℤ neg_ℤ (pos 1) → of_target place (sum_within (pos 0) row p) ≡ None
none_target place row p f h = ap (of_target place) (sum_fits (pos 0) row p f ∙ ap Some (+ℤ_idl (value row p)))
    ∙ ap (λ b. cond b None (Some (NotViolated (value row p)))) (is_below (value row p) h)

-- ---- all of it

module _ (count : ℕ) (gs : List Generator) (target : Terms) (p : ℕ → ℤ) where
  pub valid_no : no_verdict count gs target p ≡ Valid → Every (IsRight p) gs × (ValueFits target p × (value target p ≤ℤ neg_ℤ (pos 1)))
  unfolding no_verdict
  valid_no e =
      let one = first_part (of_generators count 0 gs p) (of_target (length gs) (sum_within (pos 0) target p)) (generators_clean count 0 gs p) e in
      let two = last_part (of_target (length gs) (sum_within (pos 0) target p)) (target_clean (length gs) (sum_within (pos 0) target p)) one.1 in
      (generators_none count 0 gs p one.0, target_none (length gs) target p two)

  pub no_valid : Every (IsRight p) gs → ValueFits target p → value target p ≤ℤ neg_ℤ (pos 1) → no_verdict count gs target p ≡ Valid
  unfolding no_verdict
  no_valid h f v =
      ap (λ o. valid_unless (option_or o (of_target (length gs) (sum_within (pos 0) target p)))) (none_generators count 0 gs p h)
      ∙ ap valid_unless (none_target (length gs) target p f v)

-- without a target
module _ (count : ℕ) (gs : List Generator) (p : ℕ → ℤ) where
  pub valid_met : met_verdict count gs p ≡ Valid → Every (IsRight p) gs
  unfolding met_verdict
  valid_met e = generators_none count 0 gs p (last_part (of_generators count 0 gs p) (generators_clean count 0 gs p) e)

  pub met_valid : Every (IsRight p) gs → met_verdict count gs p ≡ Valid
  unfolding met_verdict
  met_valid h = ap valid_unless (none_generators count 0 gs p h)

-- ---- what is met: the axioms and the constraints

pub met_listed : (n : ℕ) (cs : List Constraint) (p : ℕ → ℤ) → p 0 ≡ pos 0 → IsPolymatroid n p → AreMet p cs
    → Every (λ g. Meets g.kind (value g.row p)) (generator_list n cs)
unfolding generator_list
met_listed n cs p z h m = every-append (λ (g : Generator). Meets g.kind (value g.row p)) (map (of_elemental n) (elementals n)) (map of_constraint cs)
    (every-map (λ (g : Generator). Meets g.kind (value g.row p)) (of_elemental n) (elementals n)
    (every-same (λ e. pos 0 ≤ℤ elemental_value n p e) (λ e. pos 0 ≤ℤ value (elemental_row n e) p) (elementals n)
    (λ e k. subst (λ (x : ℤ). pos 0 ≤ℤ x) (sym (value-row n e p z)) k)
    (every_of (λ e. pos 0 ≤ℤ elemental_value n p e) (elementals n) ((elementals_generate n p z).1 h))))
    (every-map (λ (g : Generator). Meets g.kind (value g.row p)) of_constraint cs (every_of (IsMet p) cs m))

pub listed_met : (n : ℕ) (cs : List Constraint) (p : ℕ → ℤ) → p 0 ≡ pos 0 → Every (λ g. Meets g.kind (value g.row p)) (generator_list n cs)
    → IsPolymatroid n p × AreMet p cs
unfolding generator_list
listed_met n cs p z h = (
  (elementals_generate n p z).0 (all_of (λ e. pos 0 ≤ℤ elemental_value n p e) (elementals n)
      (every-same (λ e. pos 0 ≤ℤ value (elemental_row n e) p) (λ e. pos 0 ≤ℤ elemental_value n p e) (elementals n)
      (λ e k. subst (λ (x : ℤ). pos 0 ≤ℤ x) (value-row n e p z) k)
      (every_mapped (λ (g : Generator). Meets g.kind (value g.row p)) (of_elemental n) (elementals n)
      (every_front (λ (g : Generator). Meets g.kind (value g.row p)) (map (of_elemental n) (elementals n)) (map of_constraint cs) h)))),
  all_of (IsMet p) cs (every_mapped (λ (g : Generator). Meets g.kind (value g.row p)) of_constraint cs
      (every_back (λ (g : Generator). Meets g.kind (value g.row p)) (map (of_elemental n) (elementals n)) (map of_constraint cs) h)),
)
