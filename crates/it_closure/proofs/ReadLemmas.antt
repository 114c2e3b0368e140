-- A constraint is read as a dependence exactly where it is one.
use Rattle.std.proofs.Common.{◌≡◌, ◌≢◌, ℕ, zero, suc, ◌^◌, ◌<◌, ◌≤◌, ℤ, pos, negsuc, [], ◌∷◌, ◌++◌, Option, Some, None, Bool, true, false, ◌&&◌, not, cond, nat_eq, nat_lt, refl, sym, ap, ap₂, subst, ◌∙◌, arith, eq-eqb, ne_eqb}
use Rattle.std.proofs.lemmas.List.Elements.{All-head, All-tail}
use Rattle.std.proofs.lemmas.Bool.{lt-ltb, ltb-true, false≢true}
use Rattle.it_space.specs.declared.spaces.Space.{Space}
use Rattle.it_problems.specs.declared.problems.Kind.{Kind}
use Rattle.it_problems.specs.declared.problems.Kind.TheVariants.{Inequality, Equation}
use Rattle.it_problems.specs.declared.problems.Constraint.{Constraint}
use Rattle.it_space.specs.Rows.{Terms, IsOver}
use Rattle.it_space.proofs.BoolLemmas.{both_true}
use Rattle.it_space.proofs.OptionLemmas.{some_same, none_is_not_some}
use Rattle.it_closure.specs.declared.dependences.Dependence.{Dependence}
use Rattle.it_closure.specs.declared.reading.SetPair.{SetPair}
use Rattle.it_closure.specs.Closures.{is_inside}
use Rattle.it_closure.specs.DependencesViews.{IsDependenceOf}
use Rattle.it_elemental.specs.Generators.{is_equation}
use Rattle.it_elemental.specs.Rows.{set_term}
use Rattle.it_closure.specs.Reading.{dependence_row, is_given, SaysDependence, is_one, is_minus_one, ends_of, are_ends, with_number, read_one}
use Rattle.it_closure.specs.ReadLaws.{ReadsExactly}
use Rattle.it_closure.proofs.Insides.{inside_le}
use Rattle.it_closure.proofs.Meets.{inside_from_test, test-true}

one_is : (a : ℤ) → is_one a ≡ true → a ≡ pos 1
one_is (pos zero) e = absurd (false≢true e)
one_is (pos (suc zero)) e = refl
one_is (pos (suc (suc a))) e = absurd (false≢true e)
one_is (negsuc a) e = absurd (false≢true e)

minus_one_is : (a : ℤ) → is_minus_one a ≡ true → a ≡ negsuc 0
minus_one_is (pos a) e = absurd (false≢true e)
minus_one_is (negsuc zero) e = refl
minus_one_is (negsuc (suc a)) e = absurd (false≢true e)

term_is : (k : ℕ) (a : ℤ) → 1 ≤ k → (k, a) ∷ [] ≡ set_term k a
term_is zero a h = absurd (omega arith)
term_is (suc k) a h = refl

-- the ends are those of the row
pub row_found : (terms : Terms) (size : ℕ) (e : SetPair) → IsOver size terms → ends_of terms ≡ Some e → terms ≡ dependence_row e.negated e.from e.to
row_found [] size e u q = absurd (none_is_not_some e q)
row_found (t ∷ []) size e u q = by_first_test (is_one t.1) refl
  where
    place_some : 1 ≤ t.0
    place_some = (All-head (λ t. (1 ≤ t.0) × (t.0 ≤ size)) t [] u).0

    by_second_test : (c : Bool) → is_minus_one t.1 ≡ c → is_one t.1 ≡ false → t ∷ [] ≡ dependence_row e.negated e.from e.to
    by_second_test true g h = subst (λ (f : SetPair). t ∷ [] ≡ dependence_row f.negated f.from f.to)
        (some_same (record { from = 0; to = t.0; negated = true }) e (sym
        (ap₂ (λ x y. cond x (Some (record { from = 0; to = t.0; negated = false }))
        (cond y (Some (record { from = 0; to = t.0; negated = true })) None)) h g) ∙ q))
        (ap (λ a. (t.0, a) ∷ []) (minus_one_is t.1 g) ∙ term_is t.0 (negsuc 0) place_some)
    by_second_test false g h = absurd (none_is_not_some e (sym
        (ap₂ (λ x y. cond x (Some (record { from = 0; to = t.0; negated = false }))
        (cond y (Some (record { from = 0; to = t.0; negated = true })) None)) h g) ∙ q))

    by_first_test : (b : Bool) → is_one t.1 ≡ b → t ∷ [] ≡ dependence_row e.negated e.from e.to
    by_first_test true g = subst (λ (f : SetPair). t ∷ [] ≡ dependence_row f.negated f.from f.to)
        (some_same (record { from = 0; to = t.0; negated = false }) e (sym
        (ap (λ x. cond x (Some (record { from = 0; to = t.0; negated = false }))
        (cond (is_minus_one t.1) (Some (record { from = 0; to = t.0; negated = true })) None)) g) ∙ q))
        (ap (λ a. (t.0, a) ∷ []) (one_is t.1 g) ∙ term_is t.0 (pos 1) place_some)
    by_first_test false g = by_second_test (is_minus_one t.1) refl g
row_found (t ∷ v ∷ []) size e u q = by_first_test (is_minus_one t.1 && is_one v.1) refl
  where
    place_some : 1 ≤ t.0
    place_some = (All-head (λ t. (1 ≤ t.0) × (t.0 ≤ size)) t (v ∷ []) u).0

    some_v : 1 ≤ v.0
    some_v = (All-head (λ t. (1 ≤ t.0) × (t.0 ≤ size)) v [] (All-tail (λ t. (1 ≤ t.0) × (t.0 ≤ size)) t (v ∷ []) u)).0

    rows : (a b : ℤ) → t.1 ≡ a → v.1 ≡ b → t ∷ v ∷ [] ≡ set_term t.0 a ++ set_term v.0 b
    rows a b g h = ap₂ (λ x y. (t.0, x) ∷ (v.0, y) ∷ []) g h ∙ ap₂ (λ xs ys. xs ++ ys) (term_is t.0 a place_some) (term_is v.0 b some_v)

    by_second_test : (c : Bool) → (is_one t.1 && is_minus_one v.1) ≡ c → (is_minus_one t.1 && is_one v.1) ≡ false
        → t ∷ v ∷ [] ≡ dependence_row e.negated e.from e.to
    by_second_test true g h = subst (λ (f : SetPair). t ∷ v ∷ [] ≡ dependence_row f.negated f.from f.to)
        (some_same (record { from = t.0; to = v.0; negated = true }) e (sym
        (ap₂ (λ x y. cond x (Some (record { from = t.0; to = v.0; negated = false }))
        (cond y (Some (record { from = t.0; to = v.0; negated = true })) None)) h g) ∙ q))
        (rows (pos 1) (negsuc 0) (one_is t.1 (both_true (is_one t.1) (is_minus_one v.1) g).0)
        (minus_one_is v.1 (both_true (is_one t.1) (is_minus_one v.1) g).1))
    by_second_test false g h = absurd (none_is_not_some e (sym
        (ap₂ (λ x y. cond x (Some (record { from = t.0; to = v.0; negated = false }))
        (cond y (Some (record { from = t.0; to = v.0; negated = true })) None)) h g) ∙ q))

    by_first_test : (b : Bool) → (is_minus_one t.1 && is_one v.1) ≡ b → t ∷ v ∷ [] ≡ dependence_row e.negated e.from e.to
    by_first_test true g = subst (λ (f : SetPair). t ∷ v ∷ [] ≡ dependence_row f.negated f.from f.to)
        (some_same (record { from = t.0; to = v.0; negated = false }) e (sym
        (ap (λ x. cond x (Some (record { from = t.0; to = v.0; negated = false }))
        (cond (is_one t.1 && is_minus_one v.1) (Some (record { from = t.0; to = v.0; negated = true })) None)) g) ∙ q))
        (rows (negsuc 0) (pos 1) (minus_one_is t.1 (both_true (is_minus_one t.1) (is_one v.1) g).0)
        (one_is v.1 (both_true (is_minus_one t.1) (is_one v.1) g).1))
    by_first_test false g = by_second_test (is_one t.1 && is_minus_one v.1) refl g
row_found (t ∷ v ∷ w ∷ ts) size e u q = absurd (none_is_not_some e q)

-- and back
pub ends_back : (b : Bool) (f t : ℕ) → 0 < t → ends_of (dependence_row b f t) ≡ Some (record { from = f; to = t; negated = b })
ends_back b f zero h = absurd (omega arith)
ends_back true zero (suc t) h = refl
ends_back false zero (suc t) h = refl
ends_back true (suc f) (suc t) h = refl
ends_back false (suc f) (suc t) h = refl

-- the test of the sets
ends_good : (s : Space) (e : SetPair) (g : ℕ) → are_ends s.variables e ≡ true
    → IsDependenceOf s (record { from = e.from; to = e.to; generator = g; negated = e.negated })
ends_good s e g t =
    let p = both_true (nat_lt e.to (2 ^ s.variables)) (is_inside e.from e.to && not (nat_eq e.from e.to)) t in
    let q = both_true (is_inside e.from e.to) (not (nat_eq e.from e.to)) p.1 in
    record {
      inside = inside_from_test e.from e.to q.0;
      more = λ same. false≢true (ap not (sym (eq-eqb e.from e.to same)) ∙ q.1);
      below = ltb-true e.to (2 ^ s.variables) p.0;
    }

good_ends : (s : Space) (d : Dependence) → IsDependenceOf s d → are_ends s.variables (record { from = d.from; to = d.to; negated = d.negated }) ≡ true
good_ends s d i = ap₂ (λ x y. x && y) (lt-ltb d.to (2 ^ s.variables) i.below)
    (ap₂ (λ x y. x && not y) (test-true d.from d.to i.inside) (ne_eqb d.from d.to i.more))

equation_is : (k : Kind) → is_equation k ≡ true → k ≡ Equation
equation_is Inequality e = absurd (false≢true e)
equation_is Equation e = refl

says_dependence : (s : Space) (size g : ℕ) (c : Constraint) (d : Dependence) → IsOver size c.row → read_one s.variables g c ≡ Some d
    → SaysDependence s c d × (d.generator ≡ g)
says_dependence s size g c d u q = by_test (is_given c.origin && is_equation c.kind) refl
  where
    by_option : (o : Option SetPair) → ends_of c.row ≡ o → (is_given c.origin && is_equation c.kind) ≡ true
        → with_number s.variables g o ≡ Some d → SaysDependence s c d × (d.generator ≡ g)
    by_option None e t r = absurd (none_is_not_some d r)
    by_option (Some e) f t r = inner (are_ends s.variables e) refl
      where
        inner : (b : Bool) → are_ends s.variables e ≡ b → SaysDependence s c d × (d.generator ≡ g)
        inner true v = subst (λ (x : Dependence). SaysDependence s c x × (x.generator ≡ g))
            (some_same (record { from = e.from; to = e.to; generator = g; negated = e.negated }) d
            (sym (ap (λ b. cond b (Some (record { from = e.from; to = e.to; generator = g; negated = e.negated })) None) v) ∙ r)) (
              record {
                given = (both_true (is_given c.origin) (is_equation c.kind) t).0;
                equation = equation_is c.kind (both_true (is_given c.origin) (is_equation c.kind) t).1;
                row = row_found c.row size e u f;
                sets = ends_good s e g v;
              },
              refl,
            )
        inner false v = absurd (none_is_not_some d (sym (ap
            (λ b. cond b (Some (record { from = e.from; to = e.to; generator = g; negated = e.negated })) None) v) ∙ r))

    by_test : (b : Bool) → (is_given c.origin && is_equation c.kind) ≡ b → SaysDependence s c d × (d.generator ≡ g)
    by_test true t = by_option (ends_of c.row) refl t (sym (ap (λ b. cond b (with_number s.variables g (ends_of c.row)) None) t) ∙ q)
    by_test false t = absurd (none_is_not_some d (sym (ap (λ b. cond b (with_number s.variables g (ends_of c.row)) None) t) ∙ q))

pub reads_exactly : ReadsExactly
reads_exactly s size g c d u = (
  says_dependence s size g c d u,
  λ i.
      ap₂ (λ x y. cond (x && is_equation y) (with_number s.variables g (ends_of c.row)) None) i.0.given i.0.equation
      ∙ ap (with_number s.variables g) (ap ends_of i.0.row ∙ ends_back d.negated d.from d.to (dependence_some i.0.sets))
      ∙ ap (λ b. cond b (Some (record { from = d.from; to = d.to; generator = g; negated = d.negated })) None) (good_ends s d i.0.sets)
      ∙ ap (λ k. Some (record { from = d.from; to = d.to; generator = k; negated = d.negated })) (sym i.1),
)
  where
    dependence_some : IsDependenceOf s d → 0 < d.to
    dependence_some j = by_size d.to d.from (inside_le d.from d.to j.inside) j.more
      where
        by_size : (t f : ℕ) → f ≤ t → f ≢ t → 0 < t
        by_size zero f h n = absurd (n (omega arith))
        by_size (suc t) f h n = omega arith
