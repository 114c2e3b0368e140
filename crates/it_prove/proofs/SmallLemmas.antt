-- If no coefficient is large the start fits, so a run doesn't end before step 0.
use Rattle.std.proofs.Common.{◌≡◌, inl, inr, ℕ, zero, suc, ◌+◌, ◌*◌, ◌^◌, ◌<◌, ◌≤◌, ℤ, pos, neg_ℤ, ◌+ℤ◌, unsigned_abs, List, [], ◌∷◌, length, get_or, Bool, true, false, cond, eqb, ltb, refl, sym, ap, ap₂, subst, ◌∙◌, arith, min, Option, Some, None}
use Rattle.std.proofs.lemmas.Int.{ints}
use Rattle.it_number.specs.Limit.{IsWithin}
use Rattle.it_number.proofs.Ring.{ring}
use Rattle.it_number.proofs.Ring as S
use Rattle.it_rational.specs.Rational.{Rational, integer, plus, times, minus}
use Rattle.it_rational.proofs.RationalLaws.{ring_ℚ}
use Rattle.it_rational.proofs.Field.{field_ℚ}
use Rattle.it_fraction.specs.Fits.{IsNarrow}
use Rattle.it_space.specs.declared.answers.Cause.TheVariants as causes
use Rattle.it_space.specs.declared.answers.Cause.TheVariants.{Scale}
use Rattle.it_space.specs.Bounds.{IsSmall, most_mass}
use Rattle.it_problems.specs.Problems.{ProblemView, IsProblem}
use Rattle.it_space.specs.Rows.{Terms, coefficient}
use Rattle.it_space.specs.Spaces.{most_coordinates}
use Rattle.std.specs.List.{AllByRecursion as Every}
use Rattle.it_space.proofs.EveryLemmas.{all_of, every-same, every-map}
use Rattle.it_space.proofs.SpaceLemmas.{few_coordinates}
use Rattle.it_space.proofs.TermLemmas.{coefficient-small}
use Rattle.it_elemental.specs.Generators.{generators}
use Rattle.it_elemental.proofs.GeneratorLemmas.{every_or}
use Rattle.it_closure.specs.Collapse.{CollapseFits}
use Rattle.it_closure.specs.Coordinates.{RiseTo}
use Rattle.it_closure.specs.Reading.{dependences_of}
use Rattle.it_tableau.specs.TableauViews.{start_of}
use Rattle.it_tableau.specs.Operations.{rationals}
use Rattle.it_tableau.specs.FieldOperations.{sum_to}
use Rattle.it_tableau.specs.Fits.{StartFits}
use Rattle.it_tableau.specs.Problems.{feasibility_problem}
use Rattle.it_tableau.specs.SimplexTables as simplex
use Rattle.it_run.specs.Choice.{IsDone, IsStuck, next}
use Rattle.it_run.specs.Readings.{weights, point}
use Rattle.it_run.specs.Solving.{StepFits, RunsTo}
use Rattle.it_tableau.specs.SimplexTables.{SimplexTable, start_row, sign}
use Rattle.it_run.specs.Runs.{RunEndView, EndsAs}
use Rattle.it_run.specs.Runs.RunEndView.{Weights, Point, Pivots, Width}
use Rattle.it_run.proofs.RowValues.{whole_plus}
use Rattle.it_prove.specs.Closed.{collapsed_row, collapsed_generator, closed_places, closed_generators, closed_target, CollapsesFit}
use Rattle.it_columns.specs.Columns.{columns}
use Rattle.it_prove.proofs.ProofLemmas.{quick_cause}
use Rattle.it_prove.specs.ProofViews.{Undecided, Follows, RunEnds, EndsByRun, AreSmall, NeverAtStart}
use Rattle.it_prove.proofs.ClosedRows.{coords_rise}
use Rattle.it_prove.proofs.LiftLemmas.{dependences_sound}
use Rattle.it_prove.proofs.SmallRows.{abs_add, abs_neg, collapsed_small, columns_small, collapse_fits, generators_small}
use Rattle.it_columns.proofs.Wholes.{whole_parts, whole_minus}

-- ---- whole numbers up to a bound

abbrev IsBelow : ℕ → Rational → Type 0
IsBelow b x = (z : ℤ) × (x ≡ integer z) × (unsigned_abs z ≤ b)

below_null : (b : ℕ) → IsBelow b (integer (pos 0))
below_null b = (pos 0, refl, omega arith)

below_one : (b : ℕ) → 1 ≤ b → IsBelow b (integer (pos 1))
below_one b h = (pos 1, refl, h)

below_add : (a b : ℕ) (x y : Rational) → IsBelow a x → IsBelow b y → IsBelow (a + b) (plus x y)
below_add a b x y h k = (h.0 +ℤ k.0, ap₂ plus h.1 k.1 ∙ sym (whole_plus h.0 k.0), abs_add h.0 k.0 a b h.2 k.2)

below_sign : (b : ℕ) (s : Bool) (x : Rational) → IsBelow b x → IsBelow b (times (cond s (integer (pos 1)) (minus (integer (pos 1)))) x)
below_sign b true x h = (h.0, ring_ℚ.unit-mul x ∙ h.1, h.2)
below_sign b false x h = (
  neg_ℤ h.0,
  ring ring_ℚ (integer (pos 1) ∷ x ∷ []) (S.times (S.minus (S.v 0)) (S.v 1)) (S.minus (S.times (S.v 0) (S.v 1))) refl
      ∙ ap minus (ring_ℚ.unit-mul x ∙ h.1) ∙ sym (whole_minus h.0),
  abs_neg h.0 b h.2,
)

below_is_narrow : (b : ℕ) (x : Rational) → b < 2 ^ 127 → IsBelow b x → IsNarrow x
below_is_narrow b x l h = subst IsNarrow (sym h.1) (
  subst IsWithin (sym (whole_parts h.0).0) (omega (arith, h.2)),
  subst (λ (d : ℕ). IsWithin (pos d)) (sym (whole_parts h.0).1) (omega (arith, ints)),
)

pile : ℕ → ℕ
pile zero = 0
pile (suc k) = most_mass + pile k

pile_is : (k : ℕ) → pile k ≡ k * most_mass
unfolding pile
pile_is zero = refl
pile_is (suc k) = omega (arith, pile_is k)

sum_below : (k : ℕ) (f : ℕ → Rational) → ((i : ℕ) → IsBelow most_mass (f i)) → IsBelow (pile k) (sum_to ring_ℚ k f)
unfolding pile
sum_below zero f h = below_null 0
sum_below (suc k) f h = below_add most_mass (pile k) (f k) (sum_to ring_ℚ k f) (h k) (sum_below k f h)

-- ---- the start

small_at : (row : Terms) (c : ℕ) → IsSmall row → IsBelow most_mass (integer (coefficient row c))
small_at row c s = (coefficient row c, refl, omega (arith, coefficient-small row c, s))

rise_length : (from to : ℕ) (xs : List ℕ) → RiseTo from to xs → from + length xs ≤ to
rise_length from to [] r = omega (arith, r)
rise_length from to (x ∷ xs) r = omega (arith, r.0, rise_length (x + 1) to xs r.1)

module _ (coords : List ℕ) (cols : List Terms) (t : Terms) (few : length coords ≤ most_coordinates) (cs : Every IsSmall cols) (ts : IsSmall t) where
  entry_below : (k j : ℕ) → IsBelow most_mass (start_row rationals (length coords) (length cols) (feasibility_problem coords cols t) k j)
  entry_below k j = by_test (ltb j (length cols)) (eqb j (length cols + length coords)) (eqb j (length cols + k))
    where
      column : IsBelow most_mass (integer (coefficient (get_or cols j []) (get_or coords k 0)))
      column = small_at (get_or cols j []) (get_or coords k 0) (every_or IsSmall cols j [] cs (omega arith))

      target_is_small : IsBelow most_mass (integer (coefficient t (get_or coords k 0)))
      target_is_small = small_at t (get_or coords k 0) ts

      by_test : (a b c : Bool) → IsBelow most_mass (cond a
          (times (sign rationals (feasibility_problem coords cols t) k) (integer (coefficient (get_or cols j []) (get_or coords k 0))))
          (cond b (times (sign rationals (feasibility_problem coords cols t) k) (integer (coefficient t (get_or coords k 0))))
          (cond c (integer (pos 1)) (integer (pos 0)))))
      by_test true b c = below_sign most_mass (field_ℚ.order.is_least (integer (coefficient t (get_or coords k 0))))
          (integer (coefficient (get_or cols j []) (get_or coords k 0))) column
      by_test false true c = below_sign most_mass (field_ℚ.order.is_least (integer (coefficient t (get_or coords k 0))))
          (integer (coefficient t (get_or coords k 0))) target_is_small
      by_test false false true = below_one most_mass (omega arith)
      by_test false false false = below_null most_mass

  start_fits : StartFits (length coords) (length cols) (feasibility_problem coords cols t)
  start_fits k j h l = below_is_narrow (pile k) (sum_to ring_ℚ k (λ i. start_row rationals (length coords) (length cols)
      (feasibility_problem coords cols t) i j)) (omega (arith, pile_is k, h, few))
      (sum_below k (λ i. start_row rationals (length coords) (length cols) (feasibility_problem coords cols t) i j) (λ i. entry_below i j))

-- ---- the run

same_step : {W P : Type 0} (j : ℕ) → (let x : RunEndView W P = Width zero in x) ≡ Width j → zero ≡ j
same_step j q = cc

never_zero : {S W P : Type 0} (IsDone IsStuck Fits : S → Type 0) (next : S → S) (weights : S → W) (point : S → P) (left k : ℕ) (s : S)
    → EndsAs IsDone IsStuck Fits next weights point left k s (Width zero) → ⊥
never_zero D T F next ws pt zero k s (inl a) = absurd (cc)
never_zero D T F next ws pt zero k s (inr (inl a)) = absurd (cc)
never_zero D T F next ws pt zero k s (inr (inr a)) = absurd (cc)
never_zero D T F next ws pt (suc left) k s (inl a) = absurd (cc)
never_zero D T F next ws pt (suc left) k s (inr (inl a)) = absurd (cc)
never_zero D T F next ws pt (suc left) k s (inr (inr (d, t, inl a))) = let q : zero
    ≡ min (suc k) 4294967295 = same_step (min (suc k) 4294967295) a.1 in absurd (omega arith)
never_zero D T F next ws pt (suc left) k s (inr (inr (d, t, inr a))) = never_zero D T F next ws pt left (suc k) (next s) a.1

never_run : (m n : ℕ) (p : simplex.FeasibilityProblem Rational) (budget : Option ℕ) (t : SimplexTable Rational)
    (e : RunEndView (List (ℕ × Rational)) (List Rational)) → e ≡ Width zero → RunsTo m n p budget t e → ⊥
never_run m n p (Some steps) t e z r =
    never_zero (IsDone rationals m n) (IsStuck rationals m n) (StepFits m n) (next rationals m n) (weights rationals m n)
    (point rationals m n p) steps zero t (subst (RunsTo m n p (Some steps) t) z r)
never_run m n p None t e z r =
    never_zero (IsDone rationals m n) (IsStuck rationals m n) (StepFits m n) (next rationals m n) (weights rationals m n) (point rationals m n p) r.0 zero t
    (subst (RunsTo m n p (Some r.0) t) z r.1)

run_never_at_start : (q : ProblemView) (target : Terms) (budget : Option ℕ) → IsProblem q → AreSmall q target
    → EndsByRun q target budget (Undecided (causes.Width 0)) → ⊥
run_never_at_start q target budget k s e = by_cases e.run (zero_end e.end e.follows)
  where
    all_small : Every (λ g. IsSmall g.row) (generators q)
    all_small = generators_small q.space.variables q.constraints s.constraints

    width_not_yes : {w : Rattle.it_space.specs.Answers.CertificateView} → Undecided (causes.Width 0) ≡ Rattle.it_prove.specs.ProofViews.Yes w → ⊥
    width_not_yes e = cc

    width_not_no : {v : List ℤ} → Undecided (causes.Width 0) ≡ Rattle.it_prove.specs.ProofViews.No v → ⊥
    width_not_no e = cc

    width_not_scale : Undecided (causes.Width 0) ≡ Undecided Scale → ⊥
    width_not_scale e = cc

    width_not_pivots : {j : ℕ} → Undecided (causes.Width 0) ≡ Undecided (causes.Pivots j) → ⊥
    width_not_pivots e = cc

    same_step : {j : ℕ} → Undecided (causes.Width 0) ≡ Undecided (causes.Width j) → 0 ≡ j
    same_step e = cc

    zero_end : (x : RunEndView (List (ℕ × Rational)) (List Rational)) → Follows q target x (Undecided (causes.Width 0)) → x ≡ Width 0
    zero_end (Weights ws) (inl a) = absurd (width_not_yes a.3)
    zero_end (Weights ws) (inr a) = absurd (width_not_scale a.1)
    zero_end (Point qs) (inl a) = absurd (width_not_no a.1)
    zero_end (Point qs) (inr a) = absurd (width_not_scale a.1)
    zero_end (Pivots j) a = absurd (width_not_pivots a)
    zero_end (Width j) a = ap Width (sym (same_step a))

    all_collapses_fit : CollapsesFit q target
    all_collapses_fit = record {
      each = all_of (λ g. CollapseFits q.space.variables (dependences_of q) g.row) (generators q)
          (every-same (λ g. IsSmall g.row) (λ g. CollapseFits q.space.variables (dependences_of q) g.row) (generators q)
          (λ g b. collapse_fits q.space.variables (dependences_of q) g.row b) all_small);
      own = collapse_fits q.space.variables (dependences_of q) target s.own;
    }

    few_places : length (closed_places q) ≤ most_coordinates
    few_places =
        omega (
          arith,
          few_coordinates q.space k.space,
          rise_length 1 (2 ^ q.space.variables + q.space.rates) (closed_places q)
              (coords_rise q.space.variables q.space.rates (dependences_of q) (dependences_sound q k)),
        )

    start : StartFits (length (closed_places q)) (length (columns (closed_generators q)))
        (feasibility_problem (closed_places q) (columns (closed_generators q)) (closed_target q target))
    start = start_fits (closed_places q) (columns (closed_generators q)) (closed_target q target) few_places
        (columns_small (closed_generators q) (every-map (λ g. IsSmall g.row) (collapsed_generator q.space.variables (dependences_of q)) (generators q)
        (every-same (λ g. IsSmall g.row) (λ g. IsSmall (collapsed_row q.space.variables (dependences_of q) g.row)) (generators q)
        (λ g b. collapsed_small q.space.variables (dependences_of q) g.row b) all_small)))
        (collapsed_small q.space.variables (dependences_of q) target s.own)

    by_cases : RunEnds q target budget e.end → e.end ≡ Width 0 → ⊥
    by_cases (inl a) z = a.0 all_collapses_fit
    by_cases (inr (f, inl a)) z = a.0 start
    by_cases (inr (f, inr a)) z = never_run (length (closed_places q)) (length (columns (closed_generators q)))
        (feasibility_problem (closed_places q) (columns (closed_generators q)) (closed_target q target)) budget
        (start_of (closed_places q) (columns (closed_generators q)) (closed_target q target)) e.end z a.1

pub never_at_start : NeverAtStart
never_at_start q target effort k s (inl e) = run_never_at_start q target effort.pivots k s e
never_at_start q target effort k s (inr e) = let is : causes.Width 0 ≡ causes.Pivots 0 = quick_cause effort.runs q target (causes.Width 0) e in absurd (cc)
