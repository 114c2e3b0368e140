-- Weights over closed sets that sum to the collapsed target meet the requirements of a lift, and its result certifies the target.
use Rattle.std.proofs.Common.{◌≡◌, ◌≢◌, ◌⊎◌, inl, inr, ℕ, suc, ◌+◌, ◌^◌, ◌<◌, ◌≤◌, ℤ, pos, ◌+ℤ◌, ◌-ℤ◌, ◌*ℤ◌, ◌≤ℤ◌, List, [], ◌∷◌, ◌++◌, length, Bool, true, false, cond, nat_eq, refl, sym, ap, ap₂, subst, ◌∙◌, arith, All, map}
use Rattle.std.proofs.lemmas.Int.{ints}
use Rattle.std.proofs.lemmas.Bool.{eqb-true, false≢true}
use Rattle.it_number.specs.Limit.{IsWithin}
use Rattle.it_rational.specs.Rational.{Rational}
use Rattle.it_problems.specs.declared.problems.Kind.{Kind}
use Rattle.it_problems.specs.declared.problems.Kind.TheVariants.{Inequality, Equation}
use Rattle.it_problems.specs.Problems.{ProblemView, IsProblem}
use Rattle.it_space.specs.Answers.{CertificateView}
use Rattle.it_space.specs.Rows.{Terms, Ascends, coefficient, value, IsOver, one_at, single_term}
use Rattle.it_space.specs.Spaces.{size_of}
use Rattle.it_space.proofs.CanonicalRows.{head_is, other_is, rows_by_coefficients}
use Rattle.it_polymatroid.specs.Certificates.{IsAllowed, combination}
use Rattle.std.specs.List.{AllByRecursion as Every, flat_map}
use Rattle.std.proofs.Math.IntN.{+ℤ_idr, *ℤ-zero}
use Rattle.it_space.proofs.EveryLemmas.{every_of, all_of, every-same}
use Rattle.it_polymatroid.proofs.Forms.{one_at-zero}
use Rattle.it_elemental.specs.Generators.{Generator, generators, generator_at, generators_of}
use Rattle.it_elemental.proofs.GeneratorLemmas.{rows_of_space, every_or}
use Rattle.it_closure.specs.declared.dependences.Dependence.{Dependence}
use Rattle.it_closure.specs.Collapse.{AreDependences, spread_out}
use Rattle.it_closure.specs.DependencesViews.{DependencesView}
use Rattle.it_closure.specs.Reading.{dependences_of}
use Rattle.it_closure.proofs.ClosingLoop.{of_space}
use Rattle.it_lift.specs.LiftedCertificates.{WeightsAscend, AreDependencesOf, IsCertificateOverClosed, IsLiftOf, FitsLift}
use Rattle.it_lift.specs.Lifts.{lifted_weights}
use Rattle.it_lift.proofs.ReadOf.{reading_gives_dependences}
use Rattle.it_lift.proofs.Whole.{canonical_lift, canonical_weights_ascend}
use Rattle.it_tableau.specs.Operations.{rationals}
use Rattle.it_tableau.specs.Problems.{feasibility_problem}
use Rattle.it_run.specs.Readings.{AreWeights, SumsUp}
use Rattle.it_check.specs.Meaning.{CertifiesRow}
use Rattle.it_check.specs.Verdicts.{column}
use Rattle.it_prove.specs.Closed.{collapsed_generator, collapsed_row, closed_places, closed_generators, closed_target}
use Rattle.it_closure.specs.Sizes.{column_count}
use Rattle.it_columns.specs.Columns.{columns, columns_by, numbers_from}
use Rattle.it_prove.specs.Weights.{certificate_of}
use Rattle.it_prove.proofs.GeneratorWeights.{weight_by, weights_from}
use Rattle.it_columns.specs.Scaling.{NumbersFit, scale_of}
use Rattle.it_prove.specs.Weights.{numbers_of, scaled_by}
use Rattle.it_prove.specs.ProofViews.{IsLifted}
use Rattle.it_columns.proofs.ColumnLemmas.{In}
use Rattle.it_prove.proofs.ClosedRows.{listed_or_absent, collapsed_at, collapsed_generator_at, collapsed_none}
use Rattle.it_prove.proofs.GroupLemmas.{weights_allowed}
use Rattle.it_prove.proofs.WeightLemmas.{adds_up, scale_least, scaled_positive, scaled_canonical}
use Rattle.it_space.proofs.TermLemmas.{ascends-single_term}

-- ---- the weights go by the kinds alone

pub weights_same : (n : ℕ) (ds : List Dependence) (gs : List Generator) (i j : ℕ) (f : ℕ → ℤ)
    → weights_from i j (map (collapsed_generator n ds) gs) f ≡ weights_from i j gs f
unfolding numbers_from
weights_same n ds [] i j f = refl
weights_same n ds (g ∷ gs) i j f = ap (λ xs. single_term i (weight_by g.kind f j) ++ xs) (weights_same n ds gs (i + 1) (j + column_count g.kind) f)

columns_length : (n : ℕ) (ds : List Dependence) (gs : List Generator) → length (columns (map (collapsed_generator n ds) gs)) ≡ length (columns gs)
unfolding columns
columns_length n ds [] = refl
columns_length n ds (g ∷ gs) = by_kind g.kind (columns_length n ds gs)
  where
    by_kind : (k : Kind) → length (flat_map (λ (g : Generator). columns_by g.kind g.row) (map (collapsed_generator n ds) gs))
        ≡ length (flat_map (λ (g : Generator). columns_by g.kind g.row) gs)
        → length (columns_by k (collapsed_row n ds g.row) ++ flat_map (λ (g : Generator). columns_by g.kind g.row)
        (map (collapsed_generator n ds) gs)) ≡ length (columns_by k g.row ++ flat_map (λ (g : Generator). columns_by g.kind g.row) gs)
    by_kind Inequality e = ap suc e
    by_kind Equation e = ap (λ m. suc (suc m)) e

pub ordered_so : (n : ℕ) (ds : List Dependence) (gs : List Generator) (ws : List (ℕ × Rational))
    → AreWeights rationals (length (columns (map (collapsed_generator n ds) gs))) 0 ws → AreWeights rationals (length (columns gs)) 0 ws
ordered_so n ds gs ws a = subst (λ (m : ℕ). AreWeights rationals m 0 ws) (columns_length n ds gs) a

-- ---- they ascend, none is 0, and all are within the limit

pub coefficients_within : (from : ℕ) (ts : Terms) → Ascends from ts → (c : ℕ) → IsWithin (coefficient ts c)
coefficients_within from [] a c = omega arith
coefficients_within from (t ∷ ts) a c = by_test (nat_eq t.0 c) refl (coefficients_within (t.0 + 1) ts a.3 c)
  where
    by_test : (b : Bool) → nat_eq t.0 c ≡ b → IsWithin (coefficient ts c) → IsWithin (coefficient (t ∷ ts) c)
    by_test true e w = subst (λ (k : ℕ). IsWithin (coefficient (t ∷ ts) k)) (eqb-true t.0 c e) (subst IsWithin (sym (head_is from t ts a)) a.2)
    by_test false e w = subst IsWithin (sym (other_is t ts c (λ q. false≢true (sym e ∙ Rattle.std.proofs.Common.eq-eqb t.0 c q)))) w

weight_within : (k : Kind) (f : ℕ → ℤ) (j : ℕ) → ((n : ℕ) → pos 0 ≤ℤ f n) → ((n : ℕ) → IsWithin (f n)) → IsWithin (weight_by k f j)
weight_within Inequality f j p w = w j
weight_within Equation f j p w = difference_within (f j) (f (j + 1)) (p j) (p (j + 1)) (w j) (w (j + 1))
  where
    difference_within : (x y : ℤ) → pos 0 ≤ℤ x → pos 0 ≤ℤ y → IsWithin x → IsWithin y → IsWithin (x -ℤ y)
    difference_within x y h k u v = omega (arith, ints, h, k, u, v)

weights_ascend : (gs : List Generator) (i j : ℕ) (f : ℕ → ℤ) → ((n : ℕ) → pos 0 ≤ℤ f n) → ((n : ℕ) → IsWithin (f n)) → Ascends i (weights_from i j gs f)
unfolding numbers_from
weights_ascend [] i j f p w = tt
weights_ascend (g ∷ gs) i j f p w = ascends-single_term i i (weight_by g.kind f j) (weights_from (i + 1) (j + column_count g.kind) gs f)
    (omega arith) (weight_within g.kind f j p w) (weights_ascend gs (i + 1) (j + column_count g.kind) f p w)

each_within : (from : ℕ) (ts : Terms) → Ascends from ts → Every (λ (t : ℕ × ℤ). IsWithin t.1) ts
each_within from [] a = tt
each_within from (t ∷ ts) a = (a.2, each_within (t.0 + 1) ts a.3)

-- ---- sums of weights

weighted_value : (gs : List Generator) (ws : List (ℕ × ℤ)) (p : ℕ → ℤ) (f : ℕ → ℤ) → ((i : ℕ) → value (generator_at gs i).row p ≡ f i)
    → combination ws (λ i. value (generator_at gs i).row p) ≡ value ws f
weighted_value gs [] p f e = refl
weighted_value gs (w ∷ ws) p f e = ap₂ (λ x y. w.1 *ℤ x +ℤ y) (e w.0) (weighted_value gs ws p f e)

value_null : (ws : Terms) (f : ℕ → ℤ) → ((i : ℕ) → f i ≡ pos 0) → value ws f ≡ pos 0
value_null [] f e = refl
value_null (w ∷ ws) f e = ap₂ (λ x y. w.1 *ℤ x +ℤ y) (e w.0) (value_null ws f e) ∙ zero_value w.1
  where
    zero_value : (x : ℤ) → x *ℤ pos 0 +ℤ pos 0 ≡ pos 0
    zero_value x = omega (arith, ints)

pub below_size : (size m : ℕ) (row : Terms) → size < m → IsOver size row → Every (λ (t : ℕ × ℤ). t.0 < m) row
below_size size m row h u = every-same (λ (t : ℕ × ℤ). (1 ≤ t.0) × (t.0 ≤ size)) (λ (t : ℕ × ℤ). t.0 < m) row (λ t b. omega (arith, b.1))
    (every_of (λ (t : ℕ × ℤ). (1 ≤ t.0) × (t.0 ≤ size)) row u)

-- ---- the input of a lift

-- the dependences of a problem
abbrev pub read_of : ProblemView → DependencesView
read_of q = record { space = q.space; list = dependences_of q }

pub are_dependences_of : (q : ProblemView) → IsProblem q → AreDependencesOf q (read_of q)
are_dependences_of q k = reading_gives_dependences q (read_of q) k refl refl

pub dependences_sound : (q : ProblemView) → IsProblem q → AreDependences q.space.variables (dependences_of q)
dependences_sound q k = of_space (read_of q) (are_dependences_of q k).shape

pub read_is : (q : ProblemView) (d : DependencesView) → d.space ≡ q.space → d.list ≡ dependences_of q → read_of q ≡ d
read_is q d s l = ap₂ (λ x y. record { space = x; list = y }) (sym s) (sym l)

module _ (q : ProblemView) (target : Terms) (k : IsProblem q) (u : IsOver (size_of q.space) target) (ws : List (ℕ × Rational))
    (a : SumsUp rationals (length (closed_places q)) (length (columns (closed_generators q)))
    (feasibility_problem (closed_places q) (columns (closed_generators q)) (closed_target q target)) ws) where
  sizes : size_of q.space < 2 ^ q.space.variables + q.space.rates
  sizes = omega (arith, Rattle.std.proofs.lemmas.Nat.pow_pos q.space.variables)

  row_up_to : (i : ℕ) → Every (λ (t : ℕ × ℤ). t.0 < 2 ^ q.space.variables + q.space.rates) (generator_at (generators q) i).row
  row_up_to i = below_size (size_of q.space) (2 ^ q.space.variables + q.space.rates) (generator_at (generators q) i).row sizes
      (every_or (λ (g : Generator). IsOver (size_of q.space) g.row) (generators q) i (record { kind = Inequality; row = [] })
      (rows_of_space q.space.variables (size_of q.space) q.constraints (omega arith) k.rows) (λ j d h. absurd (omega arith)))

  -- at each coordinate, a place of the run or not
  closed_sum : (c : ℕ) → In (closed_places q) c ⊎ Every (λ x. x ≢ c) (closed_places q)
      → pos (scale_of (numbers_of ws)) *ℤ coefficient (closed_target q target) c
      ≡ value (weights_from 0 0 (closed_generators q) (coefficient (scaled_by (scale_of (numbers_of ws)) ws)))
      (column (closed_generators q) c)
  closed_sum c (inl i) = adds_up (closed_generators q) (closed_places q) (closed_target q target) ws a c i
  closed_sum c (inr e) =
      ap (λ x. pos (scale_of (numbers_of ws)) *ℤ x) (collapsed_none q.space.variables q.space.rates (dependences_of q)
      (dependences_sound q k) target c (below_size (size_of q.space) (2 ^ q.space.variables + q.space.rates) target sizes u) e)
      ∙ *ℤ-zero (pos (scale_of (numbers_of ws)))
      ∙ sym (value_null (weights_from 0 0 (closed_generators q) (coefficient (scaled_by (scale_of (numbers_of ws)) ws))) (column (closed_generators q) c)
      (λ i. ap (λ (g : Generator). coefficient g.row c) (collapsed_generator_at q.space.variables (dependences_of q) (generators q) i)
      ∙ collapsed_none q.space.variables q.space.rates (dependences_of q) (dependences_sound q k) (generator_at (generators q) i).row c (row_up_to i) e))

  spread_sum : (c : ℕ) → 0 < c → c < size_of q.space + 1
      → pos (scale_of (numbers_of ws)) *ℤ value target (spread_out q.space.variables (dependences_of q) (one_at c))
      ≡ combination (weights_from 0 0 (generators q) (coefficient (scaled_by (scale_of (numbers_of ws)) ws)))
      (λ i. value (generator_at (generators q) i).row (spread_out q.space.variables (dependences_of q) (one_at c)))
  spread_sum c h l =
      ap (λ x. pos (scale_of (numbers_of ws)) *ℤ x) (collapsed_at q.space.variables (dependences_of q) target c h)
      ∙ closed_sum c (listed_or_absent (closed_places q) c)
      ∙ ap (λ ts. value ts (column (closed_generators q) c)) (weights_same q.space.variables (dependences_of q) (generators q) 0 0
      (coefficient (scaled_by (scale_of (numbers_of ws)) ws)))
      ∙ sym (weighted_value (generators q) (weights_from 0 0 (generators q) (coefficient (scaled_by (scale_of (numbers_of ws)) ws)))
      (spread_out q.space.variables (dependences_of q) (one_at c)) (column (closed_generators q) c)
      (λ i. collapsed_at q.space.variables (dependences_of q) (generator_at (generators q) i).row c h
      ∙ sym (ap (λ (g : Generator). coefficient g.row c) (collapsed_generator_at q.space.variables (dependences_of q)
      (generators q) i))))

  module _ (fit : NumbersFit (numbers_of ws)) where
    pub weights_canonical : Ascends 0 (certificate_of (generators q) ws).weights
    weights_canonical = weights_ascend (generators q) 0 0 (coefficient (scaled_by (scale_of (numbers_of ws)) ws))
        (scaled_positive (closed_generators q) (closed_places q) (closed_target q target) ws a)
        (coefficients_within 0 (scaled_by (scale_of (numbers_of ws)) ws) (scaled_canonical (closed_generators q) (closed_places q)
        (closed_target q target) ws a fit.numbers))

    closed_certificate : IsCertificateOverClosed q (read_of q) target (certificate_of (generators q) ws)
    closed_certificate = record {
      order = canonical_weights_ascend 0 (certificate_of (generators q) ws).weights weights_canonical;
      allowed = all_of (IsAllowed (generators_of q)) (certificate_of (generators q) ws).weights
          (weights_allowed (generators q) (generators q) 0 0 (coefficient (scaled_by (scale_of (numbers_of ws)) ws))
          (scaled_positive (closed_generators q) (closed_places q) (closed_target q target) ws a) (omega arith)
          (λ i l. ap (generator_at (generators q)) (zero_plus i)));
      within = all_of (λ (t : ℕ × ℤ). IsWithin t.1) (certificate_of (generators q) ws).weights
          (each_within 0 (certificate_of (generators q) ws).weights weights_canonical);
      sums = spread_sum;
    }
      where
        zero_plus : (i : ℕ) → 0 + i ≡ i
        zero_plus i = omega arith

    -- as the code has it
    pub lift_given : (d : DependencesView) (w : CertificateView) → read_of q ≡ d → w ≡ certificate_of (generators q) ws → IsCertificateOverClosed q d target w
    lift_given d w e s = subst (λ (x : DependencesView). IsCertificateOverClosed q x target w) e
        (subst (IsCertificateOverClosed q (read_of q) target) (sym s) closed_certificate)

    -- the result certifies the target
    pub lift_certifies : (d : DependencesView) (w new : CertificateView) → w ≡ certificate_of (generators q) ws → IsLiftOf q d target w new
        → CertifiesRow q target new
    lift_certifies d w new s i = record {
      scale_from_one = subst (λ (x : ℤ). pos 1 ≤ℤ x) (sym (i.scale ∙ ap (λ (x : CertificateView). x.scale) s))
          (scale_least (closed_generators q) (closed_places q) (closed_target q target) ws a);
      allowed = i.allowed;
      adds_up = λ c h l. i.adds_up (one_at c) (one_at-zero c h);
    }

    -- so does each certificate with the coefficients of the lift
    pub lifted_certifies : (w : CertificateView) → IsLifted q target ws w → CertifiesRow q target w
    lifted_certifies w l = lift_certifies (read_of q) (certificate_of (generators q) ws) w refl
        (canonical_lift q (read_of q) target (certificate_of (generators q) ws) k
        (are_dependences_of q k) u closed_certificate w l.scale l.canonical l.weights)

-- ---- the result is the lift

none_before : (from : ℕ) (ts : Terms) (c : ℕ) → WeightsAscend from ts → c < from → coefficient ts c ≡ pos 0
none_before from [] c a h = refl
none_before from (t ∷ ts) c a h = other_is t ts c (λ e. omega (arith, a.0, e)) ∙ none_before (t.0 + 1) ts c a.1 (omega (arith, a.0))

ascends_of : (from : ℕ) (ts : Terms) → WeightsAscend from ts → Every (λ (t : ℕ × ℤ). t.1 ≢ pos 0) ts → ((c : ℕ) → IsWithin (coefficient ts c)) → Ascends from ts
ascends_of from [] a e w = tt
ascends_of from (t ∷ ts) a e w = (
  a.0,
  e.0,
  subst IsWithin own_coefficient (w t.0),
  ascends_of (t.0 + 1) ts a.1 e.1 (λ c. rest c (nat_eq t.0 c) refl),
)
  where
    no_later_coefficient : coefficient ts t.0 ≡ pos 0
    no_later_coefficient = none_before (t.0 + 1) ts t.0 a.1 (omega arith)

    own_coefficient : coefficient (t ∷ ts) t.0 ≡ t.1
    own_coefficient = ap₂ (λ b y. cond b t.1 (pos 0) +ℤ y) (Rattle.std.proofs.Common.eq-eqb t.0 t.0 refl) no_later_coefficient ∙ +ℤ_idr t.1

    rest : (c : ℕ) (b : Bool) → nat_eq t.0 c ≡ b → IsWithin (coefficient ts c)
    rest c true q = subst (λ (m : ℕ). IsWithin (coefficient ts m)) (eqb-true t.0 c q) (subst IsWithin (sym no_later_coefficient) (omega arith))
    rest c false q = subst IsWithin (other_is t ts c (λ r. false≢true (sym q ∙ Rattle.std.proofs.Common.eq-eqb t.0 c r))) (w c)

module _ (q : ProblemView) (target : Terms) (k : IsProblem q) (u : IsOver (size_of q.space) target) (ws : List (ℕ × Rational))
    (a : SumsUp rationals (length (closed_places q)) (length (columns (closed_generators q)))
    (feasibility_problem (closed_places q) (columns (closed_generators q)) (closed_target q target)) ws)
    (fit : NumbersFit (numbers_of ws)) where
  is_lifted : (w new : CertificateView) → w ≡ certificate_of (generators q) ws → IsLiftOf q (read_of q) target w new
      → (dependences_of q ≡ [] → new ≡ w) → (dependences_of q ≢ [] → All (λ (p : ℕ × ℤ). p.1 ≢ pos 0) new.weights)
      → (dependences_of q ≢ [] → FitsLift q (read_of q) target w) → IsLifted q target ws new
  is_lifted w new s i same some fits = record {
    scale = i.scale ∙ ap (λ (x : CertificateView). x.scale) s;
    canonical = for_each (dependences_of q) refl;
    weights = λ j. i.weights j ∙ ap (λ (x : CertificateView). coefficient
        (lifted_weights q.space.variables (dependences_of q) (value target) (generators_of q) x) j) s;
  }
    where
      list_not_empty : (d : Dependence) (ds : List Dependence) → (d ∷ ds) ≡ [] → ⊥
      list_not_empty d ds e = cc

      for_each : (ds : List Dependence) → dependences_of q ≡ ds → Ascends 0 new.weights
      for_each [] e = subst (Ascends 0) (sym (ap (λ (x : CertificateView). x.weights) (same e ∙ s))) (weights_canonical q target k u ws a fit)
      for_each (d ∷ ds) e =
          let more : dependences_of q ≢ [] = λ f. list_not_empty d ds (sym e ∙ f) in
          ascends_of 0 new.weights i.order (every_of (λ (p : ℕ × ℤ). p.1 ≢ pos 0) new.weights (some more))
          (λ c. subst IsWithin (sym (i.weights c)) ((fits more).weights c))

  pub lift_is : (d : DependencesView) (w new : CertificateView) → read_of q ≡ d → w ≡ certificate_of (generators q) ws
      → IsLiftOf q d target w new → (d.list ≡ [] → new ≡ w) → (d.list ≢ [] → All (λ (p : ℕ × ℤ). p.1 ≢ pos 0) new.weights)
      → (d.list ≢ [] → FitsLift q d target w) → IsLifted q target ws new
  lift_is d w new e s = subst (λ (x : DependencesView). IsLiftOf q x target w new → (x.list ≡ [] → new ≡ w)
      → (x.list ≢ [] → All (λ (p : ℕ × ℤ). p.1 ≢ pos 0) new.weights) → (x.list ≢ [] → FitsLift q x target w) → IsLifted q target ws new) e
      (is_lifted w new s)

-- there is only one lift
pub one_lift : (q : ProblemView) (target : Terms) (ws : List (ℕ × Rational)) (v w : CertificateView) → IsLifted q target ws v → IsLifted q target ws w → v ≡ w
one_lift q target ws v w a b = ap₂ (λ x y. record { scale = x; weights = y }) (a.scale ∙ sym b.scale)
    (rows_by_coefficients 0 v.weights w.weights a.canonical b.canonical (λ i. a.weights i ∙ sym (b.weights i)))

pub are_dependences_of_so : (q : ProblemView) (d : DependencesView) → IsProblem q → read_of q ≡ d → AreDependencesOf q d
are_dependences_of_so q d k e = subst (AreDependencesOf q) e (are_dependences_of q k)
