-- A certificate of a row from a problem's constraints alone says of which of the question's lines the row is the sum.
use Rattle.std.proofs.Common.{◌≡◌, ◌≢◌, ℕ, ◌+◌, ◌-◌, ◌<◌, ◌≤◌, ℤ, pos, ◌+ℤ◌, ◌*ℤ◌, inl, inr, List, [], ◌∷◌, length, map, All, refl, sym, ap, ap₂, ◌∙◌, subst, arith}
use Rattle.std.proofs.lemmas.List.{length-map}
use Rattle.std.proofs.lemmas.List.Elements.{All-cons, All-head, All-nil, All-tail}
use Rattle.it_problems.specs.declared.problems.Constraint.{Constraint}
use Rattle.it_problems.specs.declared.problems.Kind.TheVariants.{Inequality}
use Rattle.it_problems.specs.declared.problems.Origin.{Origin}
use Rattle.it_problems.specs.declared.problems.Origin.TheVariants.{Rate}
use Rattle.it_space.specs.Answers.{CertificateView}
use Rattle.it_problems.specs.Problems.{IsProblem, ProblemView}
use Rattle.it_space.specs.Rows.{IsOver, Terms, value}
use Rattle.it_space.specs.Spaces.{size_of}
use Rattle.it_space.proofs.EveryLemmas.{all_of}
use Rattle.it_polymatroid.specs.Certificates.{IsAllowed, combination}
use Rattle.it_polymatroid.specs.Elementals.{elementals}
use Rattle.it_polymatroid.proofs.Certified.{adds_up_everywhere}
use Rattle.it_polymatroid.proofs.Forms.{value_linear}
use Rattle.it_elemental.specs.Generators.{Generator, forms_of, generator_at, generator_list, generators, is_equation, of_constraint}
use Rattle.it_elemental.proofs.GeneratorLemmas.{after_is_constraint, length-listed, rows_of_space}
use Rattle.it_check.proofs.Truth.{valid_yes_is}
use Rattle.it_origins.specs.Origins.{IsOfConstraint, IsOrigin}
use Rattle.it_question.specs.Questions.{BodyView}
use Rattle.it_canon.specs.QuestionDemands.{IsProblemOf, question_demands, question_origins}
use Rattle.it_rates.specs.Asked.{under_all_lines}
use Rattle.it_print.specs.Lines.{origins_of}
use Rattle.it_terms.specs.Proofs.{constraints_of}
use Rattle.it_terms.specs.RowOrigins.{ComesFrom, IsSumOf, row_comment}
use Rattle.it_terms.specs.Sums.{by_constraint, constraint_value}
use Rattle.it_terms.proofs.SaidLemmas.{constraint_at}
use Rattle.it_terms.proofs.SameProofs.{placed_origins, stated_are_same, sum_of_same}

module _ (n : ℕ) (cs : List Constraint) where
  -- a constraint is a generator behind the elemental inequalities
  generator_is : (i : ℕ) → length (elementals n) ≤ i → i < length (generator_list n cs)
      → (i - length (elementals n) < length cs) × (generator_at (generator_list n cs) i ≡ generator_at (map of_constraint cs) (i - length (elementals n)))
  generator_is i least there =
      let none : Constraint = record { row = []; kind = Inequality; origin = Rate 0 } in
      let counted = length-listed n cs in
      let within : i - length (elementals n) < length cs = omega (arith, least, there, counted) in
      (within, after_is_constraint n cs i none least there ∙ sym (constraint_at cs (i - length (elementals n)) none within))

  -- the same weights, of constraints by their own numbers, give the same sum
  same_sum : (p : ℕ → ℤ) (ws : List (ℕ × ℤ)) → All (IsAllowed (forms_of (generator_list n cs))) ws → All (IsOfConstraint n) ws
      → combination ws (λ i. (forms_of (generator_list n cs)).form i p) ≡ combination (map (by_constraint (length (elementals n))) ws) (constraint_value cs p)
  same_sum p [] a o = refl
  same_sum p (w ∷ ws) a o =
      let here = generator_is w.0 (All-head (IsOfConstraint n) w ws o).0 (All-head (IsAllowed (forms_of (generator_list n cs))) w ws a).0 in
      ap₂ (λ (x y : ℤ). w.1 *ℤ x +ℤ y) (ap (λ (g : Generator). value g.row p) here.1)
      (same_sum p ws (All-tail (IsAllowed (forms_of (generator_list n cs))) w ws a) (All-tail (IsOfConstraint n) w ws o))

  -- the same weights, of constraints by their own numbers, are allowed
  same_allowed : (ws : List (ℕ × ℤ)) → All (IsAllowed (forms_of (generator_list n cs))) ws → All (IsOfConstraint n) ws
      → All (IsAllowed (forms_of (map of_constraint cs))) (map (by_constraint (length (elementals n))) ws)
  same_allowed [] a o = All-nil (IsAllowed (forms_of (map of_constraint cs)))
  same_allowed (w ∷ ws) a o =
      let allowed = All-head (IsAllowed (forms_of (generator_list n cs))) w ws a in
      let here = generator_is w.0 (All-head (IsOfConstraint n) w ws o).0 allowed.0 in
      All-cons (IsAllowed (forms_of (map of_constraint cs))) (by_constraint (length (elementals n)) w) (map (by_constraint (length (elementals n))) ws) (
        subst (λ (m : ℕ). w.0 - length (elementals n) < m) (sym (length-map cs of_constraint)) here.0,
        λ e. allowed.1
            (ap (λ (g : Generator). is_equation g.kind) here.1 ∙ e),
      )
      (same_allowed ws (All-tail (IsAllowed (forms_of (generator_list n cs))) w ws a) (All-tail (IsOfConstraint n) w ws o))

  none_is_zero : (ws : List (ℕ × ℤ)) → All (IsOfConstraint n) ws → All (λ w. w.1 ≢ pos 0) (map (by_constraint (length (elementals n))) ws)
  none_is_zero [] o = All-nil (λ w. w.1 ≢ pos 0)
  none_is_zero (w ∷ ws) o =
      All-cons (λ w. w.1 ≢ pos 0) (by_constraint (length (elementals n)) w) (map (by_constraint (length (elementals n))) ws)
      (All-head (IsOfConstraint n) w ws o).1
      (none_is_zero ws (All-tail (IsOfConstraint n) w ws o))

-- a row is the sum of constraints that its certificate weighs
sum_of_certificate : (q : ProblemView) (row : Terms) (w : CertificateView) → IsProblem q → IsOver (size_of q.space) row → IsOrigin q row w
    → IsSumOf (forms_of (map of_constraint q.constraints)) (value row) (map (by_constraint (length (elementals q.space.variables))) w.weights)
sum_of_certificate q row w k over o =
    let n = q.space.variables in
    let size = size_of q.space in
    let gs = generators q in
    let c = ((valid_yes_is q row w k over).0 o.valid).0 in
    let rows : All (λ g. IsOver size g.row) gs = all_of (λ g. IsOver size g.row) gs (rows_of_space n size q.constraints (omega arith) k.rows) in record {
      scale = w.scale;
      scale_from_one = c.scale_from_one;
      allowed = same_allowed n q.constraints w.weights c.allowed o.own;
      nonzero = none_is_zero n q.constraints w.weights o.own;
      adds_up = λ p z.
          adds_up_everywhere (size + 1) (forms_of gs) (value row) w (λ i l. value_linear size (generator_at gs i).row
          (rows i (record { kind = Inequality; row = [] }) l)) (value_linear size row over) c p z
          ∙ same_sum n q.constraints p w.weights c.allowed o.own;
    }

-- a row with such a certificate comes from the question's lines
pub comes_from : (q : BodyView) (p : ProblemView) (row : Terms) (w : CertificateView) (ws : List (ℕ × ℤ))
    → IsProblemOf (under_all_lines q) p → IsOver (size_of p.space) row → IsOrigin p row w
    → ws ≡ map (by_constraint (length (elementals p.space.variables))) w.weights → ComesFrom q row ws
comes_from q p row w ws posed over o e =
    inr (subst (λ (us : List (ℕ × ℤ)). IsSumOf (constraints_of (question_demands (under_all_lines q))) (value row) us) (sym e)
    (sum_of_same (forms_of (map of_constraint p.constraints)) (constraints_of (question_demands (under_all_lines q))) (value row)
    (map (by_constraint (length (elementals p.space.variables))) w.weights)
    (stated_are_same p.space (question_demands (under_all_lines q)) p.constraints posed.constraints.stated) (sum_of_certificate p row w posed.limits over o)))

-- without weights nothing is said of where a row comes from
pub not_told : (q : BodyView) (row : Terms) (ws : List (ℕ × ℤ)) → ws ≡ [] → ComesFrom q row ws
not_told q row ws e = inl e

-- the names of a problem's constraints are those of the question's lines
pub named_lines : (q : BodyView) (p : ProblemView) (weights : List (ℕ × ℤ)) (lines text : List ℕ) → IsProblemOf (under_all_lines q) p
    → text ≡ row_comment (origins_of p.constraints) weights lines
    → text ≡ row_comment (question_origins (under_all_lines q)) weights lines
named_lines q p weights lines text posed e = e ∙ ap (λ (os : List Origin). row_comment os weights lines)
    (placed_origins (question_origins (under_all_lines q)) p.constraints posed.constraints.placed)
