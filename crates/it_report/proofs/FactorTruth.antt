-- What a valid line says of factors is true.
use Rattle.std.proofs.Common.{◌≡◌, ℕ, ◌+◌, ◌-◌, ◌≤◌, ℤ, pos, neg_ℤ, ◌-ℤ◌, ◌*ℤ◌, ◌+ℤ◌, ◌≤ℤ◌, int_lt, List, length, Bool, true, false, Option, Some, None, option_and_then, if◌then◌else◌, Ok, ◌↔◌, refl, sym, ap, ap₂, subst, ◌∙◌, arith, rules}
use Rattle.std.specs.Ordering.{int_eq}
use Rattle.std.proofs.lemmas.Bool.{true≢false}
use Rattle.std.proofs.lemmas.Int.{ints}
use Rattle.it_space.specs.declared.spaces.Space.{Space}
use Rattle.it_space.specs.Answers.{CertificateView}
use Rattle.it_problems.specs.Problems.{ProblemView, AreMet}
use Rattle.it_space.specs.Rows.{Terms, IsOver, one_at, point_of, value}
use Rattle.it_space.specs.Spaces.{size_of}
use Rattle.it_space.proofs.OptionLemmas.{some_same}
use Rattle.it_space.proofs.TermLemmas.{value-one_at}
use Rattle.it_polymatroid.specs.Certificates.{Form}
use Rattle.it_polymatroid.specs.Elementals.{elementals}
use Rattle.it_polymatroid.specs.Polymatroid.{IsPolymatroid}
use Rattle.it_polymatroid.proofs.Forms.{dot_from_one, linear-scale, linear-sub, value_linear}
use Rattle.it_elemental.specs.Generators.{generators}
use Rattle.it_syntax.specs.Meaning.{RelationView}
use Rattle.it_syntax.specs.declared.types.Sign.{Sign}
use Rattle.it_syntax.specs.declared.types.Sign.TheVariants.{AtLeast, AtMost, Equal}
use Rattle.it_question.specs.declared.sizes.FileLimits.{FileLimits}
use Rattle.it_question.specs.Limits.{IsQuestion}
use Rattle.it_question.specs.Questions.{BodyView, VerbView, Prove, Eliminate, Contain}
use Rattle.it_question.specs.ProblemLines.{names_under, problem_names, problem_lines}
use Rattle.it_syntax.specs.NamesViews.{NamesView}
use Rattle.it_question.proofs.NumberLemmas.{QuestionHasSmallNumbers}
use Rattle.it_demand.specs.Canonical.{IsRowOf}
use Rattle.it_demand.specs.QuestionSpaces.{space_of}
use Rattle.it_canon.specs.TrueLines.{AreTrueAt, AreTrueTogether, variable_count}
use Rattle.it_canon.specs.QuestionDemands.{IsProblemOf, problem_of, terms_in}
use Rattle.it_canon.specs.Sides.{left_form, right_form}
use Rattle.it_canon.proofs.ExistenceLemmas.{question_poses, side_rows}
use Rattle.it_canon.proofs.ProblemLemmas.{question_met}
use Rattle.it_sharing.specs.Sharings.{IsSharing, SharingView, made_question}
use Rattle.it_sharing.specs.Truth.{HoldsWherePerfect}
use Rattle.it_sharing.proofs.Perfection.{made_question_is_of_perfect_sharing}
use Rattle.it_sharing.proofs.WithinLemmas.{sharing_is_within}
use Rattle.it_check.specs.Meaning.{CertifiesRow, RefutesRow}
use Rattle.it_check.specs.Sums.{sum_within}
use Rattle.it_check.specs.Verdicts.{no_verdict}
use Rattle.it_check.specs.declared.verdicts.Verdict.{Verdict}
use Rattle.it_check.specs.declared.verdicts.Verdict.TheVariants.{Valid}
use Rattle.it_check.proofs.SumLemmas.{sum_told}
use Rattle.it_check.proofs.Truth.{valid_yes_is, valid_no_is, yes_is_true}
use Rattle.it_ratio.specs.BestViews.{BestView, Least, Never, Unbounded, Undecided}
use Rattle.it_ratio.specs.Truth.{HoldsFor, IsTrueBest, asked_by, at_least}
use Rattle.it_ratio.proofs.Orders.{all_smaller, no_smaller, none_at_zero}
use Rattle.it_ratio.proofs.SameFactors.{true_of_same}
use Rattle.it_certificate.specs.FactorShapes.{HasBestShape, HasFactorShape}
use Rattle.it_certificate.specs.Reports.{Factored, ReadsReport}
use Rattle.it_certificate.specs.Sources.{IsSourceAt, IsSourceOf, Sharing, Source, asked}
use Rattle.it_certificate.proofs.OneLemmas.{one_reading}
use Rattle.it_certificate.proofs.SourceNumbers.{source_limits, source_numbers}
use Rattle.it_report.specs.declared.factors.FactorVerdict.{FactorVerdict}
use Rattle.it_report.specs.declared.factors.FactorVerdict.TheVariants.{BelowOne, Checked, NotZero}
use Rattle.it_ratio.specs.Sides.{row_unless, side_row, unformed}
use Rattle.it_ratio.proofs.SideSteps.{number_at, row_over}
use Rattle.it_report.specs.FactorVerdicts.{best_verdict, first_wrong, from_one, tight_verdict, with_row, zero_verdict}
use Rattle.it_report.specs.Judging.{IsReadingVerdict, factor_line_verdict, factor_verdict_of, weighed_by}
use Rattle.it_report.specs.LineVerdicts.{Weighed}
use Rattle.it_report.specs.Meaning.{ValidFactorIsTrue, ValidFactorIsTrueOfSharing}
use Rattle.it_report.specs.RowVerdicts.{is_valid, proof_verdict}
use Rattle.it_report.proofs.OneLemmas.{same_read}
use Rattle.it_report.proofs.ReadingLemmas.{best_is}
use Rattle.it_report.proofs.VerdictLemmas.{only_valid}

-- ---- verdicts with nothing wrong

abbrev valid : FactorVerdict
valid = Checked Valid

both_valid : (v : Verdict) (other : FactorVerdict) → first_wrong v other ≡ valid → (v ≡ Valid) × (other ≡ valid)
both_valid v other e = by_valid (is_valid v) refl e
  where
    by_valid : (b : Bool) → is_valid v ≡ b → (if b then other else Checked v) ≡ valid → (v ≡ Valid) × (other ≡ valid)
    by_valid true is e = (only_valid v is, e)
    by_valid false is e = let v_is : v ≡ Valid = cc in absurd (true≢false (sym (ap is_valid v_is) ∙ is))

checked_valid : (v : Verdict) → Checked v ≡ valid → v ≡ Valid
checked_valid v e = cc

-- the row is there
row_taken : (o : Option ℕ) (row : Terms) (judge : Terms → FactorVerdict) → with_row (row_unless o row) judge ≡ valid → judge row ≡ valid
row_taken None row judge e = e
row_taken (Some c) row judge e = absurd (cc)

denominator_is : (den : ℤ) (v : FactorVerdict) → from_one den v ≡ valid → (pos 1 ≤ℤ den) × (v ≡ valid)
denominator_is den v e = by_test (int_lt den (pos 1)) refl e
  where
    by_test : (b : Bool) → int_lt den (pos 1) ≡ b → (if b then BelowOne den else v) ≡ valid → (pos 1 ≤ℤ den) × (v ≡ valid)
    by_test true t f = absurd (cc)
    by_test false t f = (search (rules, t), f)

-- what has to be 0 is 0
is_zero : (place : ℕ) (row : Terms) (m : ℕ → ℤ) → zero_verdict place (sum_within (pos 0) row m) ≡ valid → value row m ≡ pos 0
is_zero place row m e = by_sum (sum_within (pos 0) row m) refl e
  where
    by_test : (x : ℤ) (b : Bool) → int_eq x (pos 0) ≡ b → (if b then valid else NotZero x) ≡ valid → x ≡ pos 0
    by_test x true t f = search (rules, t)
    by_test x false t f = absurd (cc)

    plus_zero : (x y : ℤ) → x ≡ pos 0 +ℤ y → x ≡ pos 0 → y ≡ pos 0
    plus_zero x y e f = omega (arith, ints, e, f)

    by_sum : (o : Option ℤ) → sum_within (pos 0) row m ≡ o → zero_verdict place o ≡ valid → value row m ≡ pos 0
    by_sum None s f = absurd (cc)
    by_sum (Some x) s f = plus_zero x (value row m) (sum_told (pos 0) row m x s).1 (by_test x (int_eq x (pos 0)) refl f)

-- ---- rows of both sides

module _ (size : ℕ) (left right : Terms) (left_over : IsOver size left) (right_over : IsOver size right) (num den : ℤ) where
  abbrev row : Terms
  row = side_row size num den left right

  -- the row's value is that of both rows
  value_is : (m : ℕ → ℤ) → m 0 ≡ pos 0 → value row m ≡ num *ℤ value left m -ℤ den *ℤ value right m
  value_is m z =
      (value_linear size row (row_over size num den left right)).sum m z
      ∙ dot_from_one (size + 1) (λ c. value row (one_at c)) (λ c. num *ℤ value left (one_at c) -ℤ den *ℤ value right (one_at c)) m z
      (λ c h l. value-one_at row c ∙ number_at size num den left right c (omega (arith, h)) (omega (arith, l))
      ∙ ap₂ (λ (x y : ℤ). num *ℤ x -ℤ den *ℤ y) (sym (value-one_at left c)) (sym (value-one_at right c)))
      ∙ sym ((linear-sub (size + 1) (λ p. num *ℤ value left p) (λ p. den *ℤ value right p)
      (linear-scale (size + 1) num (value left) (value_linear size left left_over))
      (linear-scale (size + 1) den (value right) (value_linear size right right_over))).sum m z)

-- ---- certificates and points

module _ (q : BodyView) (p : ProblemView) (is : IsProblemOf q p) where
  met_there : (m : ℕ → ℤ) → AreTrueTogether q m → IsPolymatroid p.space.variables m × AreMet m p.constraints
  met_there m h = (
    subst (λ (s : Space). IsPolymatroid s.variables m) (sym is.space) h.0,
    (question_met q p.space p.constraints is.space is.constraints m h.0.empty).1
        (subst (λ (s : Space). AreTrueAt s.variables m (problem_lines q)) (sym is.space) h.1),
  )

  certified : (t : Terms) (w : CertificateView) → IsOver (size_of p.space) t → proof_verdict p t w ≡ Valid → (m : ℕ → ℤ)
      → AreTrueTogether q m → pos 0 ≤ℤ value t m
  certified t w over e m h =
      let by : CertifiesRow p t w = ((valid_yes_is p t w is.limits over).0 e).0 in
      let there = met_there m h in
      yes_is_true p t w is.limits over by m there.0 there.1

  refuted : (t : Terms) (values : List ℤ) → IsOver (size_of p.space) t → length values ≡ size_of p.space
      → no_verdict (length (elementals p.space.variables)) (generators p) t (point_of values) ≡ Valid
      → AreTrueTogether q (point_of values) × (value t (point_of values) ≤ℤ neg_ℤ (pos 1))
  refuted t values over complete e =
      let by : RefutesRow p t values = ((valid_no_is p t values is.limits over complete).0 e).0 in (
        (
          subst (λ (s : Space). IsPolymatroid s.variables (point_of values)) is.space by.polymatroid,
          subst (λ (s : Space). AreTrueAt s.variables (point_of values) (problem_lines q)) is.space
              ((question_met q p.space p.constraints is.space is.constraints (point_of values) refl).0 by.met),
        ),
        by.violated,
      )

  module _ (f g : Form) (left right : Terms) (left_is : IsRowOf p.space f left) (right_is : IsRowOf p.space g right) where
    abbrev size : ℕ
    size = size_of p.space

    abbrev row_for : ℤ → ℤ → Terms
    row_for num den = side_row size num den left right

    over : (num den : ℤ) → IsOver size (row_for num den)
    over num den = row_over size num den left right

    value_at : (num den : ℤ) (m : ℕ → ℤ) → m 0 ≡ pos 0 → value (row_for num den) m ≡ num *ℤ f m -ℤ den *ℤ g m
    value_at num den m z = value_is size left right left_is.coordinates right_is.coordinates num den m z
        ∙ ap₂ (λ (x y : ℤ). num *ℤ x -ℤ den *ℤ y) (left_is.same m z) (right_is.same m z)

    -- with a valid certificate of its row a combination of both sides is at least 0 wherever the lines are true
    holds_by : (num den : ℤ) (w : CertificateView) → proof_verdict p (row_for num den) w ≡ Valid → (m : ℕ → ℤ) → AreTrueTogether q m
        → pos 0 ≤ℤ (num *ℤ f m -ℤ den *ℤ g m)
    holds_by num den w e m h = subst (λ (x : ℤ). pos 0 ≤ℤ x) (value_at num den m h.0.empty) (certified (row_for num den) w (over num den) e m h)

    module _ (values : List ℤ) (complete : length values ≡ size) where
      abbrev m : ℕ → ℤ
      m = point_of values

      left_above : (x y : ℤ) → (neg_ℤ (pos 1) *ℤ x -ℤ pos 0 *ℤ y) ≤ℤ neg_ℤ (pos 1) → pos 1 ≤ℤ x
      left_above x y h = omega (arith, ints, h)

      right_above : (x y : ℤ) → (pos 0 *ℤ x -ℤ pos 1 *ℤ y) ≤ℤ neg_ℤ (pos 1) → pos 1 ≤ℤ y
      right_above x y h = omega (arith, ints, h)

      equal_by : (x y : ℤ) → x -ℤ y ≡ pos 0 → y ≡ x
      equal_by x y e = omega (arith, ints, e)

      -- the point is one of a least factor
      tight : (num den : ℤ) → tight_verdict p (row_for (neg_ℤ (pos 1)) (pos 0)) (row_for num den) values ≡ valid
          → AreTrueTogether q m × (pos 1 ≤ℤ f m) × (den *ℤ g m ≡ num *ℤ f m)
      tight num den e =
          let both = both_valid (no_verdict (length (elementals p.space.variables)) (generators p) (row_for (neg_ℤ (pos 1)) (pos 0)) m)
          (zero_verdict (length (generators p) + 1) (sum_within (pos 0) (row_for num den) m)) e in
          let there = refuted (row_for (neg_ℤ (pos 1)) (pos 0)) values (over (neg_ℤ (pos 1)) (pos 0)) complete both.0 in (
            there.0,
            left_above (f m) (g m) (subst (λ (x : ℤ). x ≤ℤ neg_ℤ (pos 1)) (value_at (neg_ℤ (pos 1)) (pos 0) m refl) there.1),
            equal_by (num *ℤ f m) (den *ℤ g m) (sym (value_at num den m refl) ∙ is_zero (length (generators p) + 1) (row_for num den) m both.1),
          )

      -- the point is one at which no factor holds
      never : tight_verdict p (row_for (pos 0) (pos 1)) left values ≡ valid → AreTrueTogether q m × (f m ≡ pos 0) × (pos 1 ≤ℤ g m)
      never e =
          let both = both_valid (no_verdict (length (elementals p.space.variables)) (generators p) (row_for (pos 0) (pos 1)) m)
          (zero_verdict (length (generators p) + 1) (sum_within (pos 0) left m)) e in
          let there = refuted (row_for (pos 0) (pos 1)) values (over (pos 0) (pos 1)) complete both.0 in (
            there.0,
            sym (left_is.same m refl) ∙ is_zero (length (generators p) + 1) left m both.1,
            right_above (f m) (g m) (subst (λ (x : ℤ). x ≤ℤ neg_ℤ (pos 1)) (value_at (pos 0) (pos 1) m refl) there.1),
          )

    -- what is said is true of the factors between both forms
    abbrev HoldsBetween : ℤ → ℤ → Type 0
    HoldsBetween num den = (m : ℕ → ℤ) → AreTrueTogether q m → pos 0 ≤ℤ (num *ℤ f m -ℤ den *ℤ g m)

    abbrev rest_of : ℤ → ℤ → (Terms → Terms → FactorVerdict) → FactorVerdict
    rest_of num den judge = with_row (row_unless (unformed size num den left right) (row_for num den))
        (λ factor. with_row (row_unless (unformed size (neg_ℤ (pos 1)) (pos 0) left right) (row_for (neg_ℤ (pos 1)) (pos 0))) (λ negated. judge factor negated))

    rest_is : (num den : ℤ) (judge : Terms → Terms → FactorVerdict) → rest_of num den judge ≡ valid
        → judge (row_for num den) (row_for (neg_ℤ (pos 1)) (pos 0)) ≡ valid
    rest_is num den judge e =
        row_taken (unformed size (neg_ℤ (pos 1)) (pos 0) left right) (row_for (neg_ℤ (pos 1)) (pos 0)) (judge (row_for num den))
        (row_taken (unformed size num den left right) (row_for num den) (λ factor. with_row
        (row_unless (unformed size (neg_ℤ (pos 1)) (pos 0) left right) (row_for (neg_ℤ (pos 1)) (pos 0))) (judge factor)) e)

    negated_at : (x y : ℤ) → pos 0 ≤ℤ (neg_ℤ (pos 1) *ℤ x -ℤ pos 0 *ℤ y) → pos 0 ≤ℤ neg_ℤ x
    negated_at x y h = omega (arith, ints, h)

    true_by : (best : BestView) → HasBestShape size best → best_verdict p left right best ≡ Some valid → IsTrueBest HoldsBetween best
    true_by (Least num den w values) shape e =
        let one = denominator_is den (rest_of num den (λ factor negated. first_wrong (proof_verdict p factor w) (tight_verdict p negated factor values)))
        (some_same (from_one den (rest_of num den
        (λ factor negated. first_wrong (proof_verdict p factor w) (tight_verdict p negated factor values)))) valid e) in
        let rest = rest_is num den (λ factor negated. first_wrong (proof_verdict p factor w) (tight_verdict p negated factor values)) one.1 in
        let both = both_valid (proof_verdict p (row_for num den) w) (tight_verdict p (row_for (neg_ℤ (pos 1)) (pos 0)) (row_for num den) values) rest in
        let at = tight values shape.2.each num den both.1 in (
          one.0,
          holds_by num den w both.0,
          λ a b from holds. no_smaller num den a b (f (point_of values)) (g (point_of values)) at.1 one.0 at.2 (holds (point_of values) at.0),
        )
    true_by (Never values) shape e =
        let rest = row_taken (unformed size (pos 0) (pos 1) left right) (row_for (pos 0) (pos 1)) (λ negated. tight_verdict p negated left values)
        (some_same (with_row (row_unless (unformed size (pos 0) (pos 1) left right) (row_for (pos 0) (pos 1)))
        (λ negated. tight_verdict p negated left values)) valid e) in
        let at = never values shape.each rest in
        λ a b from holds. none_at_zero a b (f (point_of values)) (g (point_of values)) at.1 at.2 from (holds (point_of values) at.0)
    true_by (Unbounded num den w below) shape e =
        let one = denominator_is den (rest_of num den (λ factor negated. first_wrong (proof_verdict p factor w) (Checked (proof_verdict p negated below))))
        (some_same (from_one den (rest_of num den (λ factor negated. first_wrong (proof_verdict p factor w)
        (Checked (proof_verdict p negated below))))) valid e) in
        let rest = rest_is num den (λ factor negated. first_wrong (proof_verdict p factor w) (Checked (proof_verdict p negated below))) one.1 in
        let both = both_valid (proof_verdict p (row_for num den) w) (Checked (proof_verdict p (row_for (neg_ℤ (pos 1)) (pos 0)) below)) rest in
        let second = checked_valid (proof_verdict p (row_for (neg_ℤ (pos 1)) (pos 0)) below) both.1 in (
          one.0,
          λ a b from smaller m h. all_smaller num den a b (f m) (g m) one.0 from smaller (holds_by num den w both.0 m h)
              (negated_at (f m) (g m) (holds_by (neg_ℤ (pos 1)) (pos 0) below second m h)),
        )
    true_by (Undecided cause) shape e = tt

-- ---- the question that is asked

best_fits_question : (limits : FileLimits) (line : List ℕ) (source : Source) (b : BestView) → ReadsReport limits line (Ok (Factored source b))
    → HasFactorShape (asked source).body b
best_fits_question limits line source b h = (best_is h.reads.own h.value source b h.reads.is).1

best_source_read : (limits : FileLimits) (line : List ℕ) (source : Source) (b : BestView) (h : ReadsReport limits line (Ok (Factored source b)))
    → IsSourceOf limits h.value source
best_source_read limits line source b h = subst (IsSourceAt limits h.value) (best_is h.reads.own h.value source b h.reads.is).0 h.reads.source

-- ---- the claim

-- a question that asks for factors asks by `prove` with `>=`
asks_relation : (q : BodyView) (r : RelationView) → asked_by q.verb ≡ Some r → q.verb ≡ Prove r
asks_relation q r e = by_verb q.verb refl e
  where
    by_sign : (sign : Sign) (s : RelationView) → at_least sign s ≡ Some r → s ≡ r
    by_sign AtLeast s e = some_same s r e
    by_sign AtMost s e = absurd (cc)
    by_sign Equal s e = absurd (cc)

    by_verb : (verb : VerbView) → q.verb ≡ verb → asked_by verb ≡ Some r → q.verb ≡ Prove r
    by_verb (Prove s) about e = about ∙ ap Prove (by_sign s.sign s e)
    by_verb (Eliminate rates) about e = absurd (cc)
    by_verb (Contain first second tries) about e = absurd (cc)

-- where a question asks by `prove`, its problem has its own names
own_names : (q : BodyView) (r : RelationView) → q.verb ≡ Prove r → problem_names q ≡ q.names
own_names q r about = ap (λ v. names_under q.names v) about

told_true : (q : BodyView) (best : BestView) (names : NamesView) → IsQuestion q → QuestionHasSmallNumbers q → HasBestShape (size_of (space_of q.names)) best
    → (o : Option RelationView) → asked_by q.verb ≡ o → Weighed names valid ≡ weighed_by q (option_and_then (λ r. factor_verdict_of q r best) o)
    → (r : RelationView) × (asked_by q.verb ≡ Some r) × IsTrueBest (HoldsFor q r) best
told_true q best names k small shape None asks e = absurd (cc)
told_true q best names k small shape (Some r) asks e =
    let about = asks_relation q r asks in
    let rows = side_rows q k small r about in (
      r,
      asks,
      true_by q (problem_of q) (question_poses q k small) (left_form (variable_count q) r) (right_form (variable_count q) r)
          (terms_in q (left_form (variable_count q) r)) (terms_in q (right_form (variable_count q) r)) rows.0 rows.1 best
          (subst (λ (v : NamesView). HasBestShape (size_of (space_of v)) best) (sym (own_names q r about)) shape) (by_option (factor_verdict_of q r best) e),
    )
  where
    by_option : (o : Option FactorVerdict) → Weighed names valid ≡ weighed_by q o → o ≡ Some valid
    by_option None e = absurd (cc)
    by_option (Some x) e = let g : x ≡ valid = cc in ap Some g

pub valid_factor_is_true : ValidFactorIsTrue
valid_factor_is_true limits line names source best h reads =
    let q = (asked source).body in
    let e : h.reading ≡ Factored source best = same_read h.reading (Factored source best)
    (one_reading limits line (Ok h.reading) (Ok (Factored source best)) h.reads reads) in
    let told : Weighed names valid ≡ factor_line_verdict (asked source).body best = subst (λ x. IsReadingVerdict x (Weighed names valid)) e h.verdict in
    let about = best_source_read limits line source best reads in
    told_true q best names (source_limits limits reads.value source about) (source_numbers limits reads.value source about)
    (best_fits_question limits line source best reads).shape (asked_by q.verb) refl told

-- ---- of a sharing file

module _ (x : SharingView) (within : IsSharing x) where
  -- a factor holds for the made question exactly where it holds wherever the secret is shared perfectly
  same_factors : (num den : ℤ) → HoldsFor (made_question x).body x.relation num den ↔ HoldsWherePerfect x num den
  unfolding made_question
  same_factors num den = (
    (λ holds h perfect. holds h ((made_question_is_of_perfect_sharing x h within).1 perfect)),
    (λ holds h lines. holds h ((made_question_is_of_perfect_sharing x h within).0 lines)),
  )

  own_relation : (r : RelationView) → asked_by (made_question x).body.verb ≡ Some r → r ≡ x.relation
  unfolding made_question
  own_relation r e = by_sign x.relation.sign e
    where
      by_sign : (sign : Sign) → at_least sign x.relation ≡ Some r → r ≡ x.relation
      by_sign AtLeast e = sym (some_same x.relation r e)
      by_sign AtMost e = absurd (cc)
      by_sign Equal e = absurd (cc)

pub valid_factor_is_true_of_sharing : ValidFactorIsTrueOfSharing
valid_factor_is_true_of_sharing limits line names x best h reads =
    let source = best_source_read limits line (Sharing x) best reads in
    let within : IsSharing x = (sharing_is_within limits source.text x source.makes.reads).0 in
    let t = valid_factor_is_true limits line names (Sharing x) best h reads in
    true_of_same (HoldsFor (made_question x).body x.relation) (HoldsWherePerfect x) best (same_factors x within)
    (subst (λ (r : RelationView). IsTrueBest (HoldsFor (made_question x).body r) best) (own_relation x within t.0 t.1) t.2)
