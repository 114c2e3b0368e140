-- The verdict on the line of a right answer: `Valid` for a yes, a no and a containment, `Skipped` for the others.
use Rattle.std.proofs.Common.{◌≡◌, ℕ, zero, suc, ◌+◌, ◌<◌, ◌≤◌, ◌^◌, ℤ, pos, neg_ℤ, ◌≤ℤ◌, List, [], ◌∷◌, map, length, decimal, slice_index_or, Bool, true, false, Option, Some, IfSome, Ok, All, IsUtf8, IsAscii, if◌then◌else◌, refl, sym, ap, subst, ◌∙◌, arith, inl, inr, lit≤}
use Rattle.std.specs.List.{AllByRecursion as Every}
use Rattle.std.proofs.lemmas.Fmt.{IsAscii-decimal_wide}
use Rattle.std.proofs.lemmas.List.Elements.{All-head, All-tail, All-weaker}
use Rattle.std.proofs.lemmas.Str.{IsUtf8-from_ascii}
use Rattle.std.proofs.lemmas.Str.Ascii.{IsAscii-nil, IsAscii-cons}
use Rattle.it_rational.specs.Rational.{Rational}
use Rattle.it_space.specs.declared.spaces.Space.{Space}
use Rattle.it_space.specs.declared.answers.Cause.{Cause}
use Rattle.it_space.specs.declared.answers.Cause.TheVariants as causes
use Rattle.it_space.specs.declared.answers.Mark.{Mark}
use Rattle.it_space.specs.Answers.{AnswerView, CertificateView}
use Rattle.it_space.specs.Answers.AnswerView.{Yes, No, Undecided, Region, Contained, Open}
use Rattle.it_problems.specs.Problems.{ProblemView, IsProblem}
use Rattle.it_space.specs.Rows.{Terms, point_of, value}
use Rattle.it_space.specs.Spaces.{size_of}
use Rattle.it_polymatroid.specs.Certificates.{Form}
use Rattle.it_polymatroid.specs.Polymatroid.{IsPolymatroid}
use Rattle.it_elemental.specs.Generators.{generators}
use Rattle.it_check.specs.Meaning.{CertifiesRow, CertificateFits, RefutesRow, PointFits}
use Rattle.it_check.specs.declared.verdicts.Verdict.TheVariants.{Valid}
use Rattle.it_check.proofs.Truth.{valid_yes_is, valid_no_is}
use Rattle.it_run.specs.Runs.{RunEndView}
use Rattle.it_run.specs.Runs.RunEndView.{Weights, Point, Pivots, Width}
use Rattle.it_prove.specs.Closed.{spread_point}
use Rattle.it_prove.specs.ProofViews as proof_views
use Rattle.it_prove.specs.ProofViews.{Follows, EndsWith, AreProofsOf}
use Rattle.it_prove.proofs.ProofLemmas.{quick_no, quick_yes}
use Rattle.it_prove.proofs.ReachLemmas.{same_pivots}
use Rattle.it_prove.proofs.RightLemmas.{ends_are_right}
use Rattle.it_prove.specs.declared.types.Effort.{Effort}
use Rattle.it_syntax.specs.Meaning.{RelationView}
use Rattle.it_syntax.specs.NamesViews.{NamesView}
use Rattle.it_question.specs.declared.sizes.FileLimits.{FileLimits}
use Rattle.it_question.specs.AsciiTexts.{IsAsciiQuestion}
use Rattle.it_question.specs.OwnLines.{RegionView}
use Rattle.it_question.specs.Questions.{BodyView, QuestionView, VerbView, Prove, Eliminate, Contain}
use Rattle.it_question.specs.Files.{IsFileWithin}
use Rattle.it_question.specs.Limits.{IsQuestion, IsVerbOver}
use Rattle.it_question.proofs.FileReadings.{file_limits}
use Rattle.it_question.proofs.NumberLemmas.{QuestionHasSmallNumbers, file_has_small_numbers}
use Rattle.it_question.proofs.AsciiLemmas.{texts_are_ascii}
use Rattle.it_demand.specs.Canonical.{IsRowOf}
use Rattle.it_demand.specs.Targets.{targets}
use Rattle.it_demand.specs.SystemForms.{AreRowsOf}
use Rattle.it_demand.specs.QuestionSpaces.{space_of}
use Rattle.it_question.specs.ProblemLines.{problem_names, problem_lines}
use Rattle.it_canon.specs.TrueLines.{variable_count, AreTrueAt}
use Rattle.it_canon.specs.QuestionDemands.{question_demands, problem_of, terms_in, IsProblemOf}
use Rattle.it_canon.proofs.ExistenceLemmas.{question_poses, relation_rows, system_rows}
use Rattle.it_canon.proofs.ProblemLemmas.{question_met}
use Rattle.it_region.specs.declared.types.Candidate.{Candidate}
use Rattle.it_region.specs.Obligations.{obligations, ArePulledRows}
use Rattle.it_region.specs.AnswerForms.{answer_forms_by}
use Rattle.it_region.proofs.ExistenceLemmas.{obligation_rows_there}
use Rattle.it_contain.specs.Proposals.{Plan}
use Rattle.it_answer.specs.declared.types.Budgets.{Budgets}
use Rattle.it_answer.specs.Forms.{all_demands, CertifiesForm, CertifyAll, Certifies}
use Rattle.it_answer.specs.Replies.{Reply}
use Rattle.it_answer.specs.Shows.{IsCounterexample, ShowsBy, ShowsContained, Refutes}
use Rattle.it_answer.specs.Truth.{IsExactRegion}
use Rattle.it_answer.specs.DueContainments.{IsDueContainment}
use Rattle.it_answer.specs.DueEliminations.{IsDueElimination}
use Rattle.it_answer.specs.DueRelations.{IsDueRelation, PointIsDue}
use Rattle.it_answer.specs.RightAnswers.{IsDueBy, IsRightAnswer, ProofsAscend, budgets_under}
use Rattle.it_eliminate.proofs.MemberLemmas.{every_member}
use Rattle.it_space.proofs.EveryLemmas.{every_of}
use Rattle.it_answer.proofs.FormLemmas.{generators_speak, by_rows}
use Rattle.it_answer.proofs.UniqueLemmas.{a_yes_ascends}
use Rattle.it_certificate.specs.AnswerShapes.{HasQuestionShape, HasVerbShape, IsCauseFor}
use Rattle.it_certificate.specs.Laws.{ReadsBack, written_answer}
use Rattle.it_certificate.specs.Reports.{Answered, ReadsReport}
use Rattle.it_certificate.specs.Sources.{Text}
use Rattle.it_certificate.specs.Values.{answer_value, answer_text, step_or_rate_word}
use Rattle.it_report.specs.RowVerdicts.{is_valid, proof_verdict, proofs_verdict, point_verdict}
use Rattle.it_report.specs.LineVerdicts.{LineVerdict, Skipped, Judged, is_invalid}
use Rattle.it_report.specs.Judging.{answer_verdict, IsAnswerVerdict, IsVerdict}
use Rattle.it_report.proofs.OneLemmas.{one_verdict}
use Rattle.it_cli.proofs.DataLemmas.{IsPlain, yes_plain, no_plain, undecided_plain, region_plain, contained_plain, open_plain, answer_text_utf8, answer_text_back}
use Rattle.it_cli.proofs.RegionFits.{right_region_fits}
use Rattle.it_cli.proofs.FeedLemmas.{IsNoFeed, answer_text_clear}
use Rattle.it_cli.proofs.JsonLemmas.{right_prove_fits, eliminated_cause_fits, all_weights_written, yes_same, no_same}
use Rattle.it_cli.proofs.ContainedFits.{contained_fits}
use Rattle.it_cli.proofs.NameFits.{rates_found}

-- ---- certificates and points of the run are valid

certificate_fits : (p : ProblemView) (t : Terms) (w : CertificateView) (e : RunEndView (List (ℕ × Rational)) (List Rational))
    → Follows p t e (proof_views.Yes w) → CertificateFits p t w
certificate_fits p t w (Weights ws) (inl h) = subst (CertificateFits p t) (yes_same h.0 w (sym h.3)) h.2.1
certificate_fits p t w (Weights ws) (inr h) = let e = h.1 in absurd (cc)
certificate_fits p t w (Point qs) (inl h) = let e = h.1 in absurd (cc)
certificate_fits p t w (Point qs) (inr h) = let e = h.1 in absurd (cc)
certificate_fits p t w (Pivots k) e = absurd (cc)
certificate_fits p t w (Width k) e = absurd (cc)

point_fits : (p : ProblemView) (t : Terms) (values : List ℤ) (e : RunEndView (List (ℕ × Rational)) (List Rational))
    → Follows p t e (proof_views.No values) → PointFits p t values
point_fits p t values (Weights ws) (inl h) = let e = h.3 in absurd (cc)
point_fits p t values (Weights ws) (inr h) = let e = h.1 in absurd (cc)
point_fits p t values (Point qs) (inl h) = subst (PointFits p t) (no_same (spread_point p qs) values (sym h.1)) h.0.1
point_fits p t values (Point qs) (inr h) = let e = h.1 in absurd (cc)
point_fits p t values (Pivots k) e = absurd (cc)
point_fits p t values (Width k) e = absurd (cc)

module _ (q : BodyView) (posed : IsProblemOf q (problem_of q)) (effort : Effort) where
  to_problem : (P : Space → Type 0) → P (space_of (problem_names q)) → P (problem_of q).space
  to_problem P x = subst P (sym posed.space) x

  certifies_row : (f : Form) (t : Terms) (w : CertificateView) → IsRowOf (problem_of q).space f t → CertifiesForm q f w → CertifiesRow (problem_of q) t w
  certifies_row f t w row c =
      let p = problem_of q in
      by_rows (all_demands p.space.variables (question_demands q)) (generators p)
      (generators_speak p.space (question_demands q) p.constraints posed.constraints.stated) (size_of p.space + 1)
      (value t) f row.same w
      (to_problem (λ s. Certifies (all_demands s.variables (question_demands q)) f w) c)

  refutes_row : (f : Form) (t : Terms) (values : List ℤ) → IsRowOf (problem_of q).space f t → IsCounterexample q f values → RefutesRow (problem_of q) t values
  refutes_row f t values row c = record {
    complete = to_problem (λ s. length values ≡ size_of s) c.complete;
    polymatroid = to_problem (λ s. IsPolymatroid s.variables (point_of values)) c.polymatroid;
    met = (question_met q (problem_of q).space (problem_of q).constraints posed.space posed.constraints (point_of values) refl).1
        (to_problem (λ s. AreTrueAt s.variables (point_of values) (problem_lines q)) c.lines_hold);
    violated = subst (λ (x : ℤ). x ≤ℤ neg_ℤ (pos 1)) (sym (row.same (point_of values) refl)) c.violated;
  }

  fits_of_yes : (t : Terms) (w : CertificateView) → EndsWith (problem_of q) t effort (proof_views.Yes w) → CertificateFits (problem_of q) t w
  fits_of_yes t w (inl e) = certificate_fits (problem_of q) t w e.end e.follows
  fits_of_yes t w (inr e) = (quick_yes effort.runs (problem_of q) t w e).0.1

  fits_of_no : (t : Terms) (values : List ℤ) → EndsWith (problem_of q) t effort (proof_views.No values) → PointFits (problem_of q) t values
  fits_of_no t values (inl e) = point_fits (problem_of q) t values e.end e.follows
  fits_of_no t values (inr e) = (quick_no effort.runs (problem_of q) t values e).0.1

  proof_valid : (f : Form) (t : Terms) (w : CertificateView) → IsRowOf (problem_of q).space f t → CertifiesForm q f w
      → EndsWith (problem_of q) t effort (proof_views.Yes w) → proof_verdict (problem_of q) t w ≡ Valid
  proof_valid f t w row c d = (valid_yes_is (problem_of q) t w posed.limits row.coordinates).1 (certifies_row f t w row c, fits_of_yes t w d)

  proofs_valid : (fs : List Form) (ts : List Terms) (ws : List CertificateView) → AreRowsOf (problem_of q).space fs ts → CertifyAll q fs ws
      → AreProofsOf (problem_of q) effort ts ws → proofs_verdict (problem_of q) ts ws ≡ Valid
  unfolding proofs_verdict
  proofs_valid [] [] ws z c d = refl
  proofs_valid [] (t ∷ ts) ws z c d = absurd z
  proofs_valid (f ∷ fs) [] ws z c d = absurd z
  proofs_valid (f ∷ fs) (t ∷ ts) [] z c d = absurd c
  proofs_valid (f ∷ fs) (t ∷ ts) (w ∷ ws) z c d =
      ap (λ v. if is_valid v then proofs_verdict (problem_of q) ts ws else v) (proof_valid f t w z.0 c.0 d.0) ∙ proofs_valid fs ts ws z.1 c.1 d.1

  point_valid : (fs : List Form) (ts : List Terms) (back : Bool) (values : List ℤ) → AreRowsOf (problem_of q).space fs ts
      → Refutes q fs back values → PointIsDue (problem_of q) effort ts back values
      → point_verdict (problem_of q) ts back values ≡ Valid
  unfolding point_verdict
  point_valid [] ts back values z c d = absurd c
  point_valid (f ∷ fs) [] back values z c d = absurd z
  point_valid (f ∷ fs) (t ∷ ts) false values z c d =
      let refuted = refutes_row f t values z.0 c in
      (valid_no_is (problem_of q) t values posed.limits z.0.coordinates refuted.complete).1 (refuted, fits_of_no t values d)
  point_valid (f ∷ []) (t ∷ ts) true values z c d = absurd c
  point_valid (f ∷ g ∷ fs) (t ∷ []) true values z c d = absurd d
  point_valid (f ∷ g ∷ fs) (t ∷ u ∷ ts) true values z c d =
      let refuted = refutes_row g u values z.1.0 c.1 in
      (valid_no_is (problem_of q) u values posed.limits z.1.0.coordinates refuted.complete).1 (refuted, fits_of_no u values d.1)

-- ---- the proofs of a candidate are valid

proofs_by_valid : (p : ProblemView) (effort : Effort) (fs : List Form) (ts : List Terms) (ws : List CertificateView) → IsProblem p
    → ArePulledRows p.space fs ts → AreProofsOf p effort ts ws → proofs_verdict p ts ws ≡ Valid
unfolding proofs_verdict
proofs_by_valid p effort [] [] ws l z d = refl
proofs_by_valid p effort [] (t ∷ ts) ws l z d = absurd z
proofs_by_valid p effort (f ∷ fs) [] ws l z d = absurd z
proofs_by_valid p effort (f ∷ fs) (t ∷ ts) [] l z d = absurd d
proofs_by_valid p effort (f ∷ fs) (t ∷ ts) (w ∷ ws) l z d =
    ap (λ v. if is_valid v then proofs_verdict p ts ws else v) ((valid_yes_is p t w l z.0.coordinates).1
    (ends_are_right p t effort (proof_views.Yes w) l z.0.coordinates d.0)) ∙ proofs_by_valid p effort fs ts ws l z.1 d.1

-- ---- lines

pub question_fits : (q : BodyView) (a : AnswerView) (verb : VerbView) → q.verb ≡ verb → HasVerbShape q.names verb a → HasQuestionShape q a
unfolding HasQuestionShape
question_fits q a verb e h = subst (λ x. HasVerbShape q.names x a) (sym e) h

-- no verdict on the line is invalid, and it is one line
pub record IsAccepted (allowed : FileLimits) (line : List ℕ) : Type 0 where
  pub clear : Every IsNoFeed line
  pub verdicts : (v : LineVerdict) → IsVerdict allowed line v → is_invalid v ≡ false

pub accepted_by_verdict : (allowed : FileLimits) (line : List ℕ) (w : LineVerdict) → Every IsNoFeed line → IsVerdict allowed line w → is_invalid w ≡ false
    → IsAccepted allowed line
accepted_by_verdict allowed line w clear is ok = record { clear = clear; verdicts = λ v h. ap is_invalid (one_verdict allowed line v w h is) ∙ ok }

rate_ascii : (rates : List (List ℕ)) (r : ℕ) → All IsAscii rates → IsAscii (slice_index_or rates r [])
rate_ascii [] zero all = IsAscii-nil
rate_ascii [] (suc r) all = IsAscii-nil
rate_ascii (x ∷ rates) zero all = All-head IsAscii x rates all
rate_ascii (x ∷ rates) (suc r) all = rate_ascii rates r (All-tail IsAscii x rates all)

step_ascii : (n : ℕ) → n < 2 ^ 32 → IsAscii (decimal n)
step_ascii n h = let e : 2 ^ 32 ≤ 10 ^ 64 = lit≤ tt in IsAscii-decimal_wide n (omega (arith, h, e))

step_or_rate_ascii : (v : NamesView) (c : Cause) → All IsAscii v.rates → IsCauseFor v c → IsAscii (step_or_rate_word v c)
step_or_rate_ascii v (causes.Pivots k) all h = step_ascii k h
step_or_rate_ascii v (causes.Width k) all h = step_ascii k h
step_or_rate_ascii v causes.Scale all h = IsAscii-cons 48 [] (omega arith) IsAscii-nil
step_or_rate_ascii v (causes.Rows r) all h = rate_ascii v.rates r all
step_or_rate_ascii v (causes.WideRate r) all h = rate_ascii v.rates r all

module _ (allowed : FileLimits) (back : ReadsBack) (q : QuestionView) (short : length q.text ≤ 1048577) (file : IsFileWithin allowed q.text (q ∷ [])) where
  -- the report's line of an answer
  abbrev line_of : AnswerView → List ℕ
  line_of a = answer_text q.text q.body.names a

  question_ascii : IsAsciiQuestion q
  question_ascii = All-head IsAsciiQuestion q [] (texts_are_ascii allowed q.text (q ∷ []) file)

  pub text_is : IsUtf8 q.text
  text_is = IsUtf8-from_ascii q.text question_ascii.text

  line_reads : (a : AnswerView) → HasQuestionShape q.body a → IsPlain (answer_value q.text q.body.names a)
      → ReadsReport allowed (line_of a) (Ok (Answered (Text q) (written_answer a)))
  line_reads a fits plain = record {
    value = answer_value q.text q.body.names a;
    utf8 = answer_text_utf8 q.text q.body.names a plain;
    is_json = answer_text_back q.text q.body.names a plain;
    reads = back allowed q a short file fits;
  }

  clear_of : (a : AnswerView) → IsPlain (answer_value q.text q.body.names a) → Every IsNoFeed (line_of a)
  clear_of a plain = answer_text_clear q.text q.body.names a plain

  -- the question keeps the limits, and its problem and its rows are there
  pub limits : IsQuestion q.body
  limits = All-head (λ (x : QuestionView). IsQuestion x.body) q [] (file_limits allowed q.text (q ∷ []) file)

  pub small : QuestionHasSmallNumbers q.body
  small = (file_has_small_numbers allowed q.text (q ∷ []) file).0

  posed : IsProblemOf q.body (problem_of q.body)
  posed = question_poses q.body limits small

  verdict_by_verb : (a : AnswerView) (verb : VerbView) → q.body.verb ≡ verb
      → answer_verdict (problem_of q.body) (map (terms_in q.body) (answer_forms_by q.body verb a)) a ≡ Some Valid
      → IsAnswerVerdict q.body a (Judged (problem_names q.body) Valid)
  verdict_by_verb a verb about e = (refl, ap (λ v. answer_verdict (problem_of q.body) (map (terms_in q.body) (answer_forms_by q.body v a)) a) about ∙ e)

  judged_is_accepted : (a : AnswerView) (line : List ℕ) → Every IsNoFeed line
      → IsAnswerVerdict q.body a (Judged (problem_names q.body) Valid) → ReadsReport allowed line (Ok (Answered (Text q) a)) → IsAccepted allowed line
  judged_is_accepted a line clear verdict reads = accepted_by_verdict allowed line (Judged (problem_names q.body) Valid) clear
      (record { reading = Answered (Text q) a; reads = reads; verdict = verdict }) refl

  skipped_is_accepted : (a : AnswerView) (line : List ℕ) → Every IsNoFeed line → IsAnswerVerdict q.body a Skipped
      → ReadsReport allowed line (Ok (Answered (Text q) a)) → IsAccepted allowed line
  skipped_is_accepted a line clear e reads = accepted_by_verdict allowed line Skipped clear
      (record { reading = Answered (Text q) a; reads = reads; verdict = e }) refl

  undecided_accepted : (c : Cause) → HasQuestionShape q.body (Undecided c) → IsCauseFor q.body.names c → IsAccepted allowed (line_of (Undecided c))
  undecided_accepted c fits cause =
      let plain = undecided_plain q.text q.body.names text_is c (IsUtf8-from_ascii (step_or_rate_word q.body.names c)
      (step_or_rate_ascii q.body.names c question_ascii.rates cause)) in
      skipped_is_accepted (Undecided c) (line_of (Undecided c)) (clear_of (Undecided c) plain) refl (line_reads (Undecided c) fits plain)

  region_accepted : (budgets : Budgets) (rates : List ℕ) (rows : List (Mark × Terms)) → q.body.verb ≡ Eliminate rates
      → IsExactRegion q.body rates rows → IsDueElimination budgets q.body rates (Region rows)
      → IsAccepted allowed (line_of (Region rows))
  region_accepted budgets rates rows about shown due =
      let fits = right_region_fits budgets q.body rates rows limits (system_rows q.body limits small) shown due in
      let plain = region_plain q.text q.body.names text_is rows (λ i d l. (fits i d l).terms) in
      skipped_is_accepted (Region rows) (line_of (Region rows)) (clear_of (Region rows) plain) refl
      (line_reads (Region rows) (question_fits q.body (Region rows) (Eliminate rates) about fits) plain)

  module _ (budgets : Budgets) (few : IfSome budgets.effort.pivots (λ n. n < 2 ^ 32)) where
    yes_accepted : (r : RelationView) (ws : List CertificateView) → q.body.verb ≡ Prove r → ProofsAscend (Yes ws)
        → ShowsBy q.body (Prove r) (Yes ws) → IsDueRelation budgets.effort q.body r (Yes ws) → IsAccepted allowed (line_of (Yes ws))
    yes_accepted r ws about ascend shown due =
        let fits = right_prove_fits budgets.effort q.body r (Yes ws) few posed about shown due in
        let e = proofs_valid q.body posed budgets.effort (targets (variable_count q.body) r)
        (map (terms_in q.body) (targets (variable_count q.body) r)) ws (relation_rows q.body limits small r about) shown due in
        let plain = yes_plain q.text q.body.names text_is ws fits.1 in
        let reads = line_reads (Yes ws) (question_fits q.body (Yes ws) (Prove r) about fits) plain in
        judged_is_accepted (Yes ws) (line_of (Yes ws)) (clear_of (Yes ws) plain) (verdict_by_verb (Yes ws) (Prove r) about (ap Some e))
        (subst (λ us. ReadsReport allowed (line_of (Yes ws)) (Ok (Answered (Text q) (Yes us)))) (all_weights_written ws ascend) reads)

    no_accepted : (r : RelationView) (is_back : Bool) (values : List ℤ) → q.body.verb ≡ Prove r
        → ShowsBy q.body (Prove r) (No is_back values) → IsDueRelation budgets.effort q.body r (No is_back values)
        → IsAccepted allowed (line_of (No is_back values))
    no_accepted r is_back values about shown due =
        let fits = right_prove_fits budgets.effort q.body r (No is_back values) few posed about shown due in
        let rows = relation_rows q.body limits small r about in
        let e = point_valid q.body posed budgets.effort (targets (variable_count q.body) r)
        (map (terms_in q.body) (targets (variable_count q.body) r)) is_back values rows shown due in
        let plain = no_plain q.text q.body.names text_is is_back values fits.1 in
        judged_is_accepted (No is_back values) (line_of (No is_back values)) (clear_of (No is_back values) plain)
        (verdict_by_verb (No is_back values) (Prove r) about (ap Some e))
        (line_reads (No is_back values) (question_fits q.body (No is_back values) (Prove r) about fits) plain)

    prove_accepted : (r : RelationView) (a : AnswerView) → q.body.verb ≡ Prove r → ProofsAscend a → ShowsBy q.body (Prove r) a
        → IsDueRelation budgets.effort q.body r a → IsAccepted allowed (line_of a)
    prove_accepted r (Yes ws) about ascend shown due = yes_accepted r ws about ascend shown due
    prove_accepted r (No is_back values) about ascend shown due = no_accepted r is_back values about shown due
    prove_accepted r (Undecided c) about ascend shown due =
        let fits = right_prove_fits budgets.effort q.body r (Undecided c) few posed about shown due in
        undecided_accepted c (question_fits q.body (Undecided c) (Prove r) about fits) fits
    prove_accepted r (Region rows) about ascend shown due = absurd shown
    prove_accepted r (Contained parts proofs) about ascend shown due = absurd shown
    prove_accepted r (Open tried) about ascend shown due = absurd shown

    eliminate_accepted : (rates : List ℕ) (a : AnswerView) → q.body.verb ≡ Eliminate rates → ShowsBy q.body (Eliminate rates) a
        → IsDueElimination budgets q.body rates a → IsAccepted allowed (line_of a)
    eliminate_accepted rates (Yes ws) about shown due = absurd shown
    eliminate_accepted rates (No is_back values) about shown due = absurd shown
    eliminate_accepted rates (Undecided c) about shown due =
        let within = (subst (IsVerbOver q.body.names) about limits.verb).within in
        let fits = eliminated_cause_fits budgets q.body rates c (λ r m. rates_found allowed q r file
        (every_member (λ i. i < length q.body.names.rates) rates r (every_of (λ i. i < length q.body.names.rates) rates within) m)) due
        in
        undecided_accepted c (question_fits q.body (Undecided c) (Eliminate rates) about fits) fits
    eliminate_accepted rates (Region rows) about shown due = region_accepted budgets rates rows about shown due
    eliminate_accepted rates (Contained parts proofs) about shown due = absurd shown
    eliminate_accepted rates (Open tried) about shown due = absurd shown

    contained_accepted : (plans : List Plan) (first second : RegionView) (tries : List (List ℕ)) (parts : List ℕ)
        (ws : List CertificateView) (found : List Candidate) → q.body.verb ≡ Contain first second tries
        → ProofsAscend (Contained parts ws) → ShowsContained q.body first second parts ws
        → IsDueContainment budgets plans q.body first second tries (record { answer = Contained parts ws; found = found })
        → IsAccepted allowed (line_of (Contained parts ws))
    contained_accepted plans first second tries parts ws found about ascend shown due =
        let a = Contained parts ws in
        let forms = obligations q.body first second parts in
        let rows = map (terms_in q.body) forms in
        let fits = contained_fits q.body limits posed first second tries about budgets plans parts ws found shown due in
        let plain = contained_plain q.text q.body.names text_is parts ws (All-weaker
        (λ s. (s < 2 ^ 32) × (s < 2 ^ length first.names.variables)) (λ s. s < 2 ^ 32) (λ s h. h.0) parts fits.sets) fits.numbers in
        let reads = line_reads a (question_fits q.body a (Contain first second tries) about fits) plain in
        let proofs : AreProofsOf (problem_of q.body) budgets.effort rows ws =
        subst (λ ps. AreProofsOf (problem_of q.body) budgets.effort (map (terms_in q.body) (obligations q.body first second ps)) ws)
        (sym due.parts_are) due.proofs.proofs in
        let are = obligation_rows_there q.body limits small first second tries about parts shown.are_parts in
        let e = proofs_by_valid (problem_of q.body) budgets.effort forms rows ws posed.limits are proofs in
        let verdict = verdict_by_verb a (Contain first second tries) about (ap Some e) in
        judged_is_accepted a (line_of a) (clear_of a plain) verdict
        (subst (λ us. ReadsReport allowed (line_of a) (Ok (Answered (Text q) (Contained parts us)))) (all_weights_written ws ascend) reads)

    open_accepted : (plans : List Plan) (first second : RegionView) (tries : List (List ℕ)) (tried : ℕ) (found : List Candidate)
        → budgets.tries < 2 ^ 32 → q.body.verb ≡ Contain first second tries
        → IsDueContainment budgets plans q.body first second tries (record { answer = Open tried; found = found }) → IsAccepted allowed (line_of (Open tried))
    open_accepted plans first second tries tried found short about due =
        let l : tried < 2 ^ 32 = let is = due.0.tried_is in omega (arith, is, short) in
        let plain = open_plain q.text q.body.names text_is tried l in
        skipped_is_accepted (Open tried) (line_of (Open tried)) (clear_of (Open tried) plain) refl
        (line_reads (Open tried) (question_fits q.body (Open tried) (Contain first second tries) about l) plain)

    contain_accepted : (plans : List Plan) (first second : RegionView) (tries : List (List ℕ)) (a : AnswerView) (found : List Candidate)
        → budgets.tries < 2 ^ 32 → q.body.verb ≡ Contain first second tries
        → ProofsAscend a → ShowsBy q.body (Contain first second tries) a
        → IsDueContainment budgets plans q.body first second tries (record { answer = a; found = found }) → IsAccepted allowed (line_of a)
    contain_accepted plans first second tries (Yes ws) found short about ascend shown due = absurd shown
    contain_accepted plans first second tries (No is_back values) found short about ascend shown due = absurd shown
    contain_accepted plans first second tries (Undecided c) found short about ascend shown due = absurd shown
    contain_accepted plans first second tries (Region rows) found short about ascend shown due = absurd shown
    contain_accepted plans first second tries (Contained parts proofs) found short about ascend shown due = contained_accepted plans first
        second tries parts proofs found about ascend shown due
    contain_accepted plans first second tries (Open tried) found short about ascend shown due = open_accepted plans first second tries tried
        found short about due

    verb_accepted : (plans : List Plan) (verb : VerbView) (reply : Reply) → q.body.verb ≡ verb → budgets.tries < 2 ^ 32
        → ProofsAscend reply.answer → ShowsBy q.body verb reply.answer
        → IsDueBy budgets plans q.body verb reply → IsAccepted allowed (line_of reply.answer)
    verb_accepted plans (Prove r) reply about short ascend shown due = prove_accepted r reply.answer about ascend shown due.0
    verb_accepted plans (Eliminate rates) reply about short ascend shown due = eliminate_accepted rates reply.answer about shown due.0
    verb_accepted plans (Contain first second tries) reply about short ascend shown due = contain_accepted plans first second tries
        reply.answer reply.found short about ascend shown due

pub right_accepted : (allowed : FileLimits) → ReadsBack → (budgets : Budgets) (plans : List Plan) (q : QuestionView) (reply : Reply)
    → IfSome budgets.effort.pivots (λ n. n < 2 ^ 32) → budgets.tries < 2 ^ 32 → length q.text ≤ 1048577 → IsFileWithin allowed q.text (q ∷ [])
    → IsRightAnswer budgets plans q.body reply → IsAccepted allowed (answer_text q.text q.body.names reply.answer)
right_accepted allowed back budgets plans q reply few tries short file right = verb_accepted allowed back q short file
    (budgets_under (problem_of q.body) budgets)
    (subst (λ (pivots : Option ℕ). IfSome pivots (λ n. n < 2 ^ 32)) (sym (same_pivots (problem_of q.body) budgets.effort)) few) plans q.body.verb reply
    refl tries (a_yes_ascends budgets plans q.body reply right) right.shows right.due
