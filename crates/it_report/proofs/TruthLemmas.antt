-- The claim of a valid line is true.
use Rattle.std.proofs.Common.{◌≡◌, ℕ, zero, suc, ◌<◌, ℤ, pos, neg_ℤ, ◌≤ℤ◌, List, [], ◌∷◌, map, length, get_or, Bool, Some, Ok, All, refl, sym, subst, ◌∙◌, arith}
use Rattle.std.proofs.lemmas.List.Elements.{All-nil, All-cons}
use Rattle.std.proofs.lemmas.List.{length-map}
use Rattle.it_space.specs.declared.spaces.Space.{Space}
use Rattle.it_space.specs.Answers.{AnswerView, CertificateView}
use Rattle.it_space.specs.Answers.AnswerView.{Yes, No, Undecided, Region, Contained, Open}
use Rattle.it_problems.specs.Problems.{ProblemView, AreMet}
use Rattle.it_space.specs.Rows.{Terms, point_of}
use Rattle.it_space.specs.Spaces.{size_of}
use Rattle.it_space.proofs.OptionLemmas.{some_same}
use Rattle.it_polymatroid.specs.Certificates.{Form}
use Rattle.it_polymatroid.specs.Polymatroid.{IsPolymatroid}
use Rattle.it_syntax.specs.Meaning.{RelationView, common_denominator, side_at}
use Rattle.it_question.specs.declared.sizes.FileLimits.{FileLimits}
use Rattle.it_question.specs.Limits.{IsQuestion}
use Rattle.it_question.specs.OwnLines.{RegionView}
use Rattle.it_question.specs.Questions.{BodyView, VerbView, Prove, Eliminate, Contain}
use Rattle.it_question.proofs.NumberLemmas.{QuestionHasSmallNumbers}
use Rattle.it_demand.specs.Canonical.{form_of}
use Rattle.it_demand.specs.Targets.{targets}
use Rattle.it_demand.specs.QuestionSpaces.{space_of}
use Rattle.it_question.specs.ProblemLines.{problem_names, names_under, problem_lines, lines_under}
use Rattle.it_canon.specs.TrueLines.{variable_count, AreTrueAt}
use Rattle.it_canon.specs.QuestionDemands.{problem_of, terms_in, IsProblemOf}
use Rattle.it_canon.proofs.ExistenceLemmas.{question_poses, relation_rows}
use Rattle.it_demand.proofs.MetLemmas.{targets_met}
use Rattle.it_canon.proofs.ProblemLemmas.{question_met}
use Rattle.it_region.specs.Obligations.{obligations, IsPulledRow, ArePulledRows}
use Rattle.it_region.specs.Regions.{LiesIn}
use Rattle.it_region.proofs.ExistenceLemmas.{obligation_rows_there}
use Rattle.it_region.proofs.RegionLemmas.{obligations_contain}
use Rattle.it_region.proofs.TextLemmas.{rows_as_pulled}
use Rattle.it_certificate.specs.AnswerShapes.{HasQuestionShape, HasContainmentShape}
use Rattle.it_certificate.specs.CodeReading.{ReportedCodeView}
use Rattle.it_certificate.specs.Reports.{Answered, Coded, Derived, ReadsReport}
use Rattle.it_certificate.specs.Sources.{IsSourceAt, IsSourceOf, Source, asked}
use Rattle.it_certificate.proofs.OneLemmas.{one_reading}
use Rattle.it_certificate.proofs.SourceNumbers.{source_limits, source_numbers}
use Rattle.it_check.specs.Meaning.{CertifiesRow, RefutesRow}
use Rattle.it_check.specs.declared.verdicts.Verdict.TheVariants.{Valid}
use Rattle.it_check.proofs.Truth.{valid_yes_is, valid_no_is, yes_is_true}
use Rattle.it_report.specs.RowVerdicts.{proof_verdict, proofs_verdict, point_verdict, place_named}
use Rattle.it_report.specs.LineVerdicts.{Judged}
use Rattle.it_report.specs.Judging.{answer_verdict, verdict_of, IsAnswerVerdict, IsCodedVerdict, IsReadingVerdict}
use Rattle.it_region.specs.AnswerForms.{answer_forms_by}
use Rattle.it_report.specs.Meaning.{IsClaimTrueBy, ValidCodeIsTrue, ValidIsTrue}
use Rattle.it_report.proofs.JudgingLemmas.{verb_fits, target_is_there, point_is_complete, parts_as_named}
use Rattle.it_report.proofs.CountLemmas.{obligations_counted, targets_counted}
use Rattle.it_report.proofs.OneLemmas.{same_read}
use Rattle.it_report.proofs.ReadingLemmas.{answer_is, coded_is, derived_is}
use Rattle.it_report.proofs.VerdictLemmas.{both_valid}

-- ---- the question that an answer is about

pub fits_question : (limits : FileLimits) (line : List ℕ) (source : Source) (a : AnswerView) → ReadsReport limits line (Ok (Answered source a))
    → HasQuestionShape (asked source).body a
fits_question limits line source a h = (answer_is h.reads.own h.value source a h.reads.is).1

-- the line's value is about the source of its reading
pub source_read : (limits : FileLimits) (line : List ℕ) (source : Source) (a : AnswerView) (h : ReadsReport limits line (Ok (Answered source a)))
    → IsSourceOf limits h.value source
source_read limits line source a h = subst (IsSourceAt limits h.value) (answer_is h.reads.own h.value source a h.reads.is).0 h.reads.source

-- the question that a line asks keeps the limits and has small numbers
pub limits_question : (limits : FileLimits) (line : List ℕ) (source : Source) (a : AnswerView) → ReadsReport limits line (Ok (Answered source a))
    → IsQuestion (asked source).body
limits_question limits line source a h = source_limits limits h.value source (source_read limits line source a h)

pub small_numbers : (limits : FileLimits) (line : List ℕ) (source : Source) (a : AnswerView) → ReadsReport limits line (Ok (Answered source a))
    → QuestionHasSmallNumbers (asked source).body
small_numbers limits line source a h = source_numbers limits h.value source (source_read limits line source a h)

pub coded_numbers : (limits : FileLimits) (line : List ℕ) (source : Source) (a : AnswerView) (c : ReportedCodeView)
    → ReadsReport limits line (Ok (Coded source a c))
    → QuestionHasSmallNumbers (asked source).body
coded_numbers limits line source a c h = source_numbers limits h.value source (subst (IsSourceAt limits h.value)
    (coded_is h.reads.own h.value source a c h.reads.is).0 h.reads.source)

pub derived_numbers : (limits : FileLimits) (line : List ℕ) (source : Source) (a : AnswerView) (ws : List CertificateView)
    → ReadsReport limits line (Ok (Derived source a ws)) → QuestionHasSmallNumbers (asked source).body
derived_numbers limits line source a ws h = source_numbers limits h.value source (subst (IsSourceAt limits h.value)
    (derived_is h.reads.own h.value source a ws h.reads.is).0 h.reads.source)

-- ---- valid certificates

-- the row at a place is that of the form there
pulled_row_at : (s : Space) (fs : List Form) (ts : List Terms) (i : ℕ) (f : Form) → ArePulledRows s fs ts → i < length ts
    → IsPulledRow s (get_or fs i f) (get_or ts i [])
pulled_row_at s [] [] i f h k = absurd (omega arith)
pulled_row_at s [] (t ∷ ts) i f h k = absurd h
pulled_row_at s (g ∷ fs) [] i f h k = absurd h
pulled_row_at s (g ∷ fs) (t ∷ ts) zero f h k = h.0
pulled_row_at s (g ∷ fs) (t ∷ ts) (suc i) f h k = pulled_row_at s fs ts i f h.1 (omega arith)

module _ (q : BodyView) (p : ProblemView) (is : IsProblemOf q p) where
  to_problem : (P : Space → Type 0) → P (space_of (problem_names q)) → P p.space
  to_problem P x = subst P (sym is.space) x

  from_problem : (P : Space → Type 0) → P p.space → P (space_of (problem_names q))
  from_problem P x = subst P is.space x

  module _ (m : ℕ → ℤ) (h : IsPolymatroid (variable_count q) m) (lines : AreTrueAt (variable_count q) m (problem_lines q)) where
    target_holds : (f : Form) (t : Terms) (w : CertificateView) → IsPulledRow p.space f t → proof_verdict p t w ≡ Valid → pos 0 ≤ℤ f m
    target_holds f t w row e =
        let met : AreMet m p.constraints = (question_met q p.space p.constraints is.space is.constraints m h.empty).1
        (to_problem (λ s. AreTrueAt s.variables m (problem_lines q)) lines) in
        let by : CertifiesRow p t w = ((valid_yes_is p t w is.limits row.coordinates).0 e).0 in
        subst (λ (x : ℤ). pos 0 ≤ℤ x) (row.same m h.empty) (yes_is_true p t w is.limits row.coordinates by m
        (to_problem (λ s. IsPolymatroid s.variables m) h) met)

    -- forms of which each has a valid certificate are at least 0 at the polymatroid
    all_hold : (fs : List Form) (ts : List Terms) (ws : List CertificateView) → ArePulledRows p.space fs ts → length ws ≡ length fs
        → proofs_verdict p ts ws ≡ Valid → All (λ f. pos 0 ≤ℤ f m) fs
    unfolding proofs_verdict
    all_hold [] [] ws z l e = All-nil (λ (f : Form). pos 0 ≤ℤ f m)
    all_hold [] (t ∷ ts) ws z l e = absurd z
    all_hold (f ∷ fs) [] ws z l e = absurd z
    all_hold (f ∷ fs) (t ∷ ts) [] z l e = absurd (omega (arith, l))
    all_hold (f ∷ fs) (t ∷ ts) (w ∷ ws) z l e =
        let c = both_valid (proof_verdict p t w) (proofs_verdict p ts ws) e in
        All-cons (λ (f : Form). pos 0 ≤ℤ f m) f fs (target_holds f t w z.0 c.0) (all_hold fs ts ws z.1 (omega (arith, l)) c.1)

  yes_true : (r : RelationView) (ts : List Terms) (ws : List CertificateView) → ArePulledRows p.space (targets (variable_count q) r) ts
      → length ws ≡ length (targets (length q.names.variables) r) → proofs_verdict p ts ws ≡ Valid → IsClaimTrueBy q (Prove r) (Yes ws)
  yes_true r ts ws are l e m t =
      (targets_met r.sign (side_at (variable_count q) m (common_denominator r) r.left)
      (side_at (variable_count q) m (common_denominator r) r.right) (form_of (variable_count q) r) m refl).0
      (all_hold m t.0 t.1 (targets (variable_count q) r) ts ws are (l ∙ targets_counted (length q.names.variables) (variable_count q) r) e)

  no_true : (r : RelationView) (ts : List Terms) (back : Bool) (values : List ℤ) → ArePulledRows p.space (targets (variable_count q) r) ts
      → length values ≡ size_of p.space → place_named back < length ts
      → point_verdict p ts back values ≡ Valid → IsClaimTrueBy q (Prove r) (No back values)
  unfolding point_verdict
  no_true r ts back values are l there e =
      let i = place_named back in
      let row = pulled_row_at p.space (targets (variable_count q) r) ts i (λ m. pos 0) are there in
      let t = get_or ts i [] in
      let refuted : RefutesRow p t values = ((valid_no_is p t values is.limits row.coordinates l).0 e).0 in (
        (
          from_problem (λ s. IsPolymatroid s.variables (point_of values)) refuted.polymatroid,
          from_problem (λ s. AreTrueAt s.variables (point_of values) (problem_lines q))
              ((question_met q p.space p.constraints is.space is.constraints (point_of values) refl).0 refuted.met),
        ),
        subst (λ (x : ℤ). x ≤ℤ neg_ℤ (pos 1)) (row.same (point_of values) refl) refuted.violated,
      )

  -- the first region's points are those of the problem
  contained_true : (first second : RegionView) (tries : List (List ℕ)) (parts : List ℕ) (ts : List Terms) (ws : List CertificateView)
      → q.verb ≡ Contain first second tries → IsQuestion q
      → ArePulledRows p.space (obligations q first second parts) ts → HasContainmentShape first second parts ws
      → proofs_verdict p ts ws ≡ Valid → LiesIn q first second
  contained_true first second tries parts ts ws about k are fits e =
      obligations_contain q first second tries parts k about (parts_as_named first second parts ws fits)
      (λ m inside.
      let polymatroid : IsPolymatroid (variable_count q) m = subst (λ v. IsPolymatroid (length (names_under q.names v).variables) m)
      (sym about) inside.polymatroid in
      let lines : AreTrueAt (variable_count q) m (problem_lines q) = subst
      (λ v. AreTrueAt (length (names_under q.names v).variables) m (lines_under q.lines v)) (sym about) inside.lines_hold in
      all_hold m polymatroid lines (obligations q first second parts) ts ws are (fits.obligations ∙ sym (obligations_counted q first second parts)) e)

judged_true : (q : BodyView) (verb : VerbView) (a : AnswerView) → q.verb ≡ verb → IsQuestion q → QuestionHasSmallNumbers q
    → HasQuestionShape q a → verdict_of q a ≡ Some Valid → IsClaimTrueBy q verb a
judged_true q (Prove r) a about k small fits e =
    by_answer a fits (subst (λ v. answer_verdict (problem_of q) (map (terms_in q) (answer_forms_by q v a)) a ≡ Some Valid) about e)
  where
    is : IsProblemOf q (problem_of q)
    is = question_poses q k small

    are : ArePulledRows (space_of (problem_names q)) (targets (variable_count q) r) (map (terms_in q) (targets (variable_count q) r))
    are = rows_as_pulled (space_of (problem_names q)) (targets (variable_count q) r) (map (terms_in q) (targets (variable_count q) r))
        (relation_rows q k small r about)

    by_answer : (a : AnswerView) → HasQuestionShape q a → answer_verdict (problem_of q) (map (terms_in q) (targets (variable_count q) r)) a
        ≡ Some Valid → IsClaimTrueBy q (Prove r) a
    by_answer (Yes ws) fits e = yes_true q (problem_of q) is r (map (terms_in q) (targets (variable_count q) r)) ws are
        (verb_fits q (Yes ws) (Prove r) about fits).0
        (some_same (proofs_verdict (problem_of q) (map (terms_in q) (targets (variable_count q) r)) ws) Valid e)
    by_answer (No back values) fits e = no_true q (problem_of q) is r (map (terms_in q) (targets (variable_count q) r)) back values are
        (point_is_complete q r about back values (space_of (problem_names q)) refl fits)
        (target_is_there q r about back values (variable_count q) (map (terms_in q) (targets (variable_count q) r))
        (length-map (targets (variable_count q) r) (terms_in q)) fits)
        (some_same (point_verdict (problem_of q) (map (terms_in q) (targets (variable_count q) r)) back values) Valid e)
    by_answer (Undecided cause) fits e = tt
    by_answer (Region rows) fits e = tt
    by_answer (Contained parts proofs) fits e = tt
    by_answer (Open tried) fits e = tt
judged_true q (Eliminate rates) a about k small fits e = tt
judged_true q (Contain first second tries) a about k small fits e =
    by_answer a fits (subst (λ v. answer_verdict (problem_of q) (map (terms_in q) (answer_forms_by q v a)) a ≡ Some Valid) about e)
  where
    by_answer : (a : AnswerView) → HasQuestionShape q a
        → answer_verdict (problem_of q) (map (terms_in q) (answer_forms_by q (Contain first second tries) a)) a ≡ Some Valid
        → IsClaimTrueBy q (Contain first second tries) a
    by_answer (Yes ws) fits e = tt
    by_answer (No back values) fits e = tt
    by_answer (Undecided cause) fits e = tt
    by_answer (Region rows) fits e = tt
    by_answer (Contained parts ws) fits e =
        let shape = verb_fits q (Contained parts ws) (Contain first second tries) about fits in
        let rows = map (terms_in q) (obligations q first second parts) in
        contained_true q (problem_of q) (question_poses q k small) first second tries parts rows ws about k
        (obligation_rows_there q k small first second tries about parts (parts_as_named first second parts ws shape)) shape
        (some_same (proofs_verdict (problem_of q) rows ws) Valid e)
    by_answer (Open tried) fits e = tt

pub valid_is_true : ValidIsTrue
valid_is_true limits line names source a h reads =
    let e : h.reading ≡ Answered source a = same_read h.reading (Answered source a)
    (one_reading limits line (Ok h.reading) (Ok (Answered source a)) h.reads reads) in
    let judged : IsAnswerVerdict (asked source).body a (Judged names Valid) = subst (λ x. IsReadingVerdict x (Judged names Valid)) e h.verdict in
    judged_true (asked source).body (asked source).body.verb a refl (limits_question limits line source a reads)
    (small_numbers limits line source a reads) (fits_question limits line source a reads) judged.1

-- a valid no with a code
pub valid_code_is_true : ValidCodeIsTrue
valid_code_is_true limits line names source back values c h reads =
    let e : h.reading ≡ Coded source (No back values) c = same_read h.reading (Coded source (No back values) c)
    (one_reading limits line (Ok h.reading) (Ok (Coded source (No back values) c)) h.reads reads) in
    let judged : IsCodedVerdict (asked source).body (No back values) c (Judged names Valid) = subst
    (λ y. IsReadingVerdict y (Judged names Valid)) e h.verdict in
    let read = coded_is reads.reads.own reads.value source (No back values) c reads.reads.is in
    let own : IsSourceOf limits reads.value source = subst (IsSourceAt limits reads.value) read.0 reads.reads.source in (
      judged_true (asked source).body (asked source).body.verb (No back values) refl (source_limits limits reads.value source own)
          (source_numbers limits reads.value source own) read.1.answered judged.1,
      read.1.code.variables,
      read.1.code.times,
      judged.2 refl,
    )
