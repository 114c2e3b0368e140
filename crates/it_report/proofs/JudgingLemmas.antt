-- The line about a report's line, step by step as the code forms it.
use Rattle.std.proofs.Common.{◌≡◌, ℕ, ℤ, lit<, ◌+◌, ◌-◌, ◌^◌, ◌<◌, ◌≤◌, List, length, take, Bool, true, false, Option, Some, None, option_and_then, Result, Ok, Err, IfOk, refl, sym, ap, ap₂, ◌∙◌, subst, arith, map, All}
use Rattle.std.specs.Prelude.{is_some, not}
use Rattle.std.proofs.lemmas.Bool.{true≢false}
use Rattle.std.proofs.lemmas.List.Elements.{All-weaker}
use Rattle.std.proofs.lemmas.Nat.{pow_pos}
use Rattle.it_space.specs.declared.spaces.Space.{Space}
use Rattle.it_space.specs.Answers.{AnswerView, CertificateView, answer_view, certificate_view}
use Rattle.it_space.specs.Answers.AnswerView.{Yes, No, Undecided, Region, Contained, Open}
use Rattle.it_problems.specs.Problems.{ProblemView}
use Rattle.it_space.specs.Rows.{IsOver, Terms}
use Rattle.it_space.proofs.EveryLemmas.{all_of, every_of, every-map, every-same}
use Rattle.it_space.specs.Spaces.{size_of}
use Rattle.it_polymatroid.specs.Certificates.{Form}
use Rattle.it_syntax.specs.Meaning.{RelationView}
use Rattle.it_syntax.specs.NamesViews.{NamesView}
use Rattle.it_syntax.specs.declared.types.Sign.{Sign}
use Rattle.it_syntax.specs.declared.types.Sign.TheVariants.{AtLeast, AtMost, Equal}
use Rattle.it_question.specs.declared.sizes.FileLimits.{FileLimits}
use Rattle.it_question.specs.Limits.{IsQuestion}
use Rattle.it_question.specs.OwnLines.{RegionView}
use Rattle.it_question.specs.Questions.{BodyView, QuestionView, VerbView, Prove, Eliminate, Contain}
use Rattle.it_demand.specs.Canonical.{IsRowOf, form_of}
use Rattle.it_elemental.specs.Generators.{is_equation}
use Rattle.it_demand.specs.Demands.{kind_of}
use Rattle.it_demand.specs.Origins.{AreStated}
use Rattle.it_demand.specs.Targets.{targets, inequalities_of}
use Rattle.it_demand.specs.SystemForms.{AreRowsOf}
use Rattle.it_demand.specs.QuestionSpaces.{space_of}
use Rattle.it_question.specs.ProblemLines.{problem_names, names_under}
use Rattle.it_canon.specs.QuestionDemands.{problem_of, question_demands, question_origins, IsProblemOf, terms_in}
use Rattle.it_region.specs.declared.types.Candidate.{Candidate}
use Rattle.it_region.specs.declared.types.Pair.{Pair}
use Rattle.it_region.specs.Obligations.{obligations, IsSubstitution, ArePulledRows}
use Rattle.it_region.specs.Pairs.{IsPair, IsPairOf, Pairs, IsContainment, FitsPair, pair_obligations}
use Rattle.it_region.proofs.TextLemmas.{text_rows, parts_fit, rows_as_pulled, pulled_rows_are}
use Rattle.it_certificate.specs.AnswerShapes.{HasQuestionShape, HasVerbShape, HasContainmentShape, IsRowIn}
use Rattle.it_certificate.specs.Bounds.{BoundsView, bounds_view}
use Rattle.it_certificate.specs.CodeReading.{HasCodedShape, IsNo, ReportedCodeView}
use Rattle.it_codes.specs.Codes.{AreEntropies, IsFirstOther, variables_of}
use Rattle.it_certificate.specs.declared.keys.Key.{Key}
use Rattle.it_certificate.specs.declared.keys.ReportFault.{ReportFault}
use Rattle.it_certificate.specs.OriginReading.{IsRegion, rows_of}
use Rattle.it_certificate.specs.Reports.{Answered, Bounded, Coded, Derived, Factored, IsReported, Misfit, ReadsReport, Reading, Reports}
use Rattle.it_certificate.specs.Sources.{asked}
use Rattle.it_certificate.specs.declared.types.Reported.{Reported}
use Rattle.it_certificate.specs.declared.types.Reported.TheVariants as variants
use Rattle.it_check.specs.declared.verdicts.Verdict.{Verdict}
use Rattle.it_check.specs.declared.verdicts.Verdict.TheVariants.{Valid}
use Rattle.it_region.proofs.PairLemmas.{pair_of_verb}
use Rattle.it_report.specs.RowVerdicts.{is_valid, place_named, point_verdict}
use Rattle.it_report.proofs.VerdictLemmas.{only_valid}
use Rattle.it_report.specs.LineVerdicts.{LineVerdict, NotJson, Shape, Skipped, Judged, Weighed, OtherCode, Hulled, IsLineOf}
use Rattle.it_ratio.specs.BestViews.{BestView, best_view}
use Rattle.it_ratio.specs.Truth.{asked_by, at_least}
use Rattle.it_report.specs.declared.factors.FactorVerdict.{FactorVerdict}
use Rattle.it_report.specs.Judging.{answer_verdict, factor_line_verdict, factor_verdict_of, values_of, verdict_of, weighed_by, IsAnswerVerdict, IsBoundsVerdict, IsCodedVerdict, IsDerivedVerdict, IsReadingVerdict, IsVerdict, IsJudgedLine, IsJudgedWhereRead}
use Rattle.it_report.specs.FactorVerdicts.{best_verdict}
use Rattle.it_report.specs.Steps.{IsAboutRelation, IsFaultLine, IsJudgedAnswer, IsJudgedBounds, IsJudgedCoded, IsJudgedDerived, IsJudgedReport}
use Rattle.it_demand.specs.RowsOfForms.{terms_of_form}
use Rattle.it_demand.proofs.FormRows.{row_is_terms_of_form}
use Rattle.it_canon.specs.Sides.{left_form, right_form}
use Rattle.it_canon.specs.TrueLines.{variable_count}
use Rattle.it_canon.proofs.PosesLemmas.{one_problem}
use Rattle.it_region.specs.AnswerForms.{answer_forms_by, answer_forms}
use Rattle.it_certificate.specs.declared.keys.ReportFault.TheVariants as faults

-- ---- lines

not_json : (q : BodyView) (o : Option FactorVerdict) → NotJson ≡ weighed_by q o → ⊥
not_json q None e = cc
not_json q (Some v) e = cc

no_shape : (key : Key) (q : BodyView) (o : Option FactorVerdict) → Shape key ≡ weighed_by q o → ⊥
no_shape key q None e = cc
no_shape key q (Some v) e = cc

pub read_verdict : (limits : FileLimits) (line : List ℕ) (reading : Reading) (v : LineVerdict) → ReadsReport limits line (Ok reading)
    → IsReadingVerdict reading v → IsVerdict limits line v
read_verdict limits line (Answered source a) NotJson h is = absurd is
read_verdict limits line (Answered source a) (Shape key) h is = absurd is
read_verdict limits line (Coded source a c) NotJson h is = absurd is
read_verdict limits line (Coded source a c) (Shape key) h is = absurd is
read_verdict limits line (Derived source a ws) NotJson h is = absurd cc
read_verdict limits line (Derived source a ws) (Shape key) h is = absurd cc
read_verdict limits line (Factored source b) NotJson h is = absurd (not_json (asked source).body
    (option_and_then (λ r. factor_verdict_of (asked source).body r b) (asked_by (asked source).body.verb)) is)
read_verdict limits line (Factored source b) (Shape key) h is = absurd (no_shape key (asked source).body
    (option_and_then (λ r. factor_verdict_of (asked source).body r b) (asked_by (asked source).body.verb)) is)
read_verdict limits line (Bounded source b) NotJson h is = absurd is
read_verdict limits line (Bounded source b) (Shape key) h is = absurd is
read_verdict limits line Misfit NotJson h is = absurd cc
read_verdict limits line Misfit (Shape key) h is = absurd cc
read_verdict limits line reading Skipped h is = record { reading = reading; reads = h; verdict = is }
read_verdict limits line reading (Judged names v) h is = record { reading = reading; reads = h; verdict = is }
read_verdict limits line reading (Weighed names v) h is = record { reading = reading; reads = h; verdict = is }
read_verdict limits line reading (OtherCode names s) h is = record { reading = reading; reads = h; verdict = is }
read_verdict limits line reading (Hulled v) h is = record { reading = reading; reads = h; verdict = is }

-- ---- a no with a code

not_invalid : (b : Bool) → not b ≡ false → b ≡ true
not_invalid true e = refl
not_invalid false e = absurd (true≢false e)

not_valid : (v : Verdict) → v ≡ Valid → not (is_valid v) ≡ true → ⊥
not_valid v valid invalid = true≢false (sym invalid ∙ ap (λ w. not (is_valid w)) valid)

none_is_some : (v : Verdict) → Some v ≡ None → ⊥
none_is_some v e = cc

-- a no is judged
pub has_a_verdict : (q : BodyView) (a : AnswerView) → IsNo a → verdict_of q a ≡ None → ⊥
has_a_verdict q (Yes ws) is_no none = absurd is_no
has_a_verdict q (No back values) is_no none = none_is_some (point_verdict (problem_of q) (map (terms_in q) (answer_forms q (No back values))) back values) none
has_a_verdict q (Undecided cause) is_no none = absurd is_no
has_a_verdict q (Region rows) is_no none = absurd is_no
has_a_verdict q (Contained parts ws) is_no none = absurd is_no
has_a_verdict q (Open tried) is_no none = absurd is_no

-- a no whose line doesn't say `invalid` is valid
is_valid_no : (k : ℕ) (q : BodyView) (a : AnswerView) (t : List ℕ) (i : Bool) → IsNo a → i ≡ false → IsJudgedAnswer k q a t i → verdict_of q a ≡ Some Valid
is_valid_no k q a t i is_no valid judged = by_verdict judged.verdict judged.is judged.told
  where
    by_verdict : (v : LineVerdict) → IsAnswerVerdict q a v → IsLineOf k v t i → verdict_of q a ≡ Some Valid
    by_verdict (Judged names v) is told = is.1 ∙ ap Some (only_valid v (not_invalid (is_valid v) (sym told.1 ∙ valid)))
    by_verdict Skipped is told = absurd (has_a_verdict q a is_no is)
    by_verdict NotJson is told = absurd is
    by_verdict (Shape key) is told = absurd is
    by_verdict (Weighed names v) is told = absurd is
    by_verdict (OtherCode names s) is told = absurd is
    by_verdict (Hulled v) is told = absurd is

-- a no that isn't valid has the same verdict with a code
pub invalid_coded : (k : ℕ) (q : BodyView) (a : AnswerView) (c : ReportedCodeView) (t : List ℕ) (i : Bool) → IsNo a → i ≡ true
    → IsJudgedAnswer k q a t i → IsJudgedCoded k q a c t i
invalid_coded k q a c t i is_no invalid judged = by_verdict judged.verdict judged.is judged.told
  where
    by_verdict : (v : LineVerdict) → IsAnswerVerdict q a v → IsLineOf k v t i → IsJudgedCoded k q a c t i
    by_verdict (Judged names v) is told = record {
      verdict = Judged names v;
      is
          = (is.0, is.1, λ valid. absurd (not_valid v valid (sym told.1 ∙ invalid)));
      told = told;
    }
    by_verdict Skipped is told = absurd (true≢false (sym invalid ∙ told.1))
    by_verdict NotJson is told = absurd is
    by_verdict (Shape key) is told = absurd is
    by_verdict (Weighed names v) is told = absurd is
    by_verdict (OtherCode names s) is told = absurd is
    by_verdict (Hulled v) is told = absurd is

-- a no that is valid and whose point is of the code is valid with the code
pub valid_coded : (k : ℕ) (q : BodyView) (a : AnswerView) (c : ReportedCodeView) (t : List ℕ) (i : Bool) → IsNo a → i ≡ false
    → IsJudgedAnswer k q a t i → AreEntropies c.code c.times (values_of a) → IsJudgedCoded k q a c t i
valid_coded k q a c t i is_no valid judged all = by_verdict judged.verdict judged.is judged.told
  where
    by_verdict : (v : LineVerdict) → IsAnswerVerdict q a v → IsLineOf k v t i → IsJudgedCoded k q a c t i
    by_verdict (Judged names v) is told = record { verdict = Judged names v; is = (is.0, is.1, λ valid. all); told = told }
    by_verdict Skipped is told = absurd (has_a_verdict q a is_no is)
    by_verdict NotJson is told = absurd is
    by_verdict (Shape key) is told = absurd is
    by_verdict (Weighed names v) is told = absurd is
    by_verdict (OtherCode names s) is told = absurd is
    by_verdict (Hulled v) is told = absurd is

line_is_judged : (limits : FileLimits) (k : ℕ) (line text : List ℕ) (invalid : Bool) (reported : Reported) → Reports limits line (Ok reported)
    → IsJudgedReport k reported text invalid → IsJudgedLine limits k line text invalid
line_is_judged limits k line text invalid reported h judged = by_reading h.0 reported h.1 h.2 judged
  where
    by_reading : (reading : Reading) (reported : Reported) → IsReported reading reported → ReadsReport limits line (Ok reading)
        → IsJudgedReport k reported text invalid → IsJudgedLine limits k line text invalid
    by_reading (Answered source a) (variants.Answered question answer) same h judged =
        let verdict : IsAnswerVerdict (asked source).body a judged.verdict =
        subst (λ b. IsAnswerVerdict (asked source).body b judged.verdict) (sym same.1)
        (subst (λ (q : QuestionView). IsAnswerVerdict q.body (answer_view answer) judged.verdict) (sym same.0) judged.is) in
        record { verdict = judged.verdict; is = read_verdict limits line (Answered source a) judged.verdict h verdict; told = judged.told }
    by_reading (Answered source a) (variants.Coded question answer code) same h judged = absurd same
    by_reading (Answered source a) (variants.Derived question answer origins) same h judged = absurd same
    by_reading (Answered source a) (variants.Factored question best) same h judged = absurd same
    by_reading (Answered source a) (variants.Bounded question bounds) same h judged = absurd same
    by_reading (Answered source a) variants.Misfit same h judged = absurd same
    by_reading (Coded source a c) (variants.Answered question answer) same h judged = absurd same
    by_reading (Coded source a c) (variants.Coded question answer code) same h judged =
        let verdict : IsCodedVerdict (asked source).body a c judged.verdict =
        subst (λ x. IsCodedVerdict (asked source).body a x judged.verdict) (sym same.2)
        (subst (λ x. IsCodedVerdict (asked source).body x code judged.verdict) (sym same.1)
        (subst (λ (q : QuestionView). IsCodedVerdict q.body (answer_view answer) code judged.verdict) (sym same.0) judged.is)) in
        record { verdict = judged.verdict; is = read_verdict limits line (Coded source a c) judged.verdict h verdict; told = judged.told }
    by_reading (Coded source a c) (variants.Derived question answer origins) same h judged = absurd same
    by_reading (Coded source a c) (variants.Factored question best) same h judged = absurd same
    by_reading (Coded source a c) (variants.Bounded question bounds) same h judged = absurd same
    by_reading (Coded source a c) variants.Misfit same h judged = absurd same
    by_reading (Derived source a ws) (variants.Answered question answer) same h judged = absurd same
    by_reading (Derived source a ws) (variants.Coded question answer code) same h judged = absurd same
    by_reading (Derived source a ws) (variants.Derived question answer origins) same h judged =
        let verdict : IsDerivedVerdict (asked source).body a ws judged.verdict =
        subst (λ x. IsDerivedVerdict (asked source).body a x judged.verdict) (sym same.2)
        (subst (λ x. IsDerivedVerdict (asked source).body x (map certificate_view origins.items) judged.verdict) (sym same.1)
        (subst (λ (q : QuestionView). IsDerivedVerdict q.body (answer_view answer) (map certificate_view origins.items) judged.verdict)
        (sym same.0) judged.is)) in
        record { verdict = judged.verdict; is = read_verdict limits line (Derived source a ws) judged.verdict h verdict; told = judged.told }
    by_reading (Derived source a ws) (variants.Factored question best) same h judged = absurd same
    by_reading (Derived source a ws) (variants.Bounded question bounds) same h judged = absurd same
    by_reading (Derived source a ws) variants.Misfit same h judged = absurd same
    by_reading (Factored source b) (variants.Answered question answer) same h judged = absurd same
    by_reading (Factored source b) (variants.Coded question answer code) same h judged = absurd same
    by_reading (Factored source b) (variants.Derived question answer origins) same h judged = absurd same
    by_reading (Factored source b) (variants.Factored question best) same h judged =
        let v = factor_line_verdict question.body (best_view best) in
        let told : v ≡ factor_line_verdict (asked source).body b = ap₂ (λ (q : QuestionView) (x : BestView). factor_line_verdict q.body x)
        (sym same.0) (sym same.1) in
        record { verdict = factor_line_verdict question.body (best_view best); is = read_verdict limits line (Factored source b) v h told; told = judged }
    by_reading (Factored source b) (variants.Bounded question bounds) same h judged = absurd same
    by_reading (Factored source b) variants.Misfit same h judged = absurd same
    by_reading (Bounded source b) (variants.Answered question answer) same h judged = absurd same
    by_reading (Bounded source b) (variants.Coded question answer code) same h judged = absurd same
    by_reading (Bounded source b) (variants.Derived question answer origins) same h judged = absurd same
    by_reading (Bounded source b) (variants.Factored question best) same h judged = absurd same
    by_reading (Bounded source b) (variants.Bounded question bounds) same h judged =
        let verdict : IsBoundsVerdict (asked source).body b judged.verdict =
        subst (λ c. IsBoundsVerdict (asked source).body c judged.verdict) (sym same.1)
        (subst (λ (q : QuestionView). IsBoundsVerdict q.body (bounds_view bounds) judged.verdict) (sym same.0) judged.is) in
        record { verdict = judged.verdict; is = read_verdict limits line (Bounded source b) judged.verdict h verdict; told = judged.told }
    by_reading (Bounded source b) variants.Misfit same h judged = absurd same
    by_reading Misfit (variants.Answered question answer) same h judged = absurd same
    by_reading Misfit (variants.Coded question answer code) same h judged = absurd same
    by_reading Misfit (variants.Derived question answer origins) same h judged = absurd same
    by_reading Misfit (variants.Factored question best) same h judged = absurd same
    by_reading Misfit (variants.Bounded question bounds) same h judged = absurd same
    by_reading Misfit variants.Misfit same h judged = record { verdict = Skipped; is = read_verdict limits line Misfit Skipped h refl; told = judged }

module _ {L E : Type 0} (text : L → List ℕ) (invalid : L → Bool) (k : ℕ) where
  -- the line about a fault is that of each line that has it
  pub fault_is_judged : (fault : ReportFault) (r : Result L E) → IfOk r (λ j. IsFaultLine k fault (text j) (invalid j))
      → IfOk r (λ j. IsJudgedWhereRead k (Err fault) (text j) (invalid j))
  fault_is_judged faults.Memory (Ok j) told = absurd told
  fault_is_judged faults.NotJson (Ok j) told = λ limits line h. record { verdict = NotJson; is = h; told = told }
  fault_is_judged (faults.Shape key) (Ok j) told = λ limits line h. record { verdict = Shape key; is = h; told = told }
  fault_is_judged fault (Err e) told = tt

  pub fault_is_invalid : (fault : ReportFault) (r : Result L E) → IfOk r (λ j. IsFaultLine k fault (text j) (invalid j))
      → IfOk r (λ j. invalid j ≡ true)
  fault_is_invalid faults.Memory (Ok j) told = absurd told
  fault_is_invalid faults.NotJson (Ok j) told = told.1
  fault_is_invalid (faults.Shape key) (Ok j) told = told.1
  fault_is_invalid fault (Err e) told = tt

  -- the line about what was read is that of each line that reads so
  pub report_is_judged : (reported : Reported) (r : Result L E) → IfOk r (λ j. IsJudgedReport k reported (text j) (invalid j))
      → IfOk r (λ j. IsJudgedWhereRead k (Ok reported) (text j) (invalid j))
  report_is_judged reported (Ok j) judged = λ limits line h. line_is_judged limits k line (text j) (invalid j) reported h judged
  report_is_judged reported (Err e) judged = tt

  -- that of a line which reads so
  pub judged_as_read : (limits : FileLimits) (line : List ℕ) (read : Result Reported ReportFault) (r : Result L E) → Reports limits line read
      → IfOk r (λ j. IsJudgedWhereRead k read (text j) (invalid j)) → IfOk r (λ j. IsJudgedLine limits k line (text j) (invalid j))
  judged_as_read limits line read (Ok j) h judged = judged limits line h
  judged_as_read limits line read (Err e) h judged = tt

  pub verdict_is_told : (q : BodyView) (a : AnswerView) (names : NamesView) (v : Verdict) (r : Result L E)
      → IsAnswerVerdict q a (Judged names v) → IfOk r (λ j. IsLineOf k (Judged names v) (text j) (invalid j))
      → IfOk r (λ j. IsJudgedAnswer k q a (text j) (invalid j))
  verdict_is_told q a names v (Ok j) h told = record { verdict = Judged names v; is = h; told = told }
  verdict_is_told q a names v (Err e) h told = tt

  -- an answer without a verdict is skipped
  pub skipped_is_told : (q : BodyView) (a : AnswerView) (r : Result L E) → verdict_of q a ≡ None
      → IfOk r (λ j. IsLineOf k Skipped (text j) (invalid j)) → IfOk r (λ j. IsJudgedAnswer k q a (text j) (invalid j))
  skipped_is_told q a (Ok j) none told = record { verdict = Skipped; is = none; told = told }
  skipped_is_told q a (Err e) none told = tt

  -- the line about a valid no names the first set whose value is another by the code
  pub other_coded : (q : BodyView) (a : AnswerView) (c : ReportedCodeView) (t : List ℕ) (i : Bool) (names : NamesView) (s : ℕ)
      (r : Result L E) → IsNo a → i ≡ false → IsJudgedAnswer k q a t i → names ≡ problem_names q
      → IsFirstOther c.code c.times (values_of a) s → IfOk r (λ j. IsLineOf k (OtherCode names s) (text j) (invalid j))
      → IfOk r (λ j. IsJudgedCoded k q a c (text j) (invalid j))
  other_coded q a c t i names s (Ok j) is_no valid judged own first told = record
      { verdict = OtherCode names s; is = (own, is_valid_no k q a t i is_no valid judged, first); told = told }
  other_coded q a c t i names s (Err e) is_no valid judged own first told = tt

  pub derived_told : (q : BodyView) (a : AnswerView) (ws : List CertificateView) (v : LineVerdict) (r : Result L E)
      → IsDerivedVerdict q a ws v → IfOk r (λ j. IsLineOf k v (text j) (invalid j))
      → IfOk r (λ j. IsJudgedDerived k q a ws (text j) (invalid j))
  derived_told q a ws v (Ok j) is told = record { verdict = v; is = is; told = told }
  derived_told q a ws v (Err e) is told = tt

  pub bounds_told : (q : BodyView) (b : BoundsView) (v : LineVerdict) (r : Result L E) → IsBoundsVerdict q b v
      → IfOk r (λ j. IsLineOf k v (text j) (invalid j)) → IfOk r (λ j. IsJudgedBounds k q b (text j) (invalid j))
  bounds_told q b v (Ok j) is told = record { verdict = v; is = is; told = told }
  bounds_told q b v (Err e) is told = tt

-- a region is no claim that is judged
pub region_skipped : (q : BodyView) (a : AnswerView) → IsRegion a → IsAnswerVerdict q a Skipped
region_skipped q (Yes ws) is_region = absurd is_region
region_skipped q (No back values) is_region = absurd is_region
region_skipped q (Undecided cause) is_region = absurd is_region
region_skipped q (Region rows) is_region = refl
region_skipped q (Contained parts ws) is_region = absurd is_region
region_skipped q (Open tried) is_region = absurd is_region

-- ---- the question that an answer fits

pub verb_fits : (q : BodyView) (a : AnswerView) (verb : VerbView) → q.verb ≡ verb → HasQuestionShape q a → HasVerbShape q.names verb a
unfolding HasQuestionShape
verb_fits q a verb e h = subst (λ v. HasVerbShape q.names v a) e h

pub yes_is_about_relation : (q : BodyView) (ws : List CertificateView) → HasQuestionShape q (Yes ws) → IsAboutRelation q.verb
yes_is_about_relation q ws h = by_verb q.verb (verb_fits q (Yes ws) q.verb refl h)
  where
    by_verb : (verb : VerbView) → HasVerbShape q.names verb (Yes ws) → IsAboutRelation verb
    by_verb (Prove r) h = tt
    by_verb (Eliminate rates) h = absurd h
    by_verb (Contain first second tries) h = absurd h

pub no_is_about_relation : (q : BodyView) (back : Bool) (values : List ℤ) → HasQuestionShape q (No back values) → IsAboutRelation q.verb
no_is_about_relation q back values h = by_verb q.verb (verb_fits q (No back values) q.verb refl h)
  where
    by_verb : (verb : VerbView) → HasVerbShape q.names verb (No back values) → IsAboutRelation verb
    by_verb (Prove r) h = tt
    by_verb (Eliminate rates) h = absurd h
    by_verb (Contain first second tries) h = absurd h

pub contained_is_about_regions : (q : BodyView) (parts : List ℕ) (ws : List CertificateView) → HasQuestionShape q (Contained parts ws) → IsContainment q.verb
contained_is_about_regions q parts ws h = by_verb q.verb (verb_fits q (Contained parts ws) q.verb refl h)
  where
    by_verb : (verb : VerbView) → HasVerbShape q.names verb (Contained parts ws) → IsContainment verb
    by_verb (Prove r) h = absurd h
    by_verb (Eliminate rates) h = absurd h
    by_verb (Contain first second tries) h = tt

-- ---- the problem and the rows

pub has_verdict : (q : BodyView) (p : ProblemView) → IsProblemOf q p → (a : AnswerView) (ts : List Terms) (names : NamesView) (v : Verdict)
    → ArePulledRows p.space (answer_forms q a) ts → names ≡ problem_names q → answer_verdict p ts a ≡ Some v → IsAnswerVerdict q a (Judged names v)
has_verdict q p is a ts names v are own e =
    let rows : ts ≡ map (terms_in q) (answer_forms q a) =
    pulled_rows_are p.space (answer_forms q a) ts are ∙ ap (λ (s : Space). map (terms_of_form (size_of s)) (answer_forms q a)) is.space in
    (own, ap (λ x. answer_verdict x (map (terms_in q) (answer_forms q a)) a) (sym (one_problem q p is)) ∙ ap (λ us. answer_verdict p us a) (sym rows) ∙ e)

-- ---- factors

-- a coordinate of the problem's space by its names
pub size_named : (q : BodyView) (s : Space) (names : NamesView) → s ≡ space_of (problem_names q) → names ≡ problem_names q
    → size_of s + 1 ≡ 2 ^ length names.variables + length names.rates
size_named q s names own named = ap (λ (t : Space). size_of t + 1) own ∙ all (problem_names q)
    ∙ ap (λ (v : NamesView). 2 ^ length v.variables + length v.rates) (sym named)
  where
    all : (v : NamesView) → size_of (space_of v) + 1 ≡ 2 ^ length v.variables + length v.rates
    all v = omega (arith, pow_pos (length v.variables))

module _ (q : BodyView) (p : ProblemView) (is : IsProblemOf q p) (r : RelationView) (about : q.verb ≡ Prove r) where
  side_is : (form : ℕ → Form) (t : Terms) → IsRowOf p.space (form p.space.variables) t → t ≡ terms_in q (form (variable_count q))
  side_is form t row = row_is_terms_of_form p.space (form p.space.variables) t row ∙ ap (λ (s : Space). terms_of_form (size_of s) (form s.variables)) is.space

  relation_asked : is_some (asked_by q.verb) ≡ true → asked_by q.verb ≡ Some r
  relation_asked asks = ap asked_by about ∙ by_sign r.sign (subst (λ v. is_some (asked_by v) ≡ true) about asks)
    where
      by_sign : (sign : Sign) → is_some (at_least sign r) ≡ true → at_least sign r ≡ Some r
      by_sign AtLeast e = refl
      by_sign AtMost e = absurd (cc)
      by_sign Equal e = absurd (cc)

  -- the verdict by the rows that were formed is that by the text
  pub weighed_as_told : (best : BestView) (left right : Terms) (names : NamesView) (v : FactorVerdict) → is_some (asked_by q.verb) ≡ true
      → IsRowOf p.space (left_form p.space.variables r) left → IsRowOf p.space (right_form p.space.variables r) right
      → names ≡ problem_names q → best_verdict p left right best ≡ Some v
      → Weighed names v ≡ factor_line_verdict q best
  weighed_as_told best left right names v asks left_is right_is own e =
      ap (λ n. Weighed n v) own ∙ sym (ap (λ o. weighed_by q (option_and_then (λ s. factor_verdict_of q s best) o)) (relation_asked asks)
      ∙ ap (weighed_by q) by_rows)
    where
      by_rows : factor_verdict_of q r best ≡ Some v
      by_rows =
          ap (λ x. best_verdict x (terms_in q (left_form (variable_count q) r)) (terms_in q (right_form (variable_count q) r)) best) (sym (one_problem q p is))
          ∙ ap₂ (λ x y. best_verdict p x y best) (sym (side_is (λ n. left_form n r) left left_is)) (sym (side_is (λ n. right_form n r) right right_is))
          ∙ e

-- ---- a relation

module _ (q : BodyView) (r : RelationView) (about : q.verb ≡ Prove r) where
  relation_names : problem_names q ≡ q.names
  relation_names = ap (λ v. names_under q.names v) about

  -- the targets' rows
  pub target_rows_are : (a : AnswerView) (s : Space) (ts : List Terms) → s ≡ space_of (problem_names q)
      → AreRowsOf s (targets s.variables r) ts → ArePulledRows s (answer_forms q a) ts
  target_rows_are a s ts e are = rows_as_pulled s (answer_forms q a) ts
      (subst (λ fs. AreRowsOf s fs ts) (ap (λ n. targets n r) (ap (λ s. s.variables) e) ∙ sym (ap (λ v. answer_forms_by q v a) about)) are)

  pub point_is_complete : (back : Bool) (values : List ℤ) (s : Space) → s ≡ space_of (problem_names q) → HasQuestionShape q (No back values)
      → length values ≡ size_of s
  point_is_complete back values s e h = (verb_fits q (No back values) (Prove r) about h).0 ∙ sym (ap size_of (e ∙ ap space_of relation_names))

  one_target : (n : ℕ) → 0 < length (targets n r)
  one_target n = by_sign r.sign (form_of n r)
    where
      by_sign : (sign : Sign) (f : Form) → 0 < length (inequalities_of (kind_of sign) f)
      by_sign AtLeast f = lit< tt
      by_sign AtMost f = lit< tt
      by_sign Equal f = lit< tt

  two_targets : (n : ℕ) → is_equation (kind_of r.sign) ≡ true → 1 < length (targets n r)
  two_targets n = by_sign r.sign (form_of n r)
    where
      by_sign : (sign : Sign) (f : Form) → is_equation (kind_of sign) ≡ true → 1 < length (inequalities_of (kind_of sign) f)
      by_sign AtLeast f e = absurd (cc)
      by_sign AtMost f e = absurd (cc)
      by_sign Equal f e = lit< tt

  pub target_is_there : (back : Bool) (values : List ℤ) (n : ℕ) (ts : List Terms) → length ts ≡ length (targets n r)
      → HasQuestionShape q (No back values) → place_named back < length ts
  target_is_there back values n ts as_many h = by_test back (verb_fits q (No back values) (Prove r) about h).2
    where
      by_test : (back : Bool) → (back ≡ true → is_equation (kind_of r.sign) ≡ true) → place_named back < length ts
      by_test true equal = omega (arith, as_many, two_targets n (equal refl))
      by_test false equal = omega (arith, as_many, one_target n)

-- ---- a containment

pub parts_as_named : (first second : RegionView) (parts : List ℕ) (ws : List CertificateView) → HasContainmentShape first second parts ws
    → IsSubstitution first second parts
parts_as_named first second parts ws h = record {
  count = h.each;
  within = All-weaker (λ s. (s < 2 ^ 32) × (s < 2 ^ length first.names.variables)) (λ s. s < 2 ^ length first.names.variables) (λ s k. k.1) parts h.sets;
}

module _ (q : BodyView) (p : Pair) (parts : List ℕ) (ws : List CertificateView) (l : IsPair p) (pairs : Pairs q p)
    (fits : HasQuestionShape q (Contained parts ws)) where
  of_pair : (P : Type 0) → ((first second : RegionView) (tries : List (List ℕ)) → q.verb ≡ Contain first second tries
      → IsPairOf q first second p → IsSubstitution first second parts → P) → P
  of_pair P f = by_verb q.verb refl
    where
      by_verb : (verb : VerbView) → q.verb ≡ verb → P
      by_verb (Prove r) e = absurd (verb_fits q (Contained parts ws) (Prove r) e fits)
      by_verb (Eliminate rates) e = absurd (verb_fits q (Contained parts ws) (Eliminate rates) e fits)
      by_verb (Contain first second tries) e = f first second tries e (pair_of_verb q first second tries p e pairs)
          (parts_as_named first second parts ws (verb_fits q (Contained parts ws) (Contain first second tries) e fits))

  pub few_parts : length parts ≤ 4
  few_parts = of_pair (length parts ≤ 4) (λ first second tries e o h. omega (arith, h.count, o.parts, l.few_parts))

  pair_space : p.first.space ≡ space_of (problem_names q)
  pair_space = of_pair (p.first.space ≡ space_of (problem_names q)) (λ first second tries e o h. o.first_space
      ∙ sym (ap (λ v. space_of (names_under q.names v)) e))

  pub pair_problem : IsProblemOf q p.first
  pair_problem = record {
    space = pair_space;
    limits = l.problem;
    constraints = of_pair
        (AreStated p.first.space (question_origins q) (question_demands q) p.first.constraints) (λ first second tries e o h. o.first);
  }

  pub candidate_fits : (c : Candidate) → length c.parts ≡ 4 → c.count ≡ length parts → take c.count c.parts ≡ parts → FitsPair p c
  candidate_fits c four count same = of_pair (FitsPair p c) (λ first second tries e o h. parts_fit q first second p o c parts four count same h)

  -- the obligations' rows
  pub obligation_rows_are : (c : Candidate) (ts : List Terms) → take c.count c.parts ≡ parts
      → ArePulledRows p.first.space (pair_obligations p c) ts → ArePulledRows p.first.space (answer_forms q (Contained parts ws)) ts
  obligation_rows_are c ts same are = of_pair (ArePulledRows p.first.space (answer_forms q (Contained parts ws)) ts) (λ first second tries e o h.
      subst (λ fs. ArePulledRows p.first.space fs ts) (ap (obligations q first second) same
      ∙ sym (ap (λ v. answer_forms_by q v (Contained parts ws)) e)) (text_rows q first second p o c ts are))

-- ---- a code

-- the values of the point are those of all sets
pub values_complete : (q : BodyView) (a : AnswerView) (c : ReportedCodeView) → HasCodedShape q a c → 2 ^ variables_of c.code - 1 ≤ length (values_of a)
values_complete q a c h = by_answer a h.no h.answered
  where
    by_verb : (verb : VerbView) (back : Bool) (values : List ℤ) → HasVerbShape q.names verb (No back values) → length values ≡ size_of (space_of q.names)
    by_verb (Prove r) back values fits = fits.0
    by_verb (Eliminate rates) back values fits = absurd fits
    by_verb (Contain first second tries) back values fits = absurd fits

    by_answer : (a : AnswerView) → IsNo a → HasQuestionShape q a → 2 ^ variables_of c.code - 1 ≤ length (values_of a)
    by_answer (No back values) is_no fits =
        let size : length values ≡ size_of (space_of q.names) = by_verb q.verb back values (verb_fits q (No back values) q.verb refl fits) in
        let sets : 2 ^ variables_of c.code ≡ 2 ^ length q.names.variables = ap (λ n. 2 ^ n) h.code.variables in
        omega (arith, size, sets, pow_pos (length q.names.variables))
    by_answer (Yes ws) is_no fits = absurd is_no
    by_answer (Undecided cause) is_no fits = absurd is_no
    by_answer (Region rows) is_no fits = absurd is_no
    by_answer (Contained parts ws) is_no fits = absurd is_no
    by_answer (Open tried) is_no fits = absurd is_no

-- a set of the code's variables is one of the names'
pub set_named : (q : BodyView) (a : AnswerView) (c : ReportedCodeView) (names : NamesView) (s : ℕ) → HasCodedShape q a c
    → names ≡ problem_names q → IsFirstOther c.code c.times (values_of a) s → s < 2 ^ length names.variables
set_named q a c names s h own first =
    subst (λ (n : ℕ). s < 2 ^ n) (h.code.variables ∙ ap (λ (v : NamesView). length v.variables) (sym (own ∙ by_answer a h.no h.answered))) first.within
  where
    by_verb : (verb : VerbView) (back : Bool) (values : List ℤ) → q.verb ≡ verb → HasVerbShape q.names verb (No back values) → problem_names q ≡ q.names
    by_verb (Prove r) back values e fits = relation_names q r e
    by_verb (Eliminate rates) back values e fits = absurd fits
    by_verb (Contain first second tries) back values e fits = absurd fits

    by_answer : (a : AnswerView) → IsNo a → HasQuestionShape q a → problem_names q ≡ q.names
    by_answer (No back values) is_no fits = by_verb q.verb back values refl (verb_fits q (No back values) q.verb refl fits)
    by_answer (Yes ws) is_no fits = absurd is_no
    by_answer (Undecided cause) is_no fits = absurd is_no
    by_answer (Region rows) is_no fits = absurd is_no
    by_answer (Contained parts ws) is_no fits = absurd is_no
    by_answer (Open tried) is_no fits = absurd is_no

-- ---- a region with origins

-- the rows of a region are over the question's coordinates
pub rows_over : (q : BodyView) (a : AnswerView) → IsRegion a → HasQuestionShape q a → All (IsOver (size_of (space_of q.names))) (rows_of a)
rows_over q (Yes ws) is_region fits = absurd is_region
rows_over q (No back values) is_region fits = absurd is_region
rows_over q (Undecided cause) is_region fits = absurd is_region
rows_over q (Region rows) is_region fits = by_verb q.verb (verb_fits q (Region rows) q.verb refl fits)
  where
    by_verb : (verb : VerbView) → HasVerbShape q.names verb (Region rows) → All (IsOver (size_of (space_of q.names))) (map (λ r. r.1) rows)
    by_verb (Prove r) fits = absurd fits
    by_verb (Eliminate rates) fits =
        let size = size_of (space_of q.names) in
        all_of (IsOver size) (map (λ r. r.1) rows)
        (every-map (IsOver size) (λ r. r.1) rows (every-same (IsRowIn size) (λ r. IsOver size r.1) rows (λ r k. k.coordinates)
        (every_of (IsRowIn size) rows fits)))
    by_verb (Contain first second tries) fits = absurd fits
rows_over q (Contained parts ws) is_region fits = absurd is_region
rows_over q (Open tried) is_region fits = absurd is_region
