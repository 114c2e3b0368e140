-- Each line of a report has a verdict, and so a line about it.
use Rattle.std.proofs.Common.{◌≡◌, ℕ, Bool, true, false, List, Option, Some, None, Result, Ok, Err, IsUtf8, refl, sym, ap, ◌∙◌}
use Rattle.std.specs.Str.{is_utf8}
use Rattle.std.proofs.lemmas.Bool.{true≢false}
use Rattle.std.proofs.lemmas.Str.{IsUtf8-from_is_utf8, is_utf8-from_IsUtf8}
use Rattle.serde_json.specs.Data.{Data}
use Rattle.serde_json.specs.Read.{read}
use Rattle.it_space.specs.Answers.{AnswerView}
use Rattle.it_question.specs.declared.sizes.FileLimits.{FileLimits}
use Rattle.it_question.specs.Questions.{BodyView}
use Rattle.it_question.specs.ProblemLines.{problem_names}
use Rattle.it_certificate.specs.declared.keys.Key.{Key}
use Rattle.it_certificate.specs.Bounds.{BoundsView}
use Rattle.it_certificate.specs.CodeReading.{IsNo, ReportedCodeView}
use Rattle.it_codes.specs.Codes.{FirstOtherIs}
use Rattle.it_codes.proofs.ExistenceLemmas.{first_other_there}
use Rattle.it_certificate.specs.Reports.{Answered, Bounded, Coded, Derived, Factored, Misfit, ReadsReport, Reading, report_of}
use Rattle.it_certificate.specs.Sources.{asked}
use Rattle.it_certificate.proofs.SourceLemmas.{source_there}
use Rattle.it_check.specs.declared.verdicts.Verdict.{Verdict}
use Rattle.it_check.specs.declared.verdicts.Verdict.TheVariants.{Valid}
use Rattle.it_canon.specs.QuestionDemands.{problem_of}
use Rattle.it_certificate.specs.OriginReading.{rows_of}
use Rattle.it_rates.specs.Asked.{gone_rates, kept_rates, under_all_lines}
use Rattle.it_rates.specs.Frames.{hull_frame}
use Rattle.it_spans.proofs.ExistenceLemmas.{hull_verdict_there}
use Rattle.it_report.specs.BoundsVerdicts.{bounds_verdict, most_rows}
use Rattle.it_report.specs.RowVerdicts.{is_valid, proofs_verdict}
use Rattle.it_report.specs.LineVerdicts.{LineVerdict, NotJson, Shape, Skipped, Judged, OtherCode, Hulled, verdict_line, is_invalid}
use Rattle.it_report.specs.Judging.{factor_line_verdict, values_of, verdict_of, IsAnswerVerdict, IsBoundsVerdict, IsCodedVerdict, IsVerdict}
use Rattle.it_report.specs.Meaning.{EachLineIsJudged}
use Rattle.it_report.proofs.JudgingLemmas.{has_a_verdict, read_verdict}
use Rattle.it_report.proofs.ReadingLemmas.{coded_is}
use Rattle.it_report.proofs.VerdictLemmas.{only_valid}

-- ---- the verdict on an answer

answer_verdict_there : (q : BodyView) (a : AnswerView) → (v : LineVerdict) × IsAnswerVerdict q a v
answer_verdict_there q a = by_option (verdict_of q a) refl
  where
    by_option : (o : Option Verdict) → verdict_of q a ≡ o → (v : LineVerdict) × IsAnswerVerdict q a v
    by_option (Some v) e = (Judged (problem_names q) v, (refl, e))
    by_option None e = (Skipped, e)

-- ---- the verdict on a no with a code

coded_verdict_there : (q : BodyView) (a : AnswerView) (c : ReportedCodeView) → IsNo a → (v : LineVerdict) × IsCodedVerdict q a c v
coded_verdict_there q a c is_no = by_option (verdict_of q a) refl
  where
    by_first : verdict_of q a ≡ Some Valid → (o : Option ℕ) → FirstOtherIs c.code c.times (values_of a) o → (v : LineVerdict) × IsCodedVerdict q a c v
    by_first e (Some s) first = (OtherCode (problem_names q) s, (refl, e, first))
    by_first e None all = (Judged (problem_names q) Valid, (refl, e, λ valid. all))

    by_valid : (v : Verdict) (is : Bool) → is_valid v ≡ is → verdict_of q a ≡ Some v → (v : LineVerdict) × IsCodedVerdict q a c v
    by_valid v true valid e = let first = first_other_there c.code c.times (values_of a) in by_first (e ∙ ap Some (only_valid v valid)) first.0 first.1
    by_valid v false invalid e = (Judged (problem_names q) v, (refl, e, λ valid. absurd (true≢false (sym (ap is_valid valid) ∙ invalid))))

    by_option : (o : Option Verdict) → verdict_of q a ≡ o → (v : LineVerdict) × IsCodedVerdict q a c v
    by_option (Some v) e = by_valid v (is_valid v) refl e
    by_option None e = absurd (has_a_verdict q a is_no e)

-- ---- the verdict on an outer bound

bounds_verdict_there : (q : BodyView) (b : BoundsView) → (v : LineVerdict) × IsBoundsVerdict q b v
bounds_verdict_there q b = by_parts (bounds_verdict q b) refl
  where
    by_valid : (v : Verdict) (is : Bool) → is_valid v ≡ is → bounds_verdict q b ≡ v → (v : LineVerdict) × IsBoundsVerdict q b v
    by_valid v true valid e =
        let hull = hull_verdict_there (hull_frame most_rows q) (kept_rates q (gone_rates q.verb)) b.steps b.rows in
        (Hulled hull.0, (e ∙ only_valid v valid, hull.1))
    by_valid v false invalid e = (Judged q.names v, (refl, e, invalid))

    by_parts : (v : Verdict) → bounds_verdict q b ≡ v → (v : LineVerdict) × IsBoundsVerdict q b v
    by_parts v e = by_valid v (is_valid v) refl e

-- ---- the verdict on a line

abbrev VerdictThere : FileLimits → List ℕ → Type 0
VerdictThere limits line = (v : LineVerdict) × IsVerdict limits line v

verdict_read : (limits : FileLimits) (line : List ℕ) (r : Result Reading Key) → ReadsReport limits line r → VerdictThere limits line
verdict_read limits line (Err key) h = (Shape key, h)
verdict_read limits line (Ok (Answered source a)) h =
    let v = answer_verdict_there (asked source).body a in
    (v.0, read_verdict limits line (Answered source a) v.0 h v.1)
verdict_read limits line (Ok (Coded source a c)) h =
    let v = coded_verdict_there (asked source).body a c (coded_is h.reads.own h.value source a c h.reads.is).1.no in
    (v.0, read_verdict limits line (Coded source a c) v.0 h v.1)
verdict_read limits line (Ok (Derived source a ws)) h =
    let q = (asked source).body in
    let v = Judged q.names (proofs_verdict (problem_of (under_all_lines q)) (rows_of a) ws) in
    (v, read_verdict limits line (Derived source a ws) v h refl)
verdict_read limits line (Ok (Factored source b)) h = let v = factor_line_verdict (asked source).body b in
    (v, read_verdict limits line (Factored source b) v h refl)
verdict_read limits line (Ok (Bounded source b)) h =
    let v = bounds_verdict_there (asked source).body b in
    (v.0, read_verdict limits line (Bounded source b) v.0 h v.1)
verdict_read limits line (Ok Misfit) h = (Skipped, read_verdict limits line Misfit Skipped h refl)

verdict_there : (limits : FileLimits) (line : List ℕ) → VerdictThere limits line
verdict_there limits line = by_bytes (is_utf8 line) refl
  where
    none_there : read line ≡ None → VerdictThere limits line
    none_there e = (NotJson, λ u. e)

    by_value : IsUtf8 line → (o : Option Data) → read line ≡ o → VerdictThere limits line
    by_value u None e = none_there e
    by_value u (Some d) e =
        let own = source_there limits d in
        verdict_read limits line (report_of own.0 d) (record { value = d; utf8 = u; is_json = e; reads = record { own = own.0; source = own.1; is = refl } })

    by_bytes : (b : Bool) → is_utf8 line ≡ b → VerdictThere limits line
    by_bytes true e = by_value (IsUtf8-from_is_utf8 line e) (read line) refl
    by_bytes false e = (NotJson, λ u. absurd (true≢false (sym (is_utf8-from_IsUtf8 line u) ∙ e)))

pub each_line_is_judged : EachLineIsJudged
each_line_is_judged limits k line = let v = verdict_there limits line in
    (verdict_line k v.0, is_invalid v.0, record { verdict = v.0; is = v.1; told = (refl, refl) })
