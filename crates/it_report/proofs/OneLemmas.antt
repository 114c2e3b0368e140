-- A line has one verdict.
use Rattle.std.proofs.Common.{◌≡◌, ℕ, false, List, Some, None, Result, Ok, Err, IsUtf8, refl, sym, ap, ap₂, subst, ◌∙◌}
use Rattle.std.proofs.lemmas.Bool.{true≢false}
use Rattle.serde_json.specs.Read.{read}
use Rattle.serde_json.specs.Data.{Data}
use Rattle.it_space.specs.Answers.{AnswerView}
use Rattle.it_space.proofs.OptionLemmas.{some_same}
use Rattle.it_question.specs.declared.sizes.FileLimits.{FileLimits}
use Rattle.it_question.specs.Questions.{BodyView}
use Rattle.it_certificate.specs.declared.keys.Key.{Key}
use Rattle.it_certificate.specs.Bounds.{BoundsView}
use Rattle.it_certificate.specs.CodeReading.{ReportedCodeView}
use Rattle.it_codes.proofs.ExistenceLemmas.{no_first_other, one_first_other}
use Rattle.it_certificate.specs.Reports.{Answered, Bounded, Coded, Derived, Factored, Misfit, ReadsReport, Reading}
use Rattle.it_certificate.specs.Sources.{asked}
use Rattle.it_certificate.proofs.OneLemmas.{one_reading}
use Rattle.it_check.specs.declared.verdicts.Verdict.{Verdict}
use Rattle.it_check.specs.declared.verdicts.Verdict.TheVariants.{Valid}
use Rattle.it_hull.specs.Hulls.{first_rows}
use Rattle.it_spans.specs.declared.types.HullVerdict.{HullVerdict}
use Rattle.it_spans.specs.Verdicts.{rows_verdict}
use Rattle.it_spans.proofs.SpanLemmas.{one_span_end}
use Rattle.it_rates.specs.Asked.{gone_rates, kept_rates}
use Rattle.it_rates.specs.Frames.{hull_frame}
use Rattle.it_report.specs.LineVerdicts.{LineVerdict, NotJson, Shape, Skipped, Judged, Weighed, OtherCode, Hulled}
use Rattle.it_report.specs.BoundsVerdicts.{HullVerdictIs, bounds_verdict, most_rows}
use Rattle.it_report.specs.RowVerdicts.{is_valid}
use Rattle.it_report.specs.Judging.{IsAnswerVerdict, IsBoundsVerdict, IsCodedVerdict, IsReadingVerdict, HasReading, values_of}
use Rattle.it_report.specs.Meaning.{OneVerdict}

abbrev pub as_read : Reading → Result Reading Key
as_read x = Ok x

abbrev as_fault : Key → Result Reading Key
as_fault k = Err k

none_is_not_some : (d : Data) → Some d ≡ None → ⊥
none_is_not_some d e = cc

has_json : (limits : FileLimits) (line : List ℕ) (r : Result Reading Key) → ReadsReport limits line r → (IsUtf8 line → read line ≡ None) → ⊥
has_json limits line r h none = none_is_not_some h.value (sym h.is_json ∙ none h.utf8)

one_key : (k j : Key) → as_fault k ≡ as_fault j → k ≡ j
one_key k j e = cc

no_key : (k : Key) (x : Reading) → Err k ≡ Ok x → ⊥
no_key k x e = cc

pub same_read : (x y : Reading) → as_read x ≡ as_read y → x ≡ y
same_read x y e = cc

none_judged : (v : Verdict) → None ≡ Some v → ⊥
none_judged v e = cc

-- an answer has one line verdict
answer_once : (q : BodyView) (a : AnswerView) (v w : LineVerdict) → IsAnswerVerdict q a v → IsAnswerVerdict q a w → v ≡ w
answer_once q a NotJson w h k = absurd h
answer_once q a (Shape j) w h k = absurd h
answer_once q a (Weighed n v) w h k = absurd h
answer_once q a Skipped NotJson h k = absurd k
answer_once q a Skipped (Shape j) h k = absurd k
answer_once q a Skipped Skipped h k = refl
answer_once q a Skipped (Judged n w) h k = absurd (none_judged w (sym h ∙ k.1))
answer_once q a Skipped (Weighed n w) h k = absurd k
answer_once q a Skipped (Hulled w) h k = absurd k
answer_once q a Skipped (OtherCode n s) h k = absurd k
answer_once q a (Judged m v) NotJson h k = absurd k
answer_once q a (Judged m v) (Shape j) h k = absurd k
answer_once q a (Judged m v) Skipped h k = absurd (none_judged v (sym k ∙ h.1))
answer_once q a (Judged m v) (Weighed n w) h k = absurd k
answer_once q a (Judged m v) (Judged n w) h k = ap₂ Judged (h.0 ∙ sym k.0) (some_same v w (sym h.1 ∙ k.1))
answer_once q a (Judged m v) (Hulled w) h k = absurd k
answer_once q a (Judged m v) (OtherCode n s) h k = absurd k
answer_once q a (Hulled v) w h k = absurd h
answer_once q a (OtherCode m s) w h k = absurd h

-- a no with a code has one line verdict
coded_once : (q : BodyView) (a : AnswerView) (c : ReportedCodeView) (v w : LineVerdict) → IsCodedVerdict q a c v → IsCodedVerdict q a c w → v ≡ w
coded_once q a c NotJson w h k = absurd h
coded_once q a c (Shape j) w h k = absurd h
coded_once q a c Skipped w h k = absurd h
coded_once q a c (Weighed n v) w h k = absurd h
coded_once q a c (Hulled v) w h k = absurd h
coded_once q a c (Judged m v) NotJson h k = absurd k
coded_once q a c (Judged m v) (Shape j) h k = absurd k
coded_once q a c (Judged m v) Skipped h k = absurd k
coded_once q a c (Judged m v) (Judged n w) h k = ap₂ Judged (h.0 ∙ sym k.0) (some_same v w (sym h.1 ∙ k.1))
coded_once q a c (Judged m v) (Weighed n w) h k = absurd k
coded_once q a c (Judged m v) (OtherCode n s) h k = absurd (no_first_other c.code c.times (values_of a) s (h.2 (some_same v Valid (sym h.1 ∙ k.1))) k.2)
coded_once q a c (Judged m v) (Hulled w) h k = absurd k
coded_once q a c (OtherCode m s) NotJson h k = absurd k
coded_once q a c (OtherCode m s) (Shape j) h k = absurd k
coded_once q a c (OtherCode m s) Skipped h k = absurd k
coded_once q a c (OtherCode m s) (Judged n w) h k = absurd (no_first_other c.code c.times (values_of a) s (k.2 (some_same w Valid (sym k.1 ∙ h.1))) h.2)
coded_once q a c (OtherCode m s) (Weighed n w) h k = absurd k
coded_once q a c (OtherCode m s) (OtherCode n t) h k = ap₂ OtherCode (h.0 ∙ sym k.0) (one_first_other c.code c.times (values_of a) s t h.2 k.2)
coded_once q a c (OtherCode m s) (Hulled w) h k = absurd k

-- bounds have one line verdict
hull_once : (q : BodyView) (b : BoundsView) (v w : HullVerdict) → HullVerdictIs q b v → HullVerdictIs q b w → v ≡ w
hull_once q b v w h k =
    h.verdict_is ∙ ap (rows_verdict b.rows) (one_span_end (hull_frame most_rows q) 0
    (first_rows (kept_rates q (gone_rates q.verb))) b.steps h.end k.end h.ends k.ends) ∙ sym k.verdict_is

not_both : (v w : Verdict) → v ≡ w → is_valid w ≡ false → v ≡ Valid → ⊥
not_both v w same invalid valid = true≢false (sym (ap is_valid (sym same ∙ valid)) ∙ invalid)

bounds_once : (q : BodyView) (b : BoundsView) (v w : LineVerdict) → IsBoundsVerdict q b v → IsBoundsVerdict q b w → v ≡ w
bounds_once q b NotJson w h k = absurd h
bounds_once q b (Shape j) w h k = absurd h
bounds_once q b Skipped w h k = absurd h
bounds_once q b (Weighed m v) w h k = absurd h
bounds_once q b (OtherCode m s) w h k = absurd h
bounds_once q b (Judged m v) NotJson h k = absurd k
bounds_once q b (Judged m v) (Shape j) h k = absurd k
bounds_once q b (Judged m v) Skipped h k = absurd k
bounds_once q b (Judged m v) (Judged n w) h k = ap₂ Judged (h.0 ∙ sym k.0) (sym h.1 ∙ k.1)
bounds_once q b (Judged m v) (Weighed n w) h k = absurd k
bounds_once q b (Judged m v) (OtherCode n s) h k = absurd k
bounds_once q b (Judged m v) (Hulled w) h k = absurd (not_both (bounds_verdict q b) v h.1 h.2 k.0)
bounds_once q b (Hulled v) NotJson h k = absurd k
bounds_once q b (Hulled v) (Shape j) h k = absurd k
bounds_once q b (Hulled v) Skipped h k = absurd k
bounds_once q b (Hulled v) (Judged n w) h k = absurd (not_both (bounds_verdict q b) w k.1 k.2 h.0)
bounds_once q b (Hulled v) (Weighed n w) h k = absurd k
bounds_once q b (Hulled v) (OtherCode n s) h k = absurd k
bounds_once q b (Hulled v) (Hulled w) h k = ap Hulled (hull_once q b v w h.1 k.1)

told_once : (x : Reading) (v w : LineVerdict) → IsReadingVerdict x v → IsReadingVerdict x w → v ≡ w
told_once (Answered source a) v w h k = answer_once (asked source).body a v w h k
told_once (Coded source a c) v w h k = coded_once (asked source).body a c v w h k
told_once (Derived source a ws) v w h k = h ∙ sym k
told_once (Factored source b) v w h k = h ∙ sym k
told_once (Bounded source b) v w h k = bounds_once (asked source).body b v w h k
told_once Misfit v w h k = h ∙ sym k

once : (limits : FileLimits) (line : List ℕ) (v w : LineVerdict) → HasReading limits line v → HasReading limits line w → v ≡ w
once limits line v w h k =
    let e : k.reading ≡ h.reading = same_read k.reading h.reading (one_reading limits line (Ok k.reading) (Ok h.reading) k.reads h.reads) in
    told_once h.reading v w h.verdict (subst (λ x. IsReadingVerdict x w) e k.verdict)

pub one_verdict : OneVerdict
one_verdict limits line NotJson NotJson a b = refl
one_verdict limits line NotJson (Shape j) a b = absurd (has_json limits line (Err j) b a)
one_verdict limits line NotJson Skipped a b = absurd (has_json limits line (Ok b.reading) b.reads a)
one_verdict limits line NotJson (Judged n w) a b = absurd (has_json limits line (Ok b.reading) b.reads a)
one_verdict limits line NotJson (Weighed n w) a b = absurd (has_json limits line (Ok b.reading) b.reads a)
one_verdict limits line NotJson (OtherCode n s) a b = absurd (has_json limits line (Ok b.reading) b.reads a)
one_verdict limits line NotJson (Hulled w) a b = absurd (has_json limits line (Ok b.reading) b.reads a)
one_verdict limits line (Shape k) NotJson a b = absurd (has_json limits line (Err k) a b)
one_verdict limits line (Shape k) (Shape j) a b = ap Shape (one_key k j (one_reading limits line (Err k) (Err j) a b))
one_verdict limits line (Shape k) Skipped a b = absurd (no_key k b.reading (one_reading limits line (Err k) (Ok b.reading) a b.reads))
one_verdict limits line (Shape k) (Judged n w) a b = absurd (no_key k b.reading (one_reading limits line (Err k) (Ok b.reading) a b.reads))
one_verdict limits line (Shape k) (Weighed n w) a b = absurd (no_key k b.reading (one_reading limits line (Err k) (Ok b.reading) a b.reads))
one_verdict limits line (Shape k) (OtherCode n s) a b = absurd (no_key k b.reading (one_reading limits line (Err k) (Ok b.reading) a b.reads))
one_verdict limits line (Shape k) (Hulled w) a b = absurd (no_key k b.reading (one_reading limits line (Err k) (Ok b.reading) a b.reads))
one_verdict limits line Skipped NotJson a b = absurd (has_json limits line (Ok a.reading) a.reads b)
one_verdict limits line Skipped (Shape j) a b = absurd (no_key j a.reading (one_reading limits line (Err j) (Ok a.reading) b a.reads))
one_verdict limits line Skipped Skipped a b = refl
one_verdict limits line Skipped (Judged n w) a b = once limits line Skipped (Judged n w) a b
one_verdict limits line Skipped (Weighed n w) a b = once limits line Skipped (Weighed n w) a b
one_verdict limits line Skipped (OtherCode n s) a b = once limits line Skipped (OtherCode n s) a b
one_verdict limits line Skipped (Hulled w) a b = once limits line Skipped (Hulled w) a b
one_verdict limits line (Judged m v) NotJson a b = absurd (has_json limits line (Ok a.reading) a.reads b)
one_verdict limits line (Judged m v) (Shape j) a b = absurd (no_key j a.reading (one_reading limits line (Err j) (Ok a.reading) b a.reads))
one_verdict limits line (Judged m v) Skipped a b = once limits line (Judged m v) Skipped a b
one_verdict limits line (Judged m v) (Judged n w) a b = once limits line (Judged m v) (Judged n w) a b
one_verdict limits line (Judged m v) (Weighed n w) a b = once limits line (Judged m v) (Weighed n w) a b
one_verdict limits line (Judged m v) (OtherCode n s) a b = once limits line (Judged m v) (OtherCode n s) a b
one_verdict limits line (Judged m v) (Hulled w) a b = once limits line (Judged m v) (Hulled w) a b
one_verdict limits line (Weighed m v) NotJson a b = absurd (has_json limits line (Ok a.reading) a.reads b)
one_verdict limits line (Weighed m v) (Shape j) a b = absurd (no_key j a.reading (one_reading limits line (Err j) (Ok a.reading) b a.reads))
one_verdict limits line (Weighed m v) Skipped a b = once limits line (Weighed m v) Skipped a b
one_verdict limits line (Weighed m v) (Judged n w) a b = once limits line (Weighed m v) (Judged n w) a b
one_verdict limits line (Weighed m v) (Weighed n w) a b = once limits line (Weighed m v) (Weighed n w) a b
one_verdict limits line (Weighed m v) (OtherCode n s) a b = once limits line (Weighed m v) (OtherCode n s) a b
one_verdict limits line (Weighed m v) (Hulled w) a b = once limits line (Weighed m v) (Hulled w) a b
one_verdict limits line (Hulled v) NotJson a b = absurd (has_json limits line (Ok a.reading) a.reads b)
one_verdict limits line (Hulled v) (Shape j) a b = absurd (no_key j a.reading (one_reading limits line (Err j) (Ok a.reading) b a.reads))
one_verdict limits line (Hulled v) Skipped a b = once limits line (Hulled v) Skipped a b
one_verdict limits line (Hulled v) (Judged n w) a b = once limits line (Hulled v) (Judged n w) a b
one_verdict limits line (Hulled v) (Weighed n w) a b = once limits line (Hulled v) (Weighed n w) a b
one_verdict limits line (Hulled v) (OtherCode n s) a b = once limits line (Hulled v) (OtherCode n s) a b
one_verdict limits line (Hulled v) (Hulled w) a b = once limits line (Hulled v) (Hulled w) a b
one_verdict limits line (OtherCode m v) NotJson a b = absurd (has_json limits line (Ok a.reading) a.reads b)
one_verdict limits line (OtherCode m v) (Shape j) a b = absurd (no_key j a.reading (one_reading limits line (Err j) (Ok a.reading) b a.reads))
one_verdict limits line (OtherCode m v) Skipped a b = once limits line (OtherCode m v) Skipped a b
one_verdict limits line (OtherCode m v) (Judged n w) a b = once limits line (OtherCode m v) (Judged n w) a b
one_verdict limits line (OtherCode m v) (Weighed n w) a b = once limits line (OtherCode m v) (Weighed n w) a b
one_verdict limits line (OtherCode m v) (OtherCode n s) a b = once limits line (OtherCode m v) (OtherCode n s) a b
one_verdict limits line (OtherCode m v) (Hulled w) a b = once limits line (OtherCode m v) (Hulled w) a b
