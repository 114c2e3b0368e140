-- What is told of a line of a report, step by step as the code forms it.
use Rattle.std.proofs.Common.{◌≡◌, ℕ, List, Bool, true, false, Result, Ok, Err, IfOk, refl, sym, ap, subst, ◌∙◌}
use Rattle.std.proofs.lemmas.Bool.{true≢false}
use Rattle.it_question.specs.QuestionLimits.{widest}
use Rattle.it_space.specs.Answers.{AnswerView, answer_view}
use Rattle.it_question.specs.Questions.{QuestionView}
use Rattle.it_question.proofs.NumberLemmas.{QuestionHasSmallNumbers}
use Rattle.it_certificate.specs.declared.keys.ReportFault.{ReportFault}
use Rattle.it_certificate.specs.CodeReading.{ReportedCodeView}
use Rattle.it_certificate.specs.Reports as reports
use Rattle.it_certificate.specs.Reports.{IsReported, KeepsLimits, ReadsReport, Reading, Reports}
use Rattle.it_certificate.specs.Sources.{Source, asked}
use Rattle.it_certificate.specs.declared.types.Reported.{Reported}
use Rattle.it_certificate.specs.declared.types.Reported.TheVariants as variants
use Rattle.it_certificate.proofs.OneLemmas.{one_reading}
use Rattle.it_report.specs.Judging.{HasReading, IsAnswerVerdict, IsCodedVerdict, IsJudgedLine, IsJudgedWhereRead, IsReadingVerdict, IsVerdict}
use Rattle.it_report.specs.LineVerdicts.{LineVerdict, NotJson, Shape, Skipped, Judged, Weighed, OtherCode, Hulled, is_invalid, numbered_line}
use Rattle.it_report.proofs.OneLemmas.{as_read, same_read}
use Rattle.it_canon.proofs.ExistenceLemmas.{question_poses}
use Rattle.it_report.proofs.TruthLemmas.{coded_numbers, derived_numbers, small_numbers}
use Rattle.it_report.proofs.JudgingLemmas.{region_skipped}
use Rattle.it_tell.specs.Tellings as tellings
use Rattle.it_ratio.specs.BestViews.{BestView}
use Rattle.it_tell.specs.Tellings.{Invalid, IsAccepted, IsAcceptedBest, best_words, bounds_words}
use Rattle.it_tell.specs.Steps.{CanBePrinted, IsAnsweredText, IsCodedText, IsReportedText, IsToldLine}
use Rattle.it_tell.proofs.PrintableLemmas.{printable}
use Rattle.it_tell.specs.declared.settings.Options.{Options}

-- ---- an invalid line

pub invalid_line : (options : Options) (k : ℕ) (line text : List ℕ) (invalid : Bool) → IsJudgedLine widest k line text invalid → invalid ≡ true
    → IsToldLine options k line text invalid
invalid_line options k line text invalid judged is = record {
  reply = Invalid judged.verdict;
  right = (judged.is, sym judged.told.1 ∙ is);
  text_is = judged.told.0;
  invalid_is = is;
}

-- a line that wasn't read
pub fault_line : {L E : Type 0} (text : L → List ℕ) (invalid : L → Bool) (options : Options) (k : ℕ) (line : List ℕ) (fault : ReportFault)
    (r : Result L E) → Reports widest line (Err fault) → IfOk r (λ j. IsJudgedWhereRead k (Err fault) (text j) (invalid j))
    → IfOk r (λ j. invalid j ≡ true) → IfOk r (λ j. IsToldLine options k line (text j) (invalid j))
fault_line text invalid options k line fault (Ok j) h judged is = invalid_line options k line (text j) (invalid j) (judged widest line h) is
fault_line text invalid options k line fault (Err e) h judged is = tt

-- ---- any other line

-- the verdict on a line, and what the line says
pub record HasVerdict (line : List ℕ) : Type 0 where
  pub verdict : LineVerdict
  pub is : IsVerdict widest line verdict
  pub accepted : is_invalid verdict ≡ false
  pub said : HasReading widest line verdict

pub has_verdict : (k : ℕ) (line text : List ℕ) (invalid : Bool) → IsJudgedLine widest k line text invalid → invalid ≡ false → HasVerdict line
has_verdict k line text invalid judged e = by_verdict judged.verdict judged.is (sym judged.told.1 ∙ e)
  where
    by_verdict : (v : LineVerdict) → IsVerdict widest line v → is_invalid v ≡ false → HasVerdict line
    by_verdict NotJson is accepted = absurd (true≢false accepted)
    by_verdict (Shape key) is accepted = absurd (true≢false accepted)
    by_verdict Skipped is accepted = record { verdict = Skipped; is = is; accepted = accepted; said = is }
    by_verdict (Judged names v) is accepted = record { verdict = Judged names v; is = is; accepted = accepted; said = is }
    by_verdict (Weighed names v) is accepted = record { verdict = Weighed names v; is = is; accepted = accepted; said = is }
    by_verdict (OtherCode names s) is accepted = absurd (true≢false accepted)
    by_verdict (Hulled v) is accepted = record { verdict = Hulled v; is = is; accepted = accepted; said = is }

module _ (line : List ℕ) (source : Source) (a : AnswerView) (reads : ReadsReport widest line (Ok (reports.Answered source a))) where
  pub accepts : HasVerdict line → IsAccepted line source a
  accepts h = record { verdict = h.verdict; is = h.is; accepted = h.accepted; reads = reads }

  -- the verdict is on the answer that was read
  pub on_answer : (h : HasVerdict line) → IsAnswerVerdict (asked source).body a h.verdict
  on_answer h =
      let same = same_read h.said.reading (reports.Answered source a) (one_reading widest line (Ok h.said.reading)
      (Ok (reports.Answered source a)) h.said.reads reads) in
      subst (λ x. IsReadingVerdict x h.verdict) same h.said.verdict

-- the verdict on a no with a code is that on the no, where it isn't an invalid one
pub on_coded : (line : List ℕ) (source : Source) (a : AnswerView) (c : ReportedCodeView) → ReadsReport widest line (Ok (reports.Coded source a c))
    → (h : HasVerdict line) → IsAnswerVerdict (asked source).body a h.verdict
on_coded line source a c reads h = by_verdict h.verdict h.accepted (subst (λ x. IsReadingVerdict x h.verdict) same h.said.verdict)
  where
    same : h.said.reading ≡ reports.Coded source a c
    same = same_read h.said.reading (reports.Coded source a c) (one_reading widest line (Ok h.said.reading) (Ok (reports.Coded source a c)) h.said.reads reads)

    by_verdict : (v : LineVerdict) → is_invalid v ≡ false → IsCodedVerdict (asked source).body a c v → IsAnswerVerdict (asked source).body a v
    by_verdict (Judged names v) accepted is = (is.0, is.1)
    by_verdict (OtherCode names s) accepted is = absurd (true≢false accepted)
    by_verdict NotJson accepted is = absurd is
    by_verdict (Shape key) accepted is = absurd is
    by_verdict Skipped accepted is = absurd is
    by_verdict (Weighed names v) accepted is = absurd is
    by_verdict (Hulled v) accepted is = absurd is

pub accepts_best : (line : List ℕ) (source : Source) (b : BestView) → ReadsReport widest line (Ok (reports.Factored source b)) → HasVerdict line
    → IsAcceptedBest line source b
accepts_best line source b reads h = record { verdict = h.verdict; is = h.is; accepted = h.accepted; reads = reads }

pub can_be_printed : (line : List ℕ) (r : Reported) → Reports widest line (Ok r) → KeepsLimits r → HasVerdict line → CanBePrinted r
can_be_printed line r read limits h = by_reading read.0 r read.1 read.2 limits
  where
    by_reading : (x : Reading) (r : Reported) → IsReported x r → ReadsReport widest line (Ok x) → KeepsLimits r → CanBePrinted r
    by_reading (reports.Answered source a) (variants.Answered q answer) same reads limits =
        let small = subst (λ (x : QuestionView). QuestionHasSmallNumbers x.body) same.0 (small_numbers widest line source a reads) in
        let verdict : IsAnswerVerdict q.body (answer_view answer) h.verdict =
        subst (λ b. IsAnswerVerdict q.body b h.verdict) same.1 (subst
        (λ (x : QuestionView). IsAnswerVerdict x.body a h.verdict) same.0 (on_answer line source a reads h)) in
        printable q.body limits.0 (question_poses q.body limits.0 small) h.verdict h.accepted answer limits.1 verdict
    by_reading (reports.Answered source a) (variants.Coded q answer code) same reads limits = absurd same
    by_reading (reports.Answered source a) (variants.Derived q answer origins) same reads limits = absurd same
    by_reading (reports.Answered source a) (variants.Factored q best) same reads limits = absurd same
    by_reading (reports.Answered source a) (variants.Bounded q bounds) same reads limits = absurd same
    by_reading (reports.Answered source a) variants.Misfit same reads limits = absurd same
    by_reading (reports.Coded source a c) (variants.Answered q answer) same reads limits = absurd same
    by_reading (reports.Coded source a c) (variants.Coded q answer code) same reads limits =
        let small = subst (λ (x : QuestionView). QuestionHasSmallNumbers x.body) same.0 (coded_numbers widest line source a c reads) in
        let verdict : IsAnswerVerdict q.body (answer_view answer) h.verdict =
        subst (λ b. IsAnswerVerdict q.body b h.verdict) same.1 (subst
        (λ (x : QuestionView). IsAnswerVerdict x.body a h.verdict) same.0 (on_coded line source a c reads h)) in
        printable q.body limits.0 (question_poses q.body limits.0 small) h.verdict h.accepted answer limits.1.answered verdict
    by_reading (reports.Coded source a c) (variants.Derived q answer origins) same reads limits = absurd same
    by_reading (reports.Coded source a c) (variants.Factored q best) same reads limits = absurd same
    by_reading (reports.Coded source a c) (variants.Bounded q bounds) same reads limits = absurd same
    by_reading (reports.Coded source a c) variants.Misfit same reads limits = absurd same
    by_reading (reports.Derived source a ws) (variants.Answered q answer) same reads limits = absurd same
    by_reading (reports.Derived source a ws) (variants.Coded q answer code) same reads limits = absurd same
    by_reading (reports.Derived source a ws) (variants.Derived q answer origins) same reads limits =
        let small = subst (λ (x : QuestionView). QuestionHasSmallNumbers x.body) same.0 (derived_numbers widest line source a ws reads) in
        printable q.body limits.0 (question_poses q.body limits.0 small) Skipped refl answer limits.1.answered
        (region_skipped q.body (answer_view answer) limits.1.region)
    by_reading (reports.Derived source a ws) (variants.Factored q best) same reads limits = absurd same
    by_reading (reports.Derived source a ws) (variants.Bounded q bounds) same reads limits = absurd same
    by_reading (reports.Derived source a ws) variants.Misfit same reads limits = absurd same
    by_reading (reports.Factored source b) (variants.Answered q answer) same reads limits = absurd same
    by_reading (reports.Factored source b) (variants.Coded q answer code) same reads limits = absurd same
    by_reading (reports.Factored source b) (variants.Derived q answer origins) same reads limits = absurd same
    by_reading (reports.Factored source b) (variants.Factored q best) same reads limits = tt
    by_reading (reports.Factored source b) (variants.Bounded q bounds) same reads limits = absurd same
    by_reading (reports.Factored source b) variants.Misfit same reads limits = absurd same
    by_reading (reports.Bounded source b) (variants.Answered q answer) same reads limits = absurd same
    by_reading (reports.Bounded source b) (variants.Coded q answer code) same reads limits = absurd same
    by_reading (reports.Bounded source b) (variants.Derived q answer origins) same reads limits = absurd same
    by_reading (reports.Bounded source b) (variants.Factored q best) same reads limits = absurd same
    by_reading (reports.Bounded source b) (variants.Bounded q bounds) same reads limits = tt
    by_reading (reports.Bounded source b) variants.Misfit same reads limits = absurd same
    by_reading reports.Misfit (variants.Answered q answer) same reads limits = absurd same
    by_reading reports.Misfit (variants.Coded q answer code) same reads limits = absurd same
    by_reading reports.Misfit (variants.Derived q answer origins) same reads limits = absurd same
    by_reading reports.Misfit (variants.Factored q best) same reads limits = absurd same
    by_reading reports.Misfit (variants.Bounded q bounds) same reads limits = absurd same
    by_reading reports.Misfit variants.Misfit same reads limits = tt

pub reported_line : (options : Options) (k : ℕ) (line text : List ℕ) (r : Reported) → Reports widest line (Ok r) → HasVerdict line
    → IsReportedText options k r text → IsToldLine options k line text false
unfolding IsAnsweredText IsCodedText
reported_line options k line text r read h told = by_reading read.0 r read.1 read.2 told
  where
    by_reading : (x : Reading) (r : Reported) → IsReported x r → ReadsReport widest line (Ok x) → IsReportedText options k r text
        → IsToldLine options k line text false
    by_reading (reports.Answered source a) (variants.Answered q answer) same reads told =
        let back : IsAnsweredText options k (asked source).body a text =
        subst (λ b. IsAnsweredText options k (asked source).body b text) (sym same.1)
        (subst (λ (x : QuestionView). IsAnsweredText options k x.body (answer_view answer) text) (sym same.0) told) in
        record { reply = tellings.Answered source a back.0; right = (accepts line source a reads h, back.1.0); text_is = back.1.1; invalid_is = refl }
    by_reading (reports.Answered source a) (variants.Coded q answer code) same reads told = absurd same
    by_reading (reports.Answered source a) (variants.Derived q answer origins) same reads told = absurd same
    by_reading (reports.Answered source a) (variants.Factored q best) same reads told = absurd same
    by_reading (reports.Answered source a) (variants.Bounded q bounds) same reads told = absurd same
    by_reading (reports.Answered source a) variants.Misfit same reads told = absurd same
    by_reading (reports.Coded source a c) (variants.Answered q answer) same reads told = absurd same
    by_reading (reports.Coded source a c) (variants.Coded q answer code) same reads told =
        let back : IsCodedText options k (asked source).body a c text =
        subst (λ x. IsCodedText options k (asked source).body a x text) (sym same.2)
        (subst (λ b. IsCodedText options k (asked source).body b code text) (sym same.1)
        (subst (λ (x : QuestionView). IsCodedText options k x.body (answer_view answer) code text) (sym same.0) told)) in
        record {
          reply = tellings.Coded source a c back.0;
          right = (record { verdict = h.verdict; is = h.is; accepted = h.accepted; reads = reads }, back.1.0);
          text_is = back.1.1;
          invalid_is = refl;
        }
    by_reading (reports.Coded source a c) (variants.Derived q answer origins) same reads told = absurd same
    by_reading (reports.Coded source a c) (variants.Factored q best) same reads told = absurd same
    by_reading (reports.Coded source a c) (variants.Bounded q bounds) same reads told = absurd same
    by_reading (reports.Coded source a c) variants.Misfit same reads told = absurd same
    by_reading (reports.Derived source a ws) (variants.Answered q answer) same reads told = absurd same
    by_reading (reports.Derived source a ws) (variants.Coded q answer code) same reads told = absurd same
    by_reading (reports.Derived source a ws) (variants.Derived q answer origins) same reads told =
        let back : IsAnsweredText options k (asked source).body a text =
        subst (λ b. IsAnsweredText options k (asked source).body b text) (sym same.1)
        (subst (λ (x : QuestionView). IsAnsweredText options k x.body (answer_view answer) text) (sym same.0) told) in
        record {
          reply = tellings.Derived source a ws back.0;
          right = (record { verdict = h.verdict; is = h.is; accepted = h.accepted; reads = reads }, back.1.0);
          text_is = back.1.1;
          invalid_is = refl;
        }
    by_reading (reports.Derived source a ws) (variants.Factored q best) same reads told = absurd same
    by_reading (reports.Derived source a ws) (variants.Bounded q bounds) same reads told = absurd same
    by_reading (reports.Derived source a ws) variants.Misfit same reads told = absurd same
    by_reading (reports.Factored source b) (variants.Answered q answer) same reads told = absurd same
    by_reading (reports.Factored source b) (variants.Coded q answer code) same reads told = absurd same
    by_reading (reports.Factored source b) (variants.Derived q answer origins) same reads told = absurd same
    by_reading (reports.Factored source b) (variants.Factored q best) same reads told = record {
      reply = tellings.Factored source b;
      right = accepts_best line source b reads h;
      text_is = told
          ∙ ap (λ x. numbered_line k (best_words x)) (sym same.1);
      invalid_is = refl;
    }
    by_reading (reports.Factored source b) (variants.Bounded q bounds) same reads told = absurd same
    by_reading (reports.Factored source b) variants.Misfit same reads told = absurd same
    by_reading (reports.Bounded source b) (variants.Answered q answer) same reads told = absurd same
    by_reading (reports.Bounded source b) (variants.Coded q answer code) same reads told = absurd same
    by_reading (reports.Bounded source b) (variants.Derived q answer origins) same reads told = absurd same
    by_reading (reports.Bounded source b) (variants.Factored q best) same reads told = absurd same
    by_reading (reports.Bounded source b) (variants.Bounded q bounds) same reads told = record {
      reply = tellings.Bounded source b;
      right = record { verdict = h.verdict; is = h.is; accepted = h.accepted; reads = reads };
      text_is = told ∙ ap (λ x. numbered_line k (bounds_words x)) (sym same.1);
      invalid_is = refl;
    }
    by_reading (reports.Bounded source b) variants.Misfit same reads told = absurd same
    by_reading reports.Misfit (variants.Answered q answer) same reads told = absurd same
    by_reading reports.Misfit (variants.Coded q answer code) same reads told = absurd same
    by_reading reports.Misfit (variants.Derived q answer origins) same reads told = absurd same
    by_reading reports.Misfit (variants.Factored q best) same reads told = absurd same
    by_reading reports.Misfit (variants.Bounded q bounds) same reads told = absurd same
    by_reading reports.Misfit variants.Misfit same reads told = record { reply = tellings.Misfit; right = reads; text_is = told; invalid_is = refl }
