-- What a call that is done has written, that each line has a telling, and that what is told is true.
use Rattle.std.proofs.Common.{◌≡◌, ℕ, ℤ, ◌+◌, inl, inr, List, [], ◌∷◌, ◌++◌, Bool, true, false, Option, Some, None, Ok, option_and_then, codes, length, ◌==◌, refl, ap, sym, subst, ◌∙◌}
use Rattle.std.specs.List.{zip}
use Rattle.std.proofs.lemmas.Bool.{true≢false}
use Rattle.it_question.specs.QuestionLimits.{widest}
use Rattle.it_outside.specs.Groups.{Groups}
use Rattle.it_outside.specs.Traffic.{Gains, Gave}
use Rattle.it_outside.proofs.LawLemmas.{end_comes_last}
use Rattle.it_space.specs.declared.answers.Mark.{Mark}
use Rattle.it_problems.specs.declared.problems.Kind.TheVariants.{Inequality}
use Rattle.it_space.specs.Answers.{AnswerView, CertificateView}
use Rattle.it_space.specs.Answers.AnswerView.{Yes, No, Undecided, Region, Contained, Open}
use Rattle.it_space.specs.Rows.{Terms}
use Rattle.it_polymatroid.specs.Certificates.{Form}
use Rattle.it_question.specs.Questions.{BodyView, VerbView, Prove, Eliminate, Contain}
use Rattle.it_question.specs.ProblemLines.{problem_names}
use Rattle.it_check.specs.declared.verdicts.Verdict.{Verdict}
use Rattle.it_print.specs.Lines.{certificate_text, row_text, values_text}
use Rattle.it_report.specs.Judging.{HasReading, IsCodedVerdict, IsReadingVerdict, IsVerdict, verdict_of}
use Rattle.it_region.specs.AnswerForms.{answer_forms}
use Rattle.it_report.specs.LineVerdicts.{LineVerdict, NotJson, Shape, Skipped, Judged, Weighed, OtherCode, Hulled, is_invalid}
use Rattle.it_report.specs.Meaning.{IsClaimTrue, IsClaimTrueBy}
use Rattle.it_report.proofs.ExistenceLemmas.{each_line_is_judged}
use Rattle.it_report.proofs.OneLemmas.{same_read}
use Rattle.it_report.proofs.TruthLemmas.{valid_code_is_true, valid_is_true}
use Rattle.it_certificate.proofs.OneLemmas.{one_reading}
use Rattle.it_codes.specs.Codes.{AreEntropies}
use Rattle.it_certificate.specs.Reports as reports
use Rattle.it_certificate.specs.Reports.{ReadsReport, Reading}
use Rattle.it_certificate.specs.Sources.{asked}
use Rattle.it_cli.specs.Ends.{Call}
use Rattle.it_cli.specs.Modes.{WholeOutput}
use Rattle.it_canon.specs.QuestionDemands.{question_origins}
use Rattle.it_canon.specs.TrueLines.{variable_count}
use Rattle.it_cli.specs.declared.status.Status.{Status}
use Rattle.it_cli.specs.declared.status.Status.TheVariants.{Done, Invalid}
use Rattle.it_rates.specs.Asked.{under_all_lines}
use Rattle.it_terms.specs.RowOrigins.{row_comment}
use Rattle.it_tell.specs.Tellings.{Answered, AreContainedLines, AreDetails, AreOwnLineTexts, AreProofTexts, Each, IsMarkedRowText, IsPointText, IsProofText, IsRowText, IsTelling, ProofTexts, Telling, TellsObligation, indented_line, mark_comment, obligation_lines, proof_lines, told_rows}
use Rattle.it_tell.specs.OwnLines.{OwnLine, own_line_comment, own_lines}
use Rattle.it_tell.specs.declared.settings.Style.{Style}
use Rattle.it_tell.specs.declared.settings.Style.TheVariants.{Plain, Named, Whole}
use Rattle.it_tell.specs.Tellings as tellings
use Rattle.it_tell.specs.declared.settings.Options.{Options}
use Rattle.it_tell.specs.declared.settings.Settings.TheVariants.{Tell}
use Rattle.it_tell.specs.Ends.{AsksForText, AsksToTell, Ends, HasTold, shown_by, tell_mode}
use Rattle.it_tell.specs.Laws.{EachLineIsTold, Headline, ToldAnswersAreTrue, ToldCodesAreTrue}
use Rattle.it_tell.proofs.PrintableLemmas.{not_invalid_is_valid}

-- ---- what is written

-- words ask for one telling
one_asked : (r : Call) (options others : Options) → AsksToTell r options → AsksToTell r others → options ≡ others
one_asked r options others e f = let same : Some (Tell options) ≡ Some (Tell others) = sym e ∙ f in cc

written : (r : Call) (options : Options) (s : Status) (bytes old new : List ℕ) → AsksToTell r options → HasTold r s → r.left ≡ Some bytes
    → r.taken ≡ Some old → r.taken_after ≡ Some new
    → (out : List ℕ) × (WholeOutput (tell_mode options) bytes out s × (new ≡ old ++ out))
written r options s bytes old new asked h left taken taken_after =
    let gave : Gave (Some bytes) r.left_after h.bytes = subst (λ (o : Option (List ℕ)). Gave o r.left_after h.bytes) left h.report.0 in
    let gained : Gains (Some old) (Some new) h.out = subst (λ (o : Option (List ℕ)). Gains o (Some new) h.out) taken
    (subst (λ (o : Option (List ℕ)). Gains r.taken o h.out) taken_after h.wrote) in
    let same : h.options ≡ options = one_asked r h.options options h.asked asked in (
      h.out,
      (
        subst (λ (o : Options). WholeOutput (tell_mode o) bytes h.out s) same
            (subst (λ (b : List ℕ). WholeOutput (tell_mode h.options) b h.out s) (end_comes_last bytes h.bytes r.left_after gave) h.output),
        gained,
      ),
    )

-- who asks for a telling asks for no text
no_text_asked : (r : Call) (options : Options) (text : List ℕ) → AsksToTell r options → AsksForText r text → ⊥
no_text_asked r options text asked shown = none_is_some (sym (ap (option_and_then shown_by) asked) ∙ shown)
  where
    none_is_some : None ≡ Some text → ⊥
    none_is_some e = cc

pub headline : Headline
headline r options s bytes old new asked ends (inl is) left taken taken_after = by_end (subst (Ends r) is ends)
  where
    by_end : Ends r Done → (out : List ℕ) × (WholeOutput (tell_mode options) bytes out s × (new ≡ old ++ out))
    by_end (faultless, inl told) = subst (λ (t : Status). (out : List ℕ)
        × (WholeOutput (tell_mode options) bytes out t × (new ≡ old ++ out))) (sym is)
        (written r options Done bytes old new asked told left taken taken_after)
    by_end (faultless, inr shown) = absurd (no_text_asked r options shown.0 asked shown.1.0.asked)
headline r options s bytes old new asked ends (inr is) left taken taken_after =
    subst (λ (t : Status). (out : List ℕ) × (WholeOutput (tell_mode options) bytes out t × (new ≡ old ++ out))) (sym is)
    (written r options Invalid bytes old new asked (subst (Ends r) is ends).1 left taken taken_after)

-- ---- each line

module _ {X A : Type 0} (shown : A → List ℕ) (tells : X → A → Type 0) (each : (x : X) → (a : A) × tells x a) where
  lines_from : (k : ℕ) (items : List X) → (out : List ℕ)
      × Groups (λ (s : Unit {0}) (x : X) (a : A). tells x a) (λ (s : Unit {0}) (x : X) (a : A). s)
      (λ (k : ℕ) (x : X) (a : A). shown a) k tt items tt out
  lines_from k [] = ([], (refl, refl))
  lines_from k (x ∷ xs) = let t = each x in let rest = lines_from (k + 1) xs in (shown t.0 ++ rest.0, (t.0, rest.0, t.1, rest.1, refl))

  lines_there : (items : List X) → (out : List ℕ) × Each shown tells items out
  lines_there items = lines_from 1 items

row_there : (q : BodyView) (style : Style) (row : Mark × Terms) → (text : List ℕ) × IsMarkedRowText q style row text
unfolding IsRowText
row_there q style row =
    let own = codes "as row " ++ row_text (problem_names q) Inequality row.1 in (
      own ++ row_comment (question_origins (under_all_lines q)) [] [] ++ mark_comment row.0,
      record { own = own; lines = []; weights = []; tells = inr (refl, inr refl); origin = inl refl; is = refl },
    )

proof_there : (q : BodyView) (options : Options) (proof : Form × CertificateView) → (t : ProofTexts) × AreProofTexts q options proof t
unfolding AreProofTexts IsProofText
proof_there q options proof = (record { proof = codes "as weights " ++ certificate_text (problem_names q).variables (question_origins q) proof.1; steps = [] }, inr (inr refl, inl refl))

point_there : (q : BodyView) (values : List ℤ) → (text : List ℕ) × IsPointText (problem_names q) values text
unfolding IsPointText
point_there q values = (codes "as point " ++ values_text (problem_names q) values, inr (inr refl))

obligation_there : (q : BodyView) (options : Options) (proof : Form × CertificateView) → (t : Option ProofTexts) × TellsObligation q options proof t
obligation_there q options proof = let t = proof_there q options proof in (Some t.0, t.1)

own_line_there : (q : BodyView) (options : Options) (parts : List ℕ) (line : OwnLine) → (out : List ℕ) × AreOwnLineTexts q options parts line out
own_line_there q options parts line =
    let below = lines_there obligation_lines (TellsObligation q options) (obligation_there q options) (zip line.forms line.proofs) in (
      indented_line (own_line_comment q parts line.origin [] (length below.0 == 0)) ++ below.0,
      record { relation = []; proofs = below.0; says = inr refl; are = below.1; out_is = refl },
    )

contained_there : (q : BodyView) (options : Options) (style : Style) (parts : List ℕ) (ws : List CertificateView)
    → (out : List ℕ) × AreContainedLines q options style parts ws out
unfolding AreContainedLines
contained_there q options Plain parts ws = lines_there proof_lines (AreProofTexts q options) (proof_there q options)
    (zip (answer_forms q (Contained parts ws)) ws)
contained_there q options Named parts ws = lines_there (λ lines. lines) (AreOwnLineTexts q options parts) (own_line_there q options parts)
    (own_lines q parts ws)
contained_there q options Whole parts ws = lines_there (λ lines. lines) (AreOwnLineTexts q options parts) (own_line_there q options parts)
    (own_lines q parts ws)

details_there : (q : BodyView) (options : Options) (a : AnswerView) → (out : List ℕ) × AreDetails q options a out
unfolding AreDetails
details_there q options (Yes proofs) = lines_there proof_lines (AreProofTexts q options) (proof_there q options) (zip (answer_forms q (Yes proofs)) proofs)
details_there q options (No back values) = let point = point_there q values in (indented_line point.0, (point.0, (point.1, refl)))
details_there q options (Undecided cause) = ([], refl)
details_there q options (Region rows) = lines_there indented_line (IsMarkedRowText q options.style) (row_there q options.style)
    (told_rows options.style (variable_count q) rows)
details_there q options (Contained parts proofs) = contained_there q options options.style parts proofs
details_there q options (Open tried) = ([], refl)

reading_there : (options : Options) (line : List ℕ) (v : LineVerdict) → IsVerdict widest line v → is_invalid v ≡ false → (x : Reading)
    → ReadsReport widest line (Ok x) → (telling : Telling) × IsTelling options line telling
reading_there options line v is accepted (reports.Answered source a) reads =
    let details = details_there (asked source).body options a in
    (Answered source a details.0, (record { verdict = v; is = is; accepted = accepted; reads = reads }, details.1))
reading_there options line v is accepted (reports.Coded source a c) reads =
    let details = details_there (asked source).body options a in
    (tellings.Coded source a c details.0, (record { verdict = v; is = is; accepted = accepted; reads = reads }, details.1))
reading_there options line v is accepted (reports.Derived source a ws) reads =
    let details = details_there (asked source).body options a in
    (tellings.Derived source a ws details.0, (record { verdict = v; is = is; accepted = accepted; reads = reads }, details.1))
reading_there options line v is accepted (reports.Factored source best) reads
    = (tellings.Factored source best, record { verdict = v; is = is; accepted = accepted; reads = reads })
reading_there options line v is accepted (reports.Bounded source b) reads
    = (tellings.Bounded source b, record { verdict = v; is = is; accepted = accepted; reads = reads })
reading_there options line v is accepted reports.Misfit reads = (tellings.Misfit, reads)

pub each_line_is_told : EachLineIsTold
each_line_is_told options line = let judged = (each_line_is_judged widest 1 line).2 in by_verdict judged.verdict judged.is
  where
    by_verdict : (v : LineVerdict) → IsVerdict widest line v → (telling : Telling) × IsTelling options line telling
    by_verdict NotJson is = (tellings.Invalid NotJson, (is, refl))
    by_verdict (Shape key) is = (tellings.Invalid (Shape key), (is, refl))
    by_verdict Skipped is = reading_there options line Skipped is refl is.reading is.reads
    by_verdict (Judged names v) is = by_test (is_invalid (Judged names v)) refl
      where
        by_test : (b : Bool) → is_invalid (Judged names v) ≡ b → (telling : Telling) × IsTelling options line telling
        by_test true e = (tellings.Invalid (Judged names v), (is, e))
        by_test false e = reading_there options line (Judged names v) is e is.reading is.reads
    by_verdict (Weighed names v) is = by_test (is_invalid (Weighed names v)) refl
      where
        by_test : (b : Bool) → is_invalid (Weighed names v) ≡ b → (telling : Telling) × IsTelling options line telling
        by_test true e = (tellings.Invalid (Weighed names v), (is, e))
        by_test false e = reading_there options line (Weighed names v) is e is.reading is.reads
    by_verdict (OtherCode names s) is = (tellings.Invalid (OtherCode names s), (is, refl))
    by_verdict (Hulled v) is = by_test (is_invalid (Hulled v)) refl
      where
        by_test : (b : Bool) → is_invalid (Hulled v) ≡ b → (telling : Telling) × IsTelling options line telling
        by_test true e = (tellings.Invalid (Hulled v), (is, e))
        by_test false e = reading_there options line (Hulled v) is e is.reading is.reads

-- ---- what is told is true

none_claims_nothing : (q : BodyView) (verb : VerbView) (a : AnswerView) → verdict_of q a ≡ None → IsClaimTrueBy q verb a
none_claims_nothing q verb (Yes ws) e = absurd cc
none_claims_nothing q verb (No back values) e = absurd cc
none_claims_nothing q verb (Contained parts proofs) e = absurd cc
none_claims_nothing q (Prove r) (Undecided cause) e = tt
none_claims_nothing q (Prove r) (Region rows) e = tt
none_claims_nothing q (Prove r) (Open tried) e = tt
none_claims_nothing q (Eliminate rates) (Undecided cause) e = tt
none_claims_nothing q (Eliminate rates) (Region rows) e = tt
none_claims_nothing q (Eliminate rates) (Open tried) e = tt
none_claims_nothing q (Contain first second tries) (Undecided cause) e = tt
none_claims_nothing q (Contain first second tries) (Region rows) e = tt
none_claims_nothing q (Contain first second tries) (Open tried) e = tt

pub told_answers_are_true : ToldAnswersAreTrue
told_answers_are_true options line source a details (h, lines) = by_verdict h.verdict h.is h.accepted
  where
    by_verdict : (v : LineVerdict) → IsVerdict widest line v → is_invalid v ≡ false → IsClaimTrueBy (asked source).body (asked source).body.verb a
    by_verdict NotJson is accepted = absurd (true≢false accepted)
    by_verdict (Shape key) is accepted = absurd (true≢false accepted)
    by_verdict Skipped is accepted =
        let same = same_read is.reading (reports.Answered source a) (one_reading widest line (Ok is.reading)
        (Ok (reports.Answered source a)) is.reads h.reads) in
        none_claims_nothing (asked source).body (asked source).body.verb a (subst (λ (x : Reading). IsReadingVerdict x Skipped) same is.verdict)
    by_verdict (Weighed names v) is accepted =
        let same = same_read is.reading (reports.Answered source a) (one_reading widest line (Ok is.reading)
        (Ok (reports.Answered source a)) is.reads h.reads) in
        absurd (subst (λ (x : Reading). IsReadingVerdict x (Weighed names v)) same is.verdict)
    by_verdict (OtherCode names s) is accepted = absurd (true≢false accepted)
    by_verdict (Judged names v) is accepted =
        valid_is_true widest line names source a (subst (λ (w : Verdict). IsVerdict widest line (Judged names w)) (not_invalid_is_valid v accepted) is) h.reads
    by_verdict (Hulled v) is accepted =
        let same = same_read is.reading (reports.Answered source a) (one_reading widest line (Ok is.reading)
        (Ok (reports.Answered source a)) is.reads h.reads) in
        absurd (subst (λ (x : Reading). IsReadingVerdict x (Hulled v)) same is.verdict)

-- what a told no with a code claims is true
pub told_codes_are_true : ToldCodesAreTrue
told_codes_are_true options line source back values code details (h, lines) = by_verdict h.verdict h.is h.accepted
  where
    on_code : (v : LineVerdict) (r : HasReading widest line v) → IsCodedVerdict (asked source).body (No back values) code v
    on_code v r =
        let same = same_read r.reading (reports.Coded source (No back values) code)
        (one_reading widest line (Ok r.reading) (Ok (reports.Coded source (No back values) code)) r.reads h.reads) in
        subst (λ (x : Reading). IsReadingVerdict x v) same r.verdict

    by_verdict : (v : LineVerdict) → IsVerdict widest line v → is_invalid v ≡ false
        → IsClaimTrue (asked source).body (No back values) × AreEntropies code.code code.times values
    by_verdict NotJson is accepted = absurd (true≢false accepted)
    by_verdict (Shape key) is accepted = absurd (true≢false accepted)
    by_verdict (OtherCode names s) is accepted = absurd (true≢false accepted)
    by_verdict Skipped is accepted = absurd (on_code Skipped is)
    by_verdict (Weighed names v) is accepted = absurd (on_code (Weighed names v) is)
    by_verdict (Hulled v) is accepted = absurd (on_code (Hulled v) is)
    by_verdict (Judged names v) is accepted =
        let true_code = valid_code_is_true widest line names source back values code
        (subst (λ (w : Verdict). IsVerdict widest line (Judged names w)) (not_invalid_is_valid v accepted) is) h.reads in
        (true_code.0, true_code.3)
