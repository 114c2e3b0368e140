-- A report that tells certificates of a region's rows is accepted, and so is one in any format.
use Rattle.std.proofs.Common.{◌≡◌, ℕ, ◌<◌, ◌≤◌, ◌^◌, ℤ, List, [], ◌∷◌, ◌++◌, map, filter, length, All, Option, Some, None, IfSome, Ok, cond, codes, if◌then◌else◌, refl, sym, ap, subst, ◌∙◌}
use Rattle.std.specs.List.{AllZip}
use Rattle.std.proofs.lemmas.List.Elements.{All-nil, All-cons, All-head, All-tail}
use Rattle.it_settings.specs.declared.types.Format.{Format}
use Rattle.it_settings.specs.declared.types.Format.TheVariants.{Text, Json, Proof, Derived}
use Rattle.it_space.specs.declared.answers.Mark.{Mark}
use Rattle.it_space.specs.Answers.{AnswerView, CertificateView, is_nonzero_weight}
use Rattle.it_space.specs.Answers.AnswerView.{Yes, No, Undecided, Region, Contained, Open}
use Rattle.it_problems.specs.Problems.{ProblemView}
use Rattle.it_space.specs.Rows.{Terms}
use Rattle.it_question.specs.declared.sizes.FileLimits.{FileLimits}
use Rattle.it_question.specs.Files.{IsFileWithin}
use Rattle.it_question.specs.Questions.{QuestionView, VerbView, Prove, Eliminate, Contain}
use Rattle.it_demand.proofs.ZipLemmas.{zip-length}
use Rattle.it_canon.specs.QuestionDemands.{problem_of}
use Rattle.it_canon.proofs.ExistenceLemmas.{system_rows}
use Rattle.it_region.specs.declared.types.Candidate.{Candidate}
use Rattle.it_contain.specs.Proposals.{Plan}
use Rattle.it_origins.specs.Origins.{IsOfConstraint}
use Rattle.it_rates.specs.Asked.{under_all_lines}
use Rattle.it_answer.specs.declared.types.Budgets.{Budgets}
use Rattle.it_answer.specs.RightAnswers.{IsDueBy, IsRightAnswer, budgets_under}
use Rattle.it_answer.specs.Shows.{ShowsBy}
use Rattle.it_answer.specs.Truth.{region_rows}
use Rattle.it_certificate.specs.AnswerShapes.{HasQuestionShape, IsNumbered, IsNumberedAmount}
use Rattle.it_certificate.specs.Laws.{OriginsReadBack, ReadsBack, without_zeros}
use Rattle.it_certificate.specs.Reports.{Derived as DerivedReading, ReadsReport}
use Rattle.it_certificate.specs.Sources.{Text as QuestionText}
use Rattle.it_certificate.specs.Values.{derived_text, derived_value}
use Rattle.it_certificate.proofs.RowLemmas.{nonzero_passes}
use Rattle.it_report.specs.RowVerdicts.{is_valid, proofs_verdict}
use Rattle.it_report.specs.LineVerdicts.{Judged}
use Rattle.it_check.specs.declared.verdicts.Verdict.TheVariants.{Valid}
use Rattle.it_cli.specs.Accepted.{IsOfReports, ReportsAreAccepted}
use Rattle.it_cli.specs.ToldOrigins.{AreToldOrigins, IsRightTold, IsToldOrigin, ToldReply, told_lines, told_report}
use Rattle.it_cli.proofs.AcceptLemmas.{IsAccepted, accepted_by_verdict, limits, question_fits, right_accepted, small, text_is}
use Rattle.it_cli.proofs.DataLemmas.{derived_plain, derived_text_back, derived_text_utf8}
use Rattle.it_cli.proofs.FeedLemmas.{derived_text_clear}
use Rattle.it_cli.proofs.OriginLemmas.{report_without}
use Rattle.it_cli.proofs.RegionFits.{right_region_fits}

-- ---- the certificates

-- weights of constraints are written whole
weights_are_some : (n : ℕ) (ts : List (ℕ × ℤ)) → All (IsOfConstraint n) ts → filter is_nonzero_weight ts ≡ ts
weights_are_some n [] all = refl
weights_are_some n (t ∷ ts) all =
    ap (λ b. cond b (t ∷ filter is_nonzero_weight ts) (filter is_nonzero_weight ts))
    (nonzero_passes t.1 (All-head (IsOfConstraint n) t ts all).1)
    ∙ ap (λ zs. t ∷ zs) (weights_are_some n ts (All-tail (IsOfConstraint n) t ts all))

module _ (p : ProblemView) where
  told_whole : (rows : List Terms) (ws : List CertificateView) → AllZip (IsToldOrigin p) rows ws → map without_zeros ws ≡ ws
  told_whole [] [] z = refl
  told_whole [] (w ∷ ws) z = absurd z
  told_whole (row ∷ rows) [] z = absurd z
  told_whole (row ∷ rows) (w ∷ ws) z =
      ap (λ ps. record { scale = w.scale; weights = ps } ∷ map without_zeros ws) (weights_are_some p.space.variables w.weights z.0.0.own)
      ∙ ap (λ vs. w ∷ vs) (told_whole rows ws z.1)

  told_numbered : (rows : List Terms) (ws : List CertificateView) → AllZip (IsToldOrigin p) rows ws → All IsNumbered ws
  told_numbered [] [] z = All-nil IsNumbered
  told_numbered [] (w ∷ ws) z = absurd z
  told_numbered (row ∷ rows) [] z = absurd z
  told_numbered (row ∷ rows) (w ∷ ws) z = All-cons IsNumbered w ws z.0.1 (told_numbered rows ws z.1)

  told_valid : (rows : List Terms) (ws : List CertificateView) → AllZip (IsToldOrigin p) rows ws → proofs_verdict p rows ws ≡ Valid
  unfolding proofs_verdict
  told_valid [] [] z = refl
  told_valid [] (w ∷ ws) z = absurd z
  told_valid (row ∷ rows) [] z = absurd z
  told_valid (row ∷ rows) (w ∷ ws) z = ap (λ v. if is_valid v then proofs_verdict p rows ws else v) z.0.0.valid ∙ told_valid rows ws z.1

-- ---- the line of a region with certificates of its rows

module _ (allowed : FileLimits) (back : ReadsBack) (origins_back : OriginsReadBack) (q : QuestionView) (short : length q.text ≤ 1048577)
    (file : IsFileWithin allowed q.text (q ∷ [])) where
  region_accepted : (rows : List (Mark × Terms)) (ws : List CertificateView) → HasQuestionShape q.body (Region rows) → All (λ r. All IsNumberedAmount r.1) rows
      → AllZip (IsToldOrigin (problem_of (under_all_lines q.body))) (region_rows rows) ws → IsAccepted allowed (derived_text q.text q.body.names rows ws)
  region_accepted rows ws fits amounts told =
      let p = problem_of (under_all_lines q.body) in
      let line = derived_text q.text q.body.names rows ws in
      let numbers = told_numbered p (region_rows rows) ws told in
      let plain = derived_plain q.text q.body.names (text_is allowed back q short file) rows ws amounts numbers in
      let reads : ReadsReport allowed line (Ok (DerivedReading (QuestionText q) (Region rows) (map without_zeros ws))) = record {
        value = derived_value q.text q.body.names rows ws;
        utf8 = derived_text_utf8 q.text q.body.names rows ws plain;
        is_json = derived_text_back q.text q.body.names rows ws plain;
        reads = origins_back allowed q rows ws short file (record {
          answered = fits;
          region = tt;
          each = zip-length (IsToldOrigin p)
              (region_rows rows) ws told;
          numbers = numbers;
        });
      } in
      accepted_by_verdict allowed line (Judged q.body.names Valid) (derived_text_clear q.text q.body.names rows ws plain)
      (record {
        reading = DerivedReading (QuestionText q) (Region rows) ws;
        reads = subst (λ us. ReadsReport allowed line (Ok (DerivedReading (QuestionText q) (Region rows) us))) (told_whole p (region_rows rows) ws told) reads;
        verdict = ap (Judged q.body.names) (sym (told_valid p (region_rows rows) ws told));
      }) refl

  by_verb : (budgets : Budgets) (plans : List Plan) (verb : VerbView) (rows : List (Mark × Terms)) (found : List Candidate)
      (ws : List CertificateView) → q.body.verb ≡ verb → ShowsBy q.body verb (Region rows)
      → IsDueBy budgets plans q.body verb (record { answer = Region rows; found = found })
      → AllZip (IsToldOrigin (problem_of (under_all_lines q.body))) (region_rows rows) ws
      → IsAccepted allowed (derived_text q.text q.body.names rows ws)
  by_verb budgets plans (Prove r) rows found ws about shown due told = absurd shown
  by_verb budgets plans (Eliminate rates) rows found ws about shown due told =
      let fits = right_region_fits budgets q.body rates rows (limits allowed back q short file)
      (system_rows q.body (limits allowed back q short file) (small allowed back q short file)) shown due.0 in
      region_accepted rows ws (question_fits q.body (Region rows) (Eliminate rates) about fits) (λ i d l. (fits i d l).terms) told
  by_verb budgets plans (Contain first second tries) rows found ws about shown due told = absurd shown

  module _ (budgets : Budgets) (plans : List Plan) (few : IfSome budgets.effort.pivots (λ n. n < 2 ^ 32)) (few_tries : budgets.tries < 2 ^ 32) where
    by_origins : (format : Format) (answer : AnswerView) (found : List Candidate) (origins : Option (List CertificateView))
        → IsRightAnswer budgets plans q.body (record { answer = answer; found = found })
        → AreToldOrigins format q.body answer origins → IsAccepted allowed (told_report q answer origins)
    by_origins format answer found None right told =
        subst (IsAccepted allowed) (sym (report_without q answer)) (right_accepted allowed back budgets plans q
        (record { answer = answer; found = found }) few few_tries short file right)
    by_origins Text answer found (Some ws) right told = absurd (cc)
    by_origins Json answer found (Some ws) right told = absurd (cc)
    by_origins Proof answer found (Some ws) right told = absurd (cc)
    by_origins Derived (Yes proofs) found (Some ws) right told = absurd (cc)
    by_origins Derived (No is_back values) found (Some ws) right told = absurd (cc)
    by_origins Derived (Undecided cause) found (Some ws) right told = absurd (cc)
    by_origins Derived (Region rows) found (Some ws) right told =
        by_verb (budgets_under (problem_of q.body) budgets) plans q.body.verb rows found ws refl right.shows right.due told
    by_origins Derived (Contained parts proofs) found (Some ws) right told = absurd (cc)
    by_origins Derived (Open tried) found (Some ws) right told = absurd (cc)

pub told_accepted : (allowed : FileLimits) → ReadsBack → OriginsReadBack → (format : Format) (budgets : Budgets) (plans : List Plan) (q : QuestionView)
    (told : ToldReply) → IfSome budgets.effort.pivots (λ n. n < 2 ^ 32) → budgets.tries < 2 ^ 32 → length q.text ≤ 1048577
    → IsFileWithin allowed q.text (q ∷ []) → IsRightTold format budgets plans q.body told → IsAccepted allowed (told_report q told.reply.answer told.origins)
told_accepted allowed back origins_back format budgets plans q told few few_tries short file right =
    by_origins allowed back origins_back q short file budgets plans few few_tries format told.reply.answer told.reply.found told.origins right.reply
    right.origins

pub reports_are_accepted : ReadsBack → OriginsReadBack → ReportsAreAccepted
reports_are_accepted back origins_back allowed format budgets plans q told few few_tries short file right
    = (told_accepted allowed back origins_back format budgets plans q told few few_tries short file right).verdicts

-- in a format that writes reports the lines are the report
pub lines_are_report : (format : Format) → IsOfReports format → (k : ℕ) (q : QuestionView) (told : ToldReply) → AreToldOrigins format q.body told.reply.answer told.origins → told_lines format k q told ≡ told_report q told.reply.answer told.origins ++ codes "\n"
lines_are_report Text is k q told origins = absurd is
lines_are_report Json is k q told origins = ap (λ (t : List ℕ). t ++ codes "\n") (sym (report_without q told.reply.answer) ∙ ap (told_report q told.reply.answer) (sym origins))
lines_are_report Proof is k q told origins = absurd is
lines_are_report Derived is k q told origins = refl
