-- What is written of a region with a certificate for each of its rows reads back.
use Rattle.std.proofs.Common.{◌≡◌, ℕ, List, length, map, refl, ap, ◌∙◌, Some, None, Ok, option_map, true, false, cond, codes}
use Rattle.std.specs.Prelude.{All, ok_or}
use Rattle.serde_json.specs.Find.{get}
use Rattle.it_space.specs.Rows.{Terms}
use Rattle.it_space.specs.Spaces.{size_of}
use Rattle.it_space.specs.Answers.{CertificateView}
use Rattle.it_space.specs.Answers.AnswerView.{Region}
use Rattle.it_space.specs.declared.answers.Mark.{Mark}
use Rattle.it_syntax.specs.NamesViews.{NamesView}
use Rattle.it_question.specs.Questions.{QuestionView, VerbView, Prove, Eliminate, Contain}
use Rattle.it_demand.specs.QuestionSpaces.{space_of}
use Rattle.it_certificate.specs.declared.keys.Key.TheVariants as keys
use Rattle.it_certificate.specs.declared.kinds.AnswerKind.TheVariants as kinds
use Rattle.it_certificate.specs.AnswerReading.{and_then}
use Rattle.it_certificate.specs.AnswerShapes.{HasQuestionShape, HasVerbShape, IsNumbered, IsRowIn}
use Rattle.it_certificate.specs.CodeReading.{tells_code}
use Rattle.it_certificate.specs.FactorReading.{factor_kind_at}
use Rattle.it_certificate.specs.Laws.{OriginsReadBack, without_zeros}
use Rattle.it_certificate.specs.OriginReading.{answer_origins, tells_origins}
use Rattle.it_certificate.specs.Parts.{marked_row_at, origins_at, rows_at, text_of}
use Rattle.it_certificate.specs.Reports.{Derived, Misfit, answer_of, bounded_of, coded_of, derived_of, reading_by, report_of, tells_misfit, tells_outer, verb_answer}
use Rattle.it_certificate.specs.Sources.{Text}
use Rattle.it_certificate.specs.Values.{answer_members, derived_value, row_value}
use Rattle.it_certificate.proofs.RoundLemmas.{certificates_back, row_back, same_back}

module _ (text : List ℕ) (v : NamesView) (rows : List (Mark × Terms)) (ws : List CertificateView) where
  -- ---- its word and its keys

  no_misfit : tells_misfit (derived_value text v rows ws) ≡ false
  unfolding tells_misfit derived_value answer_members
  no_misfit = refl

  no_bounds : tells_outer (derived_value text v rows ws) ≡ false
  unfolding tells_outer derived_value answer_members
  no_bounds = refl

  no_factor : factor_kind_at (derived_value text v rows ws) ≡ None
  unfolding factor_kind_at derived_value answer_members
  no_factor = refl

  no_code : tells_code (derived_value text v rows ws) ≡ false
  unfolding tells_code derived_value answer_members
  no_code = refl

  has_origins : tells_origins (derived_value text v rows ws) ≡ true
  unfolding tells_origins derived_value answer_members
  has_origins = refl

  other_key : (get (codes "sharing") (derived_value text v rows ws) ≡ None) × (get (codes "copies") (derived_value text v rows ws) ≡ None)
  unfolding derived_value answer_members
  other_key = (refl, refl)

  text_back : text_of (get (codes "question") (derived_value text v rows ws)) ≡ Some text
  unfolding derived_value answer_members
  text_back = refl

  -- ---- its rows and their certificates

  rows_back : (size : ℕ) → All (IsRowIn size) rows → ok_or (option_map Region (rows_at size (derived_value text v rows ws))) keys.Rows ≡ Ok (Region rows)
  unfolding rows_at derived_value answer_members
  rows_back size all = ap (λ o. ok_or (option_map Region o) keys.Rows) (same_back (IsRowIn size) (marked_row_at size) row_value (row_back size) rows all)

  region_back : (verb : VerbView) → HasVerbShape v verb (Region rows) → verb_answer v verb kinds.Region (derived_value text v rows ws) ≡ Ok (Region rows)
  region_back (Prove r) fits = absurd fits
  region_back (Eliminate rates) fits = rows_back (size_of (space_of v)) fits
  region_back (Contain first second tries) fits = absurd fits

  origins_back : length ws ≡ length (map (λ r. r.1) rows) → All IsNumbered ws
      → answer_origins (Region rows) (derived_value text v rows ws) ≡ Ok (map without_zeros ws)
  unfolding answer_origins origins_at derived_value answer_members
  origins_back each numbers = ap (λ o. ok_or o keys.Origins) (certificates_back (length (map (λ r. r.1) rows)) ws each numbers)

shape_of : (q : QuestionView) (rows : List (Mark × Terms)) → HasQuestionShape q.body (Region rows) → HasVerbShape q.body.names q.body.verb (Region rows)
unfolding HasQuestionShape
shape_of q rows fits = fits

pub origins_read_back : OriginsReadBack
unfolding report_of
origins_read_back limits q rows ws short file fits =
    let v = q.body.names in
    let d = derived_value q.text v rows ws in
    let others = other_key q.text v rows ws in
    record {
      own = Some (Text q);
      source = record { no_sharing = others.0; no_copies = others.1; text = q.text; there = text_back q.text v rows ws; short = short; reads = file };
      is = ap (λ b. cond b (Ok Misfit) (cond (tells_outer d) (bounded_of (Some (Text q)) d)
          (reading_by (Some (Text q)) (factor_kind_at d) d))) (no_misfit q.text v rows ws)
          ∙ ap (λ b. cond b (bounded_of (Some (Text q)) d) (reading_by (Some (Text q)) (factor_kind_at d) d)) (no_bounds q.text v rows ws)
          ∙ ap (λ k. reading_by (Some (Text q)) k d) (no_factor q.text v rows ws)
          ∙ ap (λ b. cond b (coded_of (Some (Text q)) d) (cond (tells_origins d) (derived_of (Some (Text q)) d)
          (answer_of (Some (Text q)) d))) (no_code q.text v rows ws)
          ∙ ap (λ b. cond b (derived_of (Some (Text q)) d) (answer_of (Some (Text q)) d)) (has_origins q.text v rows ws)
          ∙ ap (λ r. and_then r (λ a. and_then (answer_origins a d) (λ origins. Ok (Derived (Text q) a origins))))
          (region_back q.text v rows ws q.body.verb (shape_of q rows fits.answered))
          ∙ ap (λ r. and_then r (λ origins. Ok (Derived (Text q) (Region rows) origins))) (origins_back q.text v rows ws fits.each fits.numbers);
    }
