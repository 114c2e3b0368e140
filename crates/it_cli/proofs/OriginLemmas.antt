-- The certificates of a region's rows, and the line that they stand in.
use Rattle.std.proofs.Common.{◌≡◌, ℕ, ◌+◌, ◌<◌, ◌≤◌, List, [], ◌∷◌, ◌++◌, map, length, take, get_or, All, Option, Some, None, option_map, refl, sym, ap, subst, ◌∙◌}
use Rattle.std.specs.Global.{Vec}
use Rattle.std.specs.List.{AllZip}
use Rattle.std.specs.Prelude.{IfSome}
use Rattle.std.proofs.lemmas.Grind.{take_at_read}
use Rattle.std.proofs.lemmas.List.{get_or-map, length-map, map-append, take_all}
use Rattle.std.proofs.lemmas.List.Elements.{All-nil}
use Rattle.it_settings.specs.declared.types.Format.TheVariants.{Derived}
use Rattle.it_space.specs.declared.answers.Mark.{Mark}
use Rattle.it_space.specs.declared.spaces.Space.{Space}
use Rattle.it_space.specs.declared.answers.Certificate.{Certificate}
use Rattle.it_space.specs.Answers.{AnswerView, CertificateView, certificate_view}
use Rattle.it_space.specs.Answers.AnswerView.{Yes, No, Undecided, Region, Contained, Open}
use Rattle.it_problems.specs.Problems.{ProblemView}
use Rattle.it_space.specs.Rows.{IsOver, Terms}
use Rattle.it_space.specs.Spaces.{size_of}
use Rattle.it_question.specs.Questions.{BodyView, QuestionView, VerbView, Prove, Eliminate, Contain}
use Rattle.it_demand.specs.QuestionSpaces.{space_of}
use Rattle.it_demand.proofs.ZipLemmas.{zip-append}
use Rattle.it_canon.specs.QuestionDemands.{IsProblemOf}
use Rattle.it_canon.proofs.PosesLemmas.{one_problem}
use Rattle.it_contain.specs.Proposals.{Plan}
use Rattle.it_rates.specs.Asked.{under_all_lines}
use Rattle.it_certificate.specs.OriginReading.{IsRegion, rows_of}
use Rattle.it_certificate.specs.Values.{answer_text}
use Rattle.it_answer.specs.declared.types.Budgets.{Budgets}
use Rattle.it_answer.specs.Replies.{Reply}
use Rattle.it_answer.specs.RightAnswers.{IsRightAnswer}
use Rattle.it_answer.specs.Shows.{ShowsBy}
use Rattle.it_answer.specs.Truth.{region_rows}
use Rattle.it_cli.specs.ToldOrigins.{AreToldOrigins, IsToldOrigin, told_report}

-- ---- the loop over the rows

module _ (p : ProblemView) where
  -- a row that is read is of the space that all are of
  pub row_over : (rows : List (Mark × Terms)) (i : ℕ) (row : Mark × Terms) → All (IsOver (size_of p.space)) (region_rows rows)
      → i < length rows → row ≡ get_or rows i row → IsOver (size_of p.space) row.1
  row_over rows i row all l at =
      subst (IsOver (size_of p.space)) (get_or-map (λ (r : Mark × Terms). r.1) rows i row row.1 l ∙ ap (λ (r : Mark × Terms). r.1) (sym at))
      (all i row.1 (simp length-map l))

  -- one more row with its certificate
  pub origins_more : (rows : List (Mark × Terms)) (ws new : List CertificateView) (i : ℕ) (row : Mark × Terms) (w : CertificateView)
      → i < length rows → row ≡ get_or rows i row → IsToldOrigin p row.1 w → new ≡ ws ++ w ∷ []
      → AllZip (IsToldOrigin p) (region_rows (take i rows)) ws → AllZip (IsToldOrigin p) (region_rows (take (i + 1) rows)) new
  origins_more rows ws new i row w l at proves is z =
      let longer : take (i + 1) rows ≡ take i rows ++ row ∷ [] = (take_at_read rows i row l).1 ∙ ap (λ (r : Mark × Terms). take i rows ++ r ∷ []) (sym at) in
      let own : region_rows (take (i + 1) rows) ≡ region_rows (take i rows)
      ++ row.1 ∷ [] = ap (λ (rs : List (Mark × Terms)). region_rows rs) longer
      ∙ map-append (λ (r : Mark × Terms). r.1) (take i rows) (row ∷ []) in
      subst (λ (rs : List Terms). AllZip (IsToldOrigin p) rs new) (sym own)
      (subst (λ (xs : List CertificateView). AllZip (IsToldOrigin p) (region_rows (take i rows) ++ row.1 ∷ []) xs) (sym is)
      (zip-append (IsToldOrigin p) (region_rows (take i rows)) (row.1 ∷ []) ws (w ∷ []) z (proves, tt)))

  -- all rows have theirs
  pub origins_all : (rows : List (Mark × Terms)) (ws : List CertificateView) (i : ℕ) → length rows ≤ i
      → AllZip (IsToldOrigin p) (region_rows (take i rows)) ws → AllZip (IsToldOrigin p) (region_rows rows) ws
  origins_all rows ws i l z = subst (λ (rs : List (Mark × Terms)). AllZip (IsToldOrigin p) (region_rows rs) ws) (take_all i rows l) z

-- ---- what is told

module _ (q : BodyView) (p : ProblemView) (posed : IsProblemOf (under_all_lines q) p) where
  -- rows of the question's names are of the problem's space
  pub rows_of_problem : (rows : List (Mark × Terms)) → All (IsOver (size_of (space_of q.names))) (region_rows rows)
      → All (IsOver (size_of p.space)) (region_rows rows)
  rows_of_problem rows all = subst (λ (s : Space). All (IsOver (size_of s)) (region_rows rows)) (sym posed.space) all

  origins_told : (rows : List (Mark × Terms)) (ws : List CertificateView) → AllZip (IsToldOrigin p) (region_rows rows) ws
      → AreToldOrigins Derived q (Region rows) (Some ws)
  origins_told rows ws z = subst (λ (r : ProblemView). AllZip (IsToldOrigin r) (region_rows rows) ws) (one_problem (under_all_lines q) p posed) z

  -- certificates that were found are told
  pub told_where_found : (rows : List (Mark × Terms)) (found : Option (Vec Certificate))
      → IfSome found (λ v. AllZip (IsToldOrigin p) (region_rows rows) (map certificate_view v.items))
      → AreToldOrigins Derived q (Region rows) (option_map (λ v. map certificate_view v.items) found)
  told_where_found rows None h = refl
  told_where_found rows (Some v) h = origins_told rows (map certificate_view v.items) h

-- certificates are told of a region alone
pub told_of_region : (q : BodyView) (answer : AnswerView) (ws : List CertificateView) → AreToldOrigins Derived q answer (Some ws) → IsRegion answer
told_of_region q (Yes proofs) ws told = absurd (cc)
told_of_region q (No back values) ws told = absurd (cc)
told_of_region q (Undecided cause) ws told = absurd (cc)
told_of_region q (Region rows) ws told = tt
told_of_region q (Contained parts proofs) ws told = absurd (cc)
told_of_region q (Open tried) ws told = absurd (cc)

-- a report without certificates is that of the format `json`
pub report_without : (q : QuestionView) (answer : AnswerView) → told_report q answer None ≡ answer_text q.text q.body.names answer
report_without q (Yes proofs) = refl
report_without q (No back values) = refl
report_without q (Undecided cause) = refl
report_without q (Region rows) = refl
report_without q (Contained parts proofs) = refl
report_without q (Open tried) = refl

-- ---- the rows of a right answer

-- the rows of a shown answer are over the question's coordinates
rows_by_verb : (q : BodyView) (verb : VerbView) (answer : AnswerView) → ShowsBy q verb answer → All (IsOver (size_of (space_of q.names))) (rows_of answer)
rows_by_verb q verb (Yes proofs) shown = All-nil (IsOver (size_of (space_of q.names)))
rows_by_verb q verb (No back values) shown = All-nil (IsOver (size_of (space_of q.names)))
rows_by_verb q verb (Undecided cause) shown = All-nil (IsOver (size_of (space_of q.names)))
rows_by_verb q (Prove r) (Region rows) shown = absurd shown
rows_by_verb q (Eliminate rates) (Region rows) shown = shown.coordinates
rows_by_verb q (Contain first second tries) (Region rows) shown = absurd shown
rows_by_verb q verb (Contained parts proofs) shown = All-nil (IsOver (size_of (space_of q.names)))
rows_by_verb q verb (Open tried) shown = All-nil (IsOver (size_of (space_of q.names)))

pub right_rows_over : (budgets : Budgets) (plans : List Plan) (q : BodyView) (reply : Reply) → IsRightAnswer budgets plans q reply
    → All (IsOver (size_of (space_of q.names))) (rows_of reply.answer)
right_rows_over budgets plans q reply right = rows_by_verb q q.verb reply.answer right.shows
