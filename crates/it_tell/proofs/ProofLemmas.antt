-- The lines of proofs of rows, which are those of an answer's forms.
use Rattle.std.proofs.Common.{◌≡◌, ℕ, zero, suc, ◌+◌, ◌<◌, ◌≤◌, ℤ, pos, ◌≤ℤ◌, Option, None, Some, inl, inr, true, List, [], ◌∷◌, ◌++◌, map, length, get_or, refl, sym, ap, ap₂, subst, ◌∙◌, arith}
use Rattle.std.specs.List.{zip}
use Rattle.std.proofs.lemmas.List.{get_or_default, get_or-map, length-map}
use Rattle.std.proofs.lemmas.Slice.Zip.{get_or-zip, length-zip}
use Rattle.it_space.specs.declared.answers.Certificate.{Certificate}
use Rattle.it_space.specs.declared.spaces.Space.{Space}
use Rattle.it_space.specs.Answers.{AnswerView, CertificateView, certificate_view}
use Rattle.it_space.specs.Answers.AnswerView.{Contained, Yes}
use Rattle.it_space.specs.Rows.{Terms, value}
use Rattle.it_polymatroid.specs.Certificates.{Form}
use Rattle.it_question.specs.Questions.{BodyView}
use Rattle.it_demand.proofs.ZipLemmas.{zip-length}
use Rattle.it_demand.specs.QuestionSpaces.{space_of}
use Rattle.it_question.specs.ProblemLines.{problem_names}
use Rattle.it_region.specs.Obligations.{ArePulledRows, IsPulledRow}
use Rattle.it_certificate.specs.AnswerShapes.{HasQuestionShape}
use Rattle.it_region.specs.AnswerForms.{answer_forms}
use Rattle.it_tell.specs.Tellings.{AreContainedLines, AreDetails, AreProofTexts, IsProofText, ProofTexts, TellsObligation, obligation_lines, proof_lines}
use Rattle.it_tell.specs.Settings.{is_plain}
use Rattle.it_tell.specs.declared.settings.Style.TheVariants.{Plain, Named, Whole}
use Rattle.std.proofs.lemmas.Bool.{false≢true}
use Rattle.it_tell.specs.Steps.{AppendsDetails, AppendsEach, AppendsObligation, AppendsOwnProofs, AppendsProof, AppendsProofs, AreFormRows, AreObligations, AreRowsFor}
use Rattle.it_tell.proofs.DetailLemmas.{Appended, all_appended, appended_more, none_appended}
use Rattle.it_tell.proofs.PrintableLemmas.{contained_counted, yes_counted}
use Rattle.it_tell.specs.declared.settings.Options.{Options}
use Rattle.it_tell.specs.declared.settings.Style.{Style}
use Rattle.it_canon.specs.QuestionDemands.{question_demands}
use Rattle.it_canon.specs.TrueLines.{variable_count}
use Rattle.it_terms.specs.Proofs.{constraints_of}
use Rattle.it_terms.proofs.SameProofs.{proof_of_same, same_constraints, under_of_same_target}

-- the row at a place is that of the form there
row_at_place : (s : Space) (fs : List Form) (ts : List Terms) (i : ℕ) → ArePulledRows s fs ts → i < length fs
    → IsPulledRow s (get_or fs i (λ p. pos 0)) (get_or ts i [])
row_at_place s [] ts i z h = absurd (omega arith)
row_at_place s (f ∷ fs) [] i z h = absurd z
row_at_place s (f ∷ fs) (t ∷ ts) zero z h = z.0
row_at_place s (f ∷ fs) (t ∷ ts) (suc i) z h = row_at_place s fs ts i z.1 (omega arith)

-- what tells a proof of a form's row tells one of the form
form_told : (q : BodyView) (s : Space) (f : Form) (row : Terms) (w : CertificateView) (text : List ℕ) → IsPulledRow s f row
    → IsProofText q (value row, w) text → IsProofText q (f, w) text
unfolding IsProofText
form_told q s f row w text pulled (inl h) = let g = constraints_of (question_demands q) in inl (record {
  relation = h.relation;
  is = h.is;
  proves = proof_of_same (variable_count q) h.relation (value row) f g g pulled.same (same_constraints g) h.proves;
})
form_told q s f row w text pulled (inr e) = inr e

-- texts of a proof of a form's row are texts of one of the form
pub texts_carried : (q : BodyView) (options : Options) (s : Space) (f : Form) (row : Terms) (w : CertificateView) (t : ProofTexts)
    → IsPulledRow s f row → AreProofTexts q options (value row, w) t → AreProofTexts q options (f, w) t
unfolding AreProofTexts
texts_carried q options s f row w t pulled (inl h) = inl (record {
  lines = h.lines;
  named = h.named;
  own = h.own;
  tells = under_of_same_target q h.lines h.named (value row) f h.own pulled.same h.tells;
  names = h.names;
  proof_is = h.proof_is;
  steps_are = h.steps_are;
})
texts_carried q options s f row w t pulled (inr are) = inr (form_told q s f row w t.proof pulled are.0, are.1)

-- what Shannon's inequalities say of a form's row, they say of the form
obligation_carried : (q : BodyView) (options : Options) (s : Space) (f : Form) (row : Terms) (w : CertificateView) (t : Option ProofTexts)
    → IsPulledRow s f row → TellsObligation q options (value row, w) t → TellsObligation q options (f, w) t
obligation_carried q options s f row w None pulled is = λ p k. subst (λ (x : ℤ). pos 0 ≤ℤ x) (pulled.same p k.empty) (is p k)
obligation_carried q options s f row w (Some t) pulled are = texts_carried q options s f row w t pulled are

-- ---- rows with certificates

module _ {A : Type 0} (shown : A → List ℕ) (tells : Form × CertificateView → A → Type 0)
    (carried : (s : Space) (f : Form) (row : Terms) (w : CertificateView) (a : A) → IsPulledRow s f row → tells (value row, w) a
    → tells (f, w) a) where
  -- the lines of the first i rows are appended, whichever forms these are of
  abbrev pub RowsAppended : List Terms → List CertificateView → List ℕ → List ℕ → ℕ → Type 0
  RowsAppended rows ws old new i = (forms : List Form) → AreRowsFor forms rows → Appended shown tells old new (zip forms ws) i

  no_row_appended : (rows : List Terms) (ws : List CertificateView) (old : List ℕ) → RowsAppended rows ws old old 0
  no_row_appended rows ws old forms are = none_appended shown tells old (zip forms ws)

  rows_more : (rows : List Terms) (cs : List Certificate) (row : Terms) (c : Certificate) (a : A) (old now new : List ℕ) (i : ℕ)
      → RowsAppended rows (map certificate_view cs) old now i → length rows ≡ length cs → i < length cs
      → row ≡ get_or rows i row → c ≡ get_or cs i c → tells (value row, certificate_view c) a → new ≡ now ++ shown a
      → RowsAppended rows (map certificate_view cs) old new (i + 1)
  unfolding AreRowsFor
  rows_more rows cs row c a old now new i before as_many within row_read read told new_is forms are =
      appended_more shown tells old now new (zip forms ws) i (form, certificate_view c) a (before forms are) in_zip at_zip form_is_told new_is
    where
      ws : List CertificateView
      ws = map certificate_view cs

      form : Form
      form = get_or forms i (λ p. pos 0)

      in_ws : i < length ws
      in_ws = simp length-map within

      in_forms : i < length forms
      in_forms = omega (arith, zip-length (IsPulledRow are.0) forms rows are.1, as_many, within)

      in_rows : i < length rows
      in_rows = omega (arith, as_many, within)

      in_zip : i < length (zip forms ws)
      in_zip = omega (arith, length-zip forms ws, in_forms, in_ws)

      at_zip : get_or (zip forms ws) i (form, certificate_view c) ≡ (form, certificate_view c)
      at_zip = get_or-zip forms ws i (form, certificate_view c) in_forms in_ws
          ∙ ap₂ (λ f w. (f, w)) (get_or_default forms i form (λ p. pos 0) in_forms)
          (get_or-map certificate_view cs i c (certificate_view c) within ∙ ap certificate_view (sym read))

      row_is : get_or rows i [] ≡ row
      row_is = get_or_default rows i [] row in_rows ∙ sym row_read

      form_is_told : tells (form, certificate_view c) a
      form_is_told = carried are.0 form row (certificate_view c) a (subst (IsPulledRow are.0 form) row_is (row_at_place are.0 forms rows i are.1 in_forms)) told

  all_rows : (rows : List Terms) (ws : List CertificateView) (old new : List ℕ) (i : ℕ) → RowsAppended rows ws old new i → length ws ≤ i
      → (forms : List Form) → AreRowsFor forms rows → AppendsEach shown tells (zip forms ws) old new
  all_rows rows ws old new i u all forms are = all_appended shown tells old new (zip forms ws) i (u forms are) (omega (arith, length-zip forms ws, all))

-- the lines of the first i proofs are appended, whichever forms the rows are of
abbrev pub ProofsAppended : BodyView → Options → List Terms → List CertificateView → List ℕ → List ℕ → ℕ → Type 0
ProofsAppended q options rows ws old new i = (forms : List Form) → AreRowsFor forms rows
    → Appended proof_lines (AreProofTexts q options) old new (zip forms ws) i

pub no_proof_appended : (q : BodyView) (options : Options) (rows : List Terms) (ws : List CertificateView) (old : List ℕ)
    → ProofsAppended q options rows ws old old 0
no_proof_appended q options = no_row_appended proof_lines (AreProofTexts q options) (texts_carried q options)

pub proofs_more : (q : BodyView) (options : Options) (rows : List Terms) (cs : List Certificate) (row : Terms) (c : Certificate)
    (old now new : List ℕ) (i : ℕ) → ProofsAppended q options rows (map certificate_view cs) old now i
    → length rows ≡ length cs → i < length cs → row ≡ get_or rows i row → c ≡ get_or cs i c
    → AppendsProof q options (value row, certificate_view c) now new
    → ProofsAppended q options rows (map certificate_view cs) old new (i + 1)
proofs_more q options rows cs row c old now new i before as_many within row_read read told =
    rows_more proof_lines (AreProofTexts q options) (texts_carried q options) rows cs row c told.texts old now new i before as_many within
    row_read read told.are told.new_is

pub all_proofs : (q : BodyView) (options : Options) (rows : List Terms) (ws : List CertificateView) (old new : List ℕ) (i : ℕ)
    → ProofsAppended q options rows ws old new i → length ws ≤ i → AppendsProofs q options rows ws old new
unfolding AppendsProofs
all_proofs q options = all_rows proof_lines (AreProofTexts q options) (texts_carried q options)

-- ---- obligations

-- the lines of the first i obligations are appended, without those that Shannon's inequalities say
abbrev pub ObligationsAppended : BodyView → Options → List Terms → List CertificateView → List ℕ → List ℕ → ℕ → Type 0
ObligationsAppended q options rows ws old new i = (forms : List Form) → AreRowsFor forms rows
    → Appended obligation_lines (TellsObligation q options) old new (zip forms ws) i

pub no_obligation_appended : (q : BodyView) (options : Options) (rows : List Terms) (ws : List CertificateView) (old : List ℕ)
    → ObligationsAppended q options rows ws old old 0
no_obligation_appended q options = no_row_appended obligation_lines (TellsObligation q options) (obligation_carried q options)

pub obligations_more : (q : BodyView) (options : Options) (rows : List Terms) (cs : List Certificate) (row : Terms) (c : Certificate)
    (old now new : List ℕ) (i : ℕ) → ObligationsAppended q options rows (map certificate_view cs) old now i
    → length rows ≡ length cs → i < length cs → row ≡ get_or rows i row → c ≡ get_or cs i c
    → AppendsObligation q options (value row, certificate_view c) now new
    → ObligationsAppended q options rows (map certificate_view cs) old new (i + 1)
unfolding AppendsObligation
obligations_more q options rows cs row c old now new i before as_many within row_read read told =
    rows_more obligation_lines (TellsObligation q options) (obligation_carried q options) rows cs row c told.0 old now new i before as_many
    within row_read read told.1.0 told.1.1

pub all_obligations : (q : BodyView) (options : Options) (rows : List Terms) (ws : List CertificateView) (old new : List ℕ) (i : ℕ)
    → ObligationsAppended q options rows ws old new i → length ws ≤ i → AppendsOwnProofs q options rows ws old new
unfolding AppendsOwnProofs
all_obligations q options = all_rows obligation_lines (TellsObligation q options) (obligation_carried q options)

-- ---- a relation and a containment

-- there are as many rows as proofs
rows_counted : (q : BodyView) (answer : AnswerView) (cs : List Certificate) (rows : List Terms)
    → length (answer_forms q answer) ≡ length (map certificate_view cs) → AreFormRows q answer rows → length rows ≡ length cs
unfolding AreRowsFor
rows_counted q answer cs rows counted are = zip-length (IsPulledRow are.0) (answer_forms q answer) rows are.1 ∙ counted ∙ length-map cs certificate_view

pub relation_rows_counted : (q : BodyView) (cs : List Certificate) (rows : List Terms) → HasQuestionShape q (Yes (map certificate_view cs))
    → AreFormRows q (Yes (map certificate_view cs)) rows → length rows ≡ length cs
relation_rows_counted q cs rows fits are = rows_counted q (Yes (map certificate_view cs)) cs rows (yes_counted q (map certificate_view cs) fits) are

pub obligation_rows_counted : (q : BodyView) (parts : List ℕ) (cs : List Certificate) (rows : List Terms)
    → HasQuestionShape q (Contained parts (map certificate_view cs)) → AreFormRows q (Contained parts (map certificate_view cs)) rows
    → length rows ≡ length cs
obligation_rows_counted q parts cs rows fits are = rows_counted q (Contained parts (map certificate_view cs)) cs rows
    (contained_counted q parts (map certificate_view cs) fits) are

pub yes_details : (q : BodyView) (options : Options) (ws : List CertificateView) (rows : List Terms) (old new : List ℕ)
    → AreFormRows q (Yes ws) rows → AppendsProofs q options rows ws old new → AppendsDetails q options (Yes ws) old new
unfolding AppendsDetails AppendsEach AppendsProofs AreDetails
yes_details q options ws rows old new are h = h (answer_forms q (Yes ws)) are

pub form_rows : (q : BodyView) (answer : AnswerView) (rows : List Terms) → AreObligations q answer rows → AreFormRows q answer rows
unfolding AreRowsFor
form_rows q answer rows are = (space_of (problem_names q), are)

-- plain lines of a containment
pub contained_details : (q : BodyView) (options : Options) (parts : List ℕ) (ws : List CertificateView) (rows : List Terms)
    (old new : List ℕ) → is_plain options.style ≡ true → AreFormRows q (Contained parts ws) rows
    → AppendsProofs q options rows ws old new → AppendsDetails q options (Contained parts ws) old new
unfolding AppendsDetails AppendsEach AppendsProofs AreContainedLines AreDetails
contained_details q options parts ws rows old new plain are h = by_style options.style refl
  where
    by_style : (style : Style) → options.style ≡ style → (details : List ℕ) × (AreContainedLines q options style parts ws details × (new ≡ old ++ details))
    by_style Plain e = h (answer_forms q (Contained parts ws)) are
    by_style Named e = absurd (false≢true (ap is_plain (sym e) ∙ plain))
    by_style Whole e = absurd (false≢true (ap is_plain (sym e) ∙ plain))
