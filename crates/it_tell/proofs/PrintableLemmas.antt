-- Answers that were read and aren't invalid can be written: their generators are there, and their points, rows and causes are of the
-- question's names.
use Rattle.std.proofs.Common.{◌≡◌, ℕ, ℤ, ◌+◌, ◌<◌, ◌≤◌, List, [], ◌∷◌, map, length, drop, Bool, true, false, not, Some, All, if◌then◌else◌, refl, sym, ap, ap₂, subst, ◌∙◌, arith, None}
use Rattle.std.specs.Prelude.{bytes_eq, get_or}
use Rattle.std.proofs.lemmas.List.{length-map}
use Rattle.std.proofs.lemmas.List.Elements.{All-nil, All-cons, All-weaker, All-head, All-tail}
use Rattle.std.proofs.lemmas.List.Quantifiers.{position-Some}
use Rattle.std.proofs.lemmas.Bool.{true≢false}
use Rattle.std.proofs.lemmas.Nat.{pow_pos}
use Rattle.std.proofs.Math.Pow.{pow_mono}
use Rattle.std.proofs.Math.Seq.{drop-append_seam}
use Rattle.it_space.specs.declared.answers.Answer.{Answer}
use Rattle.it_space.specs.declared.answers.Certificate.{Certificate}
use Rattle.it_space.specs.declared.answers.Cause.{Cause}
use Rattle.it_space.specs.declared.answers.Mark.{Mark}
use Rattle.it_space.specs.Answers.{AnswerView, CertificateView, answer_view, certificate_view}
use Rattle.it_space.specs.Answers.AnswerView.{Yes, Contained}
use Rattle.it_problems.specs.Problems.{ProblemView}
use Rattle.it_space.specs.Rows.{Terms, IsOver}
use Rattle.it_space.specs.Spaces.{size_of, most_variables}
use Rattle.it_space.proofs.OptionLemmas.{some_same}
use Rattle.it_polymatroid.specs.Certificates.{Form, IsAllowed}
use Rattle.it_polymatroid.specs.Elementals.{elementals}
use Rattle.it_elemental.specs.Generators.{forms_of, generators}
use Rattle.it_elemental.proofs.GeneratorLemmas.{length-listed}
use Rattle.it_syntax.specs.Meaning.{RelationView}
use Rattle.it_syntax.specs.NamesViews.{NamesView}
use Rattle.it_question.specs.Limits.{IsQuestion, IsVerbOver}
use Rattle.it_question.specs.OwnLines.{RegionView}
use Rattle.it_question.specs.Questions.{BodyView, VerbView, Prove, Eliminate, Contain}
use Rattle.it_question.specs.ProblemLines.{problem_names, names_under}
use Rattle.it_demand.specs.QuestionSpaces.{space_of}
use Rattle.it_canon.specs.QuestionDemands.{IsProblemOf, question_demands, problem_of, terms_in}
use Rattle.it_canon.specs.TrueLines.{variable_count}
use Rattle.it_certificate.specs.AnswerShapes.{HasQuestionShape, HasVerbShape, IsCauseFor, IsRowIn}
use Rattle.it_check.specs.declared.verdicts.Verdict.{Verdict}
use Rattle.it_check.specs.declared.verdicts.Verdict.TheVariants.{Valid, BadScale, UnknownGenerator, NegativeWeight, Width, Mismatch, BrokenElemental, UnmetConstraint, NotViolated}
use Rattle.it_check.proofs.Truth.{valid_yes_is}
use Rattle.it_print.specs.Lines.{AreListed, IsCauseOf, IsPrintable, IsRowOver, auxiliary_names}
use Rattle.it_print.proofs.RowLemmas.{row_over}
use Rattle.it_report.specs.Judging.{IsAnswerVerdict, verdict_of}
use Rattle.it_report.specs.LineVerdicts.{LineVerdict, NotJson, Shape, Skipped, Judged, Weighed, OtherCode, Hulled, is_invalid}
use Rattle.it_report.specs.RowVerdicts.{is_valid, proof_verdict, proofs_verdict}
use Rattle.it_report.proofs.CountLemmas.{obligations_counted, targets_counted}
use Rattle.it_report.proofs.JudgingLemmas.{verb_fits}
use Rattle.it_cli.proofs.LineLemmas.{few_constraints}
use Rattle.it_print.proofs.GeneratorRows.{form_up_to}
use Rattle.it_region.specs.AnswerForms.{answer_forms, answer_forms_by}
use Rattle.it_space.specs.declared.answers.Answer.TheVariants as answers
use Rattle.it_space.specs.declared.answers.Cause.TheVariants as causes

-- ---- verdicts

pub not_invalid_is_valid : (v : Verdict) → not (is_valid v) ≡ false → v ≡ Valid
not_invalid_is_valid Valid e = refl
not_invalid_is_valid (BadScale s) e = absurd cc
not_invalid_is_valid (UnknownGenerator i) e = absurd cc
not_invalid_is_valid (NegativeWeight i) e = absurd cc
not_invalid_is_valid (Width i) e = absurd cc
not_invalid_is_valid (Mismatch i x y) e = absurd cc
not_invalid_is_valid (BrokenElemental i x) e = absurd cc
not_invalid_is_valid (UnmetConstraint i x) e = absurd cc
not_invalid_is_valid (NotViolated x) e = absurd cc

-- the first that isn't valid is none
each_valid : (v u : Verdict) → (if is_valid v then u else v) ≡ Valid → (v ≡ Valid) × (u ≡ Valid)
each_valid v u e = by_test (is_valid v) refl e
  where
    by_test : (b : Bool) → is_valid v ≡ b → (if b then u else v) ≡ Valid → (v ≡ Valid) × (u ≡ Valid)
    by_test true is e = (not_invalid_is_valid v (ap not is), e)
    by_test false is e = absurd (true≢false (sym (ap is_valid e) ∙ is))

-- an answer that is judged and not invalid has the verdict `Valid`
judged_valid : (q : BodyView) (a : AnswerView) (v : LineVerdict) (w : Verdict) → verdict_of q a ≡ Some w → IsAnswerVerdict q a v
    → is_invalid v ≡ false → w ≡ Valid
judged_valid q a NotJson w judged is e = absurd is
judged_valid q a (Shape key) w judged is e = absurd is
judged_valid q a Skipped w judged is e = let none : Some w ≡ None = sym judged ∙ is in absurd cc
judged_valid q a (Weighed names u) w judged is e = absurd is
judged_valid q a (OtherCode names set) w judged is e = absurd is
judged_valid q a (Hulled u) w judged is e = absurd is
judged_valid q a (Judged names u) w judged is e = some_same w u (sym judged ∙ is.1) ∙ not_invalid_is_valid u e

-- ---- certificates

module _ (q : BodyView) (p : ProblemView) (is : IsProblemOf q p) where
  generators_counted : length (generators p) ≡ length (elementals (variable_count q)) + length (question_demands q)
  generators_counted = length-listed p.space.variables p.constraints
      ∙ ap₂ (λ m n. m + n) (ap (λ s. length (elementals s.variables)) is.space) (few_constraints q p.space p.constraints is.constraints)

  generators_there : (t : Terms) (c : Certificate) → IsOver (size_of p.space) t → proof_verdict p t (certificate_view c) ≡ Valid
      → All (λ (w : ℕ × ℤ). w.0 < length (elementals (variable_count q)) + length (question_demands q)) c.weights.items
  generators_there t c u e = All-weaker (IsAllowed (forms_of (generators p)))
      (λ (w : ℕ × ℤ). w.0 < length (elementals (variable_count q)) + length (question_demands q))
      (λ w a. omega (arith, a.0, generators_counted)) c.weights.items ((valid_yes_is p t (certificate_view c) is.limits u).0 e).0.allowed

  -- the generators of certificates, one for each row, are there
  all_listed : (ts : List Terms) (cs : List Certificate) → All (IsOver (size_of p.space)) ts → length cs ≡ length ts
      → proofs_verdict p ts (map certificate_view cs) ≡ Valid → AreListed (variable_count q) (length (question_demands q)) cs
  unfolding proofs_verdict
  all_listed ts [] u l e = All-nil (λ (c : Certificate). All (λ (w : ℕ × ℤ). w.0
      < length (elementals (variable_count q)) + length (question_demands q)) c.weights.items)
  all_listed [] (c ∷ cs) u l e = absurd (omega (arith, l))
  all_listed (t ∷ ts) (c ∷ cs) u l e =
      let each = each_valid (proof_verdict p t (certificate_view c)) (proofs_verdict p ts (map certificate_view cs)) e in
      All-cons (λ (c : Certificate). All (λ (w : ℕ × ℤ). w.0 < length (elementals (variable_count q)) + length (question_demands q)) c.weights.items) c cs
      (generators_there t c (All-head (IsOver (size_of p.space)) t ts u) each.0)
      (all_listed ts cs (All-tail (IsOver (size_of p.space)) t ts u) (omega (arith, l)) each.1)

terms_up_to : (q : BodyView) (fs : List Form) → All (IsOver (size_of (space_of (problem_names q)))) (map (terms_in q) fs)
terms_up_to q [] = All-nil (IsOver (size_of (space_of (problem_names q))))
terms_up_to q (f ∷ fs) = All-cons (IsOver (size_of (space_of (problem_names q)))) (terms_in q f) (map (terms_in q) fs)
    (form_up_to (size_of (space_of (problem_names q))) f) (terms_up_to q fs)

proofs_listed : (q : BodyView) → IsProblemOf q (problem_of q) → (fs : List Form) (cs : List Certificate)
    → length fs ≡ length (map certificate_view cs) → proofs_verdict (problem_of q) (map (terms_in q) fs) (map certificate_view cs) ≡ Valid
    → AreListed (variable_count q) (length (question_demands q)) cs
proofs_listed q posed fs cs counted valid =
    all_listed q (problem_of q) posed (map (terms_in q) fs) cs (terms_up_to q fs)
    (sym (length-map cs certificate_view) ∙ sym counted ∙ sym (length-map fs (terms_in q))) valid

-- ---- how many forms an answer has proofs of

pub yes_counted : (q : BodyView) (ws : List CertificateView) → HasQuestionShape q (Yes ws) → length (answer_forms q (Yes ws)) ≡ length ws
yes_counted q ws h = by_verb q.verb (verb_fits q (Yes ws) q.verb refl h)
  where
    by_verb : (verb : VerbView) → HasVerbShape q.names verb (Yes ws) → length (answer_forms_by q verb (Yes ws)) ≡ length ws
    by_verb (Prove r) h = targets_counted (variable_count q) (length q.names.variables) r ∙ sym h.0
    by_verb (Eliminate rates) h = absurd h
    by_verb (Contain first second tries) h = absurd h

pub contained_counted : (q : BodyView) (parts : List ℕ) (ws : List CertificateView) → HasQuestionShape q (Contained parts ws)
    → length (answer_forms q (Contained parts ws)) ≡ length ws
contained_counted q parts ws h = by_verb q.verb (verb_fits q (Contained parts ws) q.verb refl h)
  where
    by_verb : (verb : VerbView) → HasVerbShape q.names verb (Contained parts ws) → length (answer_forms_by q verb (Contained parts ws)) ≡ length ws
    by_verb (Prove r) h = absurd h
    by_verb (Eliminate rates) h = absurd h
    by_verb (Contain first second tries) h = obligations_counted q first second parts ∙ sym h.obligations

-- ---- causes

cause_of_rates : (v : NamesView) (cause : Cause) → IsCauseFor v cause → IsCauseOf (length v.rates) cause
cause_of_rates v (causes.Pivots steps) h = tt
cause_of_rates v (causes.Width step) h = tt
cause_of_rates v causes.Scale h = tt
cause_of_rates v (causes.Rows r) h = (position-Some (bytes_eq (get_or v.rates r [])) v.rates r [] h).0
cause_of_rates v (causes.WideRate r) h = (position-Some (bytes_eq (get_or v.rates r [])) v.rates r [] h.0).0

-- ---- what can be written

rows_over : (v : NamesView) (rows : List (Mark × Terms)) → All (IsRowIn (size_of (space_of v))) rows → All (λ (row : Mark × Terms). IsRowOver v row.1) rows
rows_over v rows h = All-weaker (IsRowIn (size_of (space_of v))) (λ (row : Mark × Terms). IsRowOver v row.1) (λ row r. row_over v row.1 r.coordinates) rows h

-- the parts are as many as the names of auxiliary variables
parts_named : (q : BodyView) (first second : RegionView) (tries : List (List ℕ)) (parts : List ℕ) → q.verb ≡ Contain first second tries
    → IsQuestion q → length parts ≡ second.auxiliaries → length parts ≡ length (auxiliary_names q.names q.verb)
parts_named q first second tries parts about k each =
    let region = (subst (IsVerbOver q.names) about k.verb).1 in
    each ∙ region.counted ∙ ap length (sym (ap (auxiliary_names q.names) about ∙ ap (drop (length q.names.variables)) region.variables
    ∙ drop-append_seam q.names.variables region.own))

module _ (q : BodyView) (k : IsQuestion q) (posed : IsProblemOf q (problem_of q)) (v : LineVerdict) (accepted : is_invalid v ≡ false) where
  printable_relation : (r : RelationView) (a : Answer) → q.verb ≡ Prove r → HasQuestionShape q (answer_view a)
      → IsAnswerVerdict q (answer_view a) v → HasVerbShape q.names (Prove r) (answer_view a)
      → IsPrintable q (length (question_demands q)) a
  printable_relation r (answers.Yes proofs) about fits is h =
      let ws = map certificate_view proofs.items in
      let forms = answer_forms q (Yes ws) in
      proofs_listed q posed forms proofs.items (yes_counted q ws fits) (judged_valid q (Yes ws) v
      (proofs_verdict (problem_of q) (map (terms_in q) forms) ws) refl is accepted)
  printable_relation r (answers.No back point) about fits is h =
      let own : problem_names q ≡ q.names = ap (names_under q.names) about in
      let size : length point ≡ size_of (space_of (problem_names q)) = subst (λ (ns : NamesView). length point ≡ size_of (space_of ns)) (sym own) h.0 in
      let few : length (problem_names q).variables ≤ most_variables = subst (λ (ns : NamesView). length ns.variables ≤ most_variables) (sym own) k.few in
      let few_rates : length (problem_names q).rates ≤ 16 = subst (λ (ns : NamesView). length ns.rates ≤ 16) (sym own) k.few_rates in
      (omega (arith, size, pow_pos (variable_count q)), omega (arith, size, pow_mono {i = variable_count q} {j = most_variables} few, few_rates))
  printable_relation r (answers.Undecided cause) about fits is h =
      subst (λ (ns : NamesView). IsCauseOf (length ns.rates) cause) (sym
      (let own : problem_names q ≡ q.names = ap (names_under q.names) about in own)) (cause_of_rates q.names cause h)
  printable_relation r (answers.Region rows) about fits is h = absurd h
  printable_relation r (answers.Contained parts proofs) about fits is h = absurd h
  printable_relation r (answers.Open tried) about fits is h = absurd h

  printable_region : (rates : List ℕ) (a : Answer) → q.verb ≡ Eliminate rates → HasVerbShape q.names (Eliminate rates) (answer_view a)
      → IsPrintable q (length (question_demands q)) a
  printable_region rates (answers.Yes proofs) about h = absurd h
  printable_region rates (answers.No back point) about h = absurd h
  printable_region rates (answers.Undecided cause) about h =
      subst (λ (ns : NamesView). IsCauseOf (length ns.rates) cause) (sym
      (let own : problem_names q ≡ q.names = ap (names_under q.names) about in own)) (cause_of_rates q.names cause h)
  printable_region rates (answers.Region rows) about h =
      subst (λ (ns : NamesView). All (λ (row : Mark × Terms). IsRowOver ns row.1) rows.items)
      (sym (let own : problem_names q ≡ q.names = ap (names_under q.names) about in own)) (rows_over q.names rows.items h)
  printable_region rates (answers.Contained parts proofs) about h = absurd h
  printable_region rates (answers.Open tried) about h = absurd h

  printable_containment : (first second : RegionView) (tries : List (List ℕ)) (a : Answer) → q.verb ≡ Contain first second tries
      → HasQuestionShape q (answer_view a) → IsAnswerVerdict q (answer_view a) v
      → HasVerbShape q.names (Contain first second tries) (answer_view a) → IsPrintable q (length (question_demands q)) a
  printable_containment first second tries (answers.Yes proofs) about fits is h = absurd h
  printable_containment first second tries (answers.No back point) about fits is h = absurd h
  printable_containment first second tries (answers.Undecided cause) about fits is h = absurd h
  printable_containment first second tries (answers.Region rows) about fits is h = absurd h
  printable_containment first second tries (answers.Contained parts proofs) about fits is h =
      let ws = map certificate_view proofs.items in
      let a = Contained parts.items ws in
      let forms = answer_forms q a in (
        parts_named q first second tries parts.items about k h.each,
        proofs_listed q posed forms proofs.items (contained_counted q parts.items ws fits)
            (judged_valid q a v (proofs_verdict (problem_of q) (map (terms_in q) forms) ws) refl is accepted),
      )
  printable_containment first second tries (answers.Open tried) about fits is h = tt

  pub printable : (a : Answer) → HasQuestionShape q (answer_view a) → IsAnswerVerdict q (answer_view a) v → IsPrintable q (length (question_demands q)) a
  printable a fits is = by_verb q.verb refl
    where
      by_verb : (verb : VerbView) → q.verb ≡ verb → IsPrintable q (length (question_demands q)) a
      by_verb (Prove r) about = printable_relation r a about fits is (verb_fits q (answer_view a) (Prove r) about fits)
      by_verb (Eliminate rates) about = printable_region rates a about (verb_fits q (answer_view a) (Eliminate rates) about fits)
      by_verb (Contain first second tries) about = printable_containment first second tries a about fits is
          (verb_fits q (answer_view a) (Contain first second tries) about fits)
