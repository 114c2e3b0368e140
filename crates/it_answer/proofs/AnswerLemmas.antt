-- From outcomes of targets to the answer.
use Rattle.std.proofs.Common.{◌≡◌, inl, inr, ℕ, ◌+◌, ◌≤◌, ℤ, pos, neg_ℤ, ◌≤ℤ◌, List, [], ◌∷◌, map, length, Bool, true, false, refl, sym, ap, subst, ◌∙◌}
use Rattle.std.proofs.lemmas.List.Elements.{All-nil, All-cons, All-head, All-tail}
use Rattle.it_space.specs.declared.spaces.Space.{Space}
use Rattle.it_problems.specs.Problems.{ProblemView, IsProblem}
use Rattle.it_space.specs.declared.answers.Answer.{Answer}
use Rattle.it_space.specs.Answers.{AnswerView, CertificateView, answer_view}
use Rattle.it_space.specs.Answers as answer_views
use Rattle.it_space.specs.Rows.{Terms, IsOver, value, point_of, negated_terms}
use Rattle.it_space.specs.Spaces.{size_of}
use Rattle.it_polymatroid.specs.Certificates.{Form}
use Rattle.it_polymatroid.specs.Polymatroid.{IsPolymatroid}
use Rattle.it_syntax.specs.Meaning.{RelationView}
use Rattle.it_question.specs.Questions.{QuestionView, BodyView, VerbView, Prove, Eliminate}
use Rattle.it_demand.specs.Canonical.{IsRowOf}
use Rattle.it_demand.specs.Origins.{AreStated}
use Rattle.it_demand.specs.Targets.{negation, targets}
use Rattle.it_canon.specs.TrueLines.{variable_count, AreTrueAt}
use Rattle.it_canon.specs.QuestionDemands.{IsProblemOf, problem_of, question_demands as demanded, question_origins, terms_in}
use Rattle.it_demand.specs.QuestionSpaces.{space_of}
use Rattle.it_demand.specs.SystemForms.{AreRowsOf}
use Rattle.it_question.specs.ProblemLines.{problem_names, problem_lines}
use Rattle.it_demand.specs.RowsOfForms.{terms_of_form}
use Rattle.it_demand.proofs.FormRows.{rows_are_terms_of_forms}
use Rattle.it_canon.proofs.PosesLemmas.{one_problem}
use Rattle.it_canon.proofs.ProblemLemmas.{question_met}
use Rattle.it_elemental.specs.Generators.{generators}
use Rattle.it_check.specs.Meaning.{CertifiesRow, RefutesRow}
use Rattle.it_prove.specs.ProofViews.{ProofView, Yes, No, Undecided, EndsWith, IsRightProof, proof_view}
use Rattle.it_prove.specs.declared.types.Proof.{Proof}
use Rattle.it_prove.specs.declared.types.Proof.TheVariants as proofs
use Rattle.it_space.proofs.TermLemmas.{value-negated_terms, ascends-negated_terms}
use Rattle.it_prove.proofs.SmallRows.{small-negated_terms}
use Rattle.it_prove.specs.declared.types.Effort.{Effort}
use Rattle.it_answer.specs.declared.types.Budgets.{Budgets}
use Rattle.it_contain.specs.Proposals.{Plan}
use Rattle.it_contain.proofs.PlanLemmas.{after_none}
use Rattle.it_answer.specs.Forms.{Certifies, CertifiesForm, CertifyAll, all_demands}
use Rattle.it_answer.specs.Shows.{IsCounterexample, ShowsBy, Refutes}
use Rattle.it_answer.specs.DueEliminations.{IsDueElimination}
use Rattle.it_answer.specs.DueRelations.{IsDueByRuns, IsDueRelation}
use Rattle.it_answer.specs.Replies.{Reply}
use Rattle.it_answer.specs.RightAnswers.{IsDueBy, IsDueAnswer, IsAnswered, budgets_under}
use Rattle.it_answer.specs.RowAnswers.{CertifyRows, RefutesFirst, ShowsRows, AnswersRows, AnswersForms, answer_after_one, answer_after_two}
use Rattle.it_answer.proofs.FormLemmas.{generators_speak, by_forms, rows_add_up}

-- ---- one target, or two

module _ (p : ProblemView) (f : Form) (t : Terms) (row : IsRowOf p.space f t) (effort : Effort) where
  after_one : (o : ProofView) → IsRightProof p t o → EndsWith p t effort o → AnswersRows p effort (t ∷ []) (answer_after_one o)
  after_one (Yes w) r e = record { shows = (r.0, tt); due = (e, tt) }
  after_one (No values) r e = record { shows = r.0; due = e }
  after_one (Undecided cause) r e = record { shows = tt; due = inl e }

  pub answers_one : (o : ProofView) (answer : AnswerView) → answer ≡ answer_after_one o → IsRightProof p t o → EndsWith p t effort o
      → AnswersForms p (f ∷ []) answer effort
  answers_one o answer is r e = record { rows = t ∷ []; are = (row, tt); answered = subst (AnswersRows p effort (t ∷ [])) (sym is) (after_one o r e) }

  module _ (g : Form) (u : Terms) (other : IsRowOf p.space g u) where
    not_proven : (proof : Proof) → ((c : _) → proof ≡ proofs.Yes c → ⊥) → IsRightProof p t (proof_view proof) → EndsWith p t effort (proof_view proof)
        → AnswersRows p effort (t ∷ u ∷ []) (answer_after_one (proof_view proof))
    not_proven (proofs.Yes c) n r e = absurd (n c refl)
    not_proven (proofs.No point) n r e = record { shows = r.0; due = e }
    not_proven (proofs.Undecided cause) n r e = record { shows = tt; due = inl e }

    pub answers_first : (proof : Proof) (answer : AnswerView) → answer ≡ answer_after_one (proof_view proof)
        → ((c : _) → proof ≡ proofs.Yes c → ⊥) → IsRightProof p t (proof_view proof)
        → EndsWith p t effort (proof_view proof) → AnswersForms p (f ∷ g ∷ []) answer effort
    answers_first proof answer is n r e = record {
      rows = t ∷ u ∷ [];
      are = (row, (other, tt));
      answered = subst
          (AnswersRows p effort (t ∷ u ∷ [])) (sym is) (not_proven proof n r e);
    }

    after_two : (w : CertificateView) (o : ProofView) → IsRightProof p t (Yes w) → EndsWith p t effort (Yes w) → IsRightProof p u o
        → EndsWith p u effort o → AnswersRows p effort (t ∷ u ∷ []) (answer_after_two w o)
    after_two w (Yes v) r e s d = record { shows = (r.0, (s.0, tt)); due = (e, (d, tt)) }
    after_two w (No values) r e s d = record { shows = ((w, r.0), s.0); due = ((w, e), d) }
    after_two w (Undecided cause) r e s d = record { shows = tt; due = inr ((w, e), inl d) }

    pub answers_two : (w : CertificateView) (o : ProofView) (answer : AnswerView) → answer ≡ answer_after_two w o → IsRightProof p t (Yes w)
        → EndsWith p t effort (Yes w) → IsRightProof p u o
        → EndsWith p u effort o → AnswersForms p (f ∷ g ∷ []) answer effort
    answers_two w o answer is r e s d = record {
      rows = t ∷ u ∷ [];
      are = (row, (other, tt));
      answered = subst
          (AnswersRows p effort (t ∷ u ∷ [])) (sym is) (after_two w o r e s d);
    }

-- ---- the row of a form's negation

negated_up_to : (size : ℕ) (ts : Terms) → IsOver size ts → IsOver size (negated_terms ts)
negated_up_to size [] u = All-nil (λ (t : ℕ × ℤ). (1 ≤ t.0) × (t.0 ≤ size))
negated_up_to size (t ∷ ts) u = All-cons (λ (t : ℕ × ℤ). (1 ≤ t.0) × (t.0 ≤ size)) (t.0, neg_ℤ t.1) (negated_terms ts)
    (All-head (λ (t : ℕ × ℤ). (1 ≤ t.0) × (t.0 ≤ size)) t ts u) (negated_up_to size ts
    (All-tail (λ (t : ℕ × ℤ). (1 ≤ t.0) × (t.0 ≤ size)) t ts u))

pub row_negation : (s : Space) (f : Form) (t u : Terms) → u ≡ negated_terms t → IsRowOf s f t → IsRowOf s (negation f) u
row_negation s f t u e h = subst (IsRowOf s (negation f)) (sym e) (record {
  same = λ p z. value-negated_terms t p ∙ ap neg_ℤ (h.same p z);
  coordinates = negated_up_to (size_of s) t h.coordinates;
  canonical = ascends-negated_terms 0 t h.canonical;
  small = small-negated_terms t h.small;
})

-- ---- a right answer by the question's verb

pub right_by_verb : (budgets : Budgets) (plans : List Plan) (q : BodyView) (verb : VerbView) (reply : Reply) → q.verb ≡ verb
    → ShowsBy q verb reply.answer → IsDueBy budgets plans q verb reply → IsDueAnswer budgets plans q reply
right_by_verb budgets plans q verb reply is x d = record {
  shows = subst (λ (v : VerbView). ShowsBy q v reply.answer) (sym is) x;
  due = subst (λ (v : VerbView). IsDueBy budgets plans q v reply) (sym is) d;
}

-- an answer that is due with the budgets under the code's problem is due with those under the question's
pub answered_under : (budgets own : Budgets) (question : QuestionView) (p : ProblemView) → IsProblemOf question.body p → own ≡ budgets_under p budgets
    → (plans plans_after : List Plan) (answer : Answer) → IsAnswered own plans question answer plans_after
    → IsAnswered (budgets_under (problem_of question.body) budgets) plans question answer plans_after
answered_under budgets own question p posed is plans plans_after answer x =
    subst (λ (b : Budgets). IsAnswered b plans question answer plans_after)
    (is ∙ ap (λ (r : ProblemView). budgets_under r budgets) (one_problem question.body p posed)) x

-- where nothing was found, the boxes keep their plans

pub nothing_found : (budgets : Budgets) (plans : List Plan) (question : QuestionView) (answer : Answer)
    → IsDueAnswer budgets plans question.body (record { answer = answer_view answer; found = [] })
    → IsAnswered budgets plans question answer plans
nothing_found budgets plans question answer x = record { found = []; right = x; learned = sym (after_none plans) }

pub left_of_rows : (budgets : Budgets) (plans : List Plan) (q : BodyView) (rates : List ℕ) (answer : AnswerView) → q.verb ≡ Eliminate rates
    → ShowsBy q (Eliminate rates) answer → IsDueElimination budgets q rates answer
    → IsDueAnswer budgets plans q (record { answer = answer; found = [] })
left_of_rows budgets plans q rates answer is x d = right_by_verb budgets plans q (Eliminate rates) (record { answer = answer; found = [] }) is x (d, refl)

-- ---- from rows to the meaning of the text

-- what an answer to `prove` shows of any targets
abbrev ShowsTargets : BodyView → List Form → AnswerView → Type 0
ShowsTargets q fs (answer_views.Yes ws) = CertifyAll q fs ws
ShowsTargets q fs (answer_views.No is_back values) = Refutes q fs is_back values
ShowsTargets q fs (answer_views.Undecided cause) = Unit {0}
ShowsTargets q fs answer = ⊥

shown_targets : (q : BodyView) (r : RelationView) (answer : AnswerView) → ShowsTargets q (targets (variable_count q) r) answer → ShowsBy q (Prove r) answer
shown_targets q r (answer_views.Yes ws) x = x
shown_targets q r (answer_views.No is_back values) x = x
shown_targets q r (answer_views.Undecided cause) x = tt
shown_targets q r (answer_views.Region rows) x = absurd x
shown_targets q r (answer_views.Contained parts proofs) x = absurd x
shown_targets q r (answer_views.Open tried) x = absurd x

module _ (q : BodyView) (p : ProblemView) (e : p.space ≡ space_of (problem_names q))
    (st : AreStated p.space (question_origins q) (demanded q) p.constraints) (k : IsProblem p) where
  to_question_space : (P : Space → Type 0) → P p.space → P (space_of (problem_names q))
  to_question_space P x = subst P e x

  pub show_certificate : (f : Form) (t : Terms) (w : CertificateView) → IsOver (size_of p.space) t
      → ((x : ℕ → ℤ) → x 0 ≡ pos 0 → value t x ≡ f x) → CertifiesRow p t w → CertifiesForm q f w
  show_certificate f t w up same c = to_question_space (λ s. Certifies (all_demands s.variables (demanded q)) f w)
      (by_forms (all_demands p.space.variables (demanded q)) (generators p) (generators_speak p.space (demanded q) p.constraints st.stated)
      (size_of p.space + 1) (value t) f same w c (rows_add_up p t w k up c))

  show_point : (f : Form) (t : Terms) (values : List ℤ) → IsRowOf p.space f t → RefutesRow p t values → IsCounterexample q f values
  show_point f t values r c = record {
    complete = to_question_space (λ s. length values ≡ size_of s) c.complete;
    polymatroid = to_question_space (λ s. IsPolymatroid s.variables (point_of values)) c.polymatroid;
    lines_hold = to_question_space (λ s. AreTrueAt s.variables (point_of values) (problem_lines q))
        ((question_met q p.space p.constraints e st (point_of values) refl).0 c.met);
    violated = subst (λ (x : ℤ). x ≤ℤ neg_ℤ (pos 1)) (r.same (point_of values) refl) c.violated;
  }

  show_all : (fs : List Form) (ts : List Terms) (ws : List CertificateView) → AreRowsOf p.space fs ts → CertifyRows p ts ws → CertifyAll q fs ws
  show_all [] [] [] z c = tt
  show_all [] [] (w ∷ ws) z c = absurd c
  show_all [] (t ∷ ts) ws z c = absurd z
  show_all (f ∷ fs) [] ws z c = absurd z
  show_all (f ∷ fs) (t ∷ ts) [] z c = absurd c
  show_all (f ∷ fs) (t ∷ ts) (w ∷ ws) z c = (show_certificate f t w z.0.coordinates z.0.same c.0, show_all fs ts ws z.1 c.1)

  show_first : (fs : List Form) (ts : List Terms) (is_back : Bool) (values : List ℤ) → AreRowsOf p.space fs ts
      → RefutesFirst p ts is_back values → Refutes q fs is_back values
  show_first [] [] is_back values z c = absurd c
  show_first [] (t ∷ ts) is_back values z c = absurd z
  show_first (f ∷ fs) [] is_back values z c = absurd z
  show_first (f ∷ fs) (t ∷ ts) false values z c = show_point f t values z.0 c
  show_first (f ∷ []) (t ∷ []) true values z c = absurd c
  show_first (f ∷ []) (t ∷ u ∷ ts) true values z c = absurd z.1
  show_first (f ∷ g ∷ fs) (t ∷ []) true values z c = absurd z.1
  show_first (f ∷ g ∷ fs) (t ∷ u ∷ ts) true values z c = ((c.0.0, show_certificate f t c.0.0 z.0.coordinates z.0.same c.0.1), show_point g u values z.1.0 c.1)

  show_targets : (fs : List Form) (ts : List Terms) (answer : AnswerView) → AreRowsOf p.space fs ts → ShowsRows p ts answer → ShowsTargets q fs answer
  show_targets fs ts (answer_views.Yes ws) z c = show_all fs ts ws z c
  show_targets fs ts (answer_views.No is_back values) z c = show_first fs ts is_back values z c
  show_targets fs ts (answer_views.Undecided cause) z c = tt
  show_targets fs ts (answer_views.Region rows) z c = absurd c
  show_targets fs ts (answer_views.Contained parts proofs) z c = absurd c
  show_targets fs ts (answer_views.Open tried) z c = absurd c

  pub answers_relation : (budgets : Budgets) (plans : List Plan) (r : RelationView) (answer : AnswerView) → q.verb ≡ Prove r
      → AnswersForms p (targets p.space.variables r) answer budgets.effort
      → IsDueAnswer budgets plans q (record { answer = answer; found = [] })
  answers_relation budgets plans r answer is a =
      let shown = shown_targets q r answer (to_question_space (λ s. ShowsTargets q (targets s.variables r) answer)
      (show_targets (targets p.space.variables r) a.rows answer a.are a.answered.shows)) in
      let rows : a.rows ≡ map (terms_in q) (targets (variable_count q) r) =
      rows_are_terms_of_forms p.space (targets p.space.variables r) a.rows a.are
      ∙ ap (λ (s : Space). map (terms_of_form (size_of s)) (targets s.variables r)) e in
      let due : IsDueRelation budgets.effort q r answer =
      subst (λ (x : ProblemView). IsDueByRuns x budgets.effort (map (terms_in q) (targets (variable_count q) r)) answer)
      (one_problem q p (record { space = e; limits = k; constraints = st }))
      (subst (λ (ts : List Terms). IsDueByRuns p budgets.effort ts answer) rows a.answered.due) in
      right_by_verb budgets plans q (Prove r) (record { answer = answer; found = [] }) is shown (due, refl)
