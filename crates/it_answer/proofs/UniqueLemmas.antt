-- A question has one right answer: its problem and its targets' rows are determined, and each target has one outcome.
use Rattle.std.proofs.Common.{◌≡◌, inl, inr, ℕ, ℤ, List, [], ◌∷◌, Bool, true, false, All, map, take, refl, sym, ap, ap₂, subst, ◌∙◌}
use Rattle.std.proofs.lemmas.List.Elements.{All-nil, All-cons}
use Rattle.it_space.specs.declared.answers.Cause.{Cause}
use Rattle.it_problems.specs.Problems.{ProblemView}
use Rattle.it_space.specs.Answers.{AnswerView, CertificateView}
use Rattle.it_space.specs.Answers as answer_views
use Rattle.it_space.specs.Rows.{Terms, IsCanonical}
use Rattle.it_syntax.specs.Meaning.{RelationView}
use Rattle.it_question.specs.OwnLines.{RegionView}
use Rattle.it_question.specs.Questions.{BodyView, VerbView, Prove, Eliminate, Contain}
use Rattle.it_demand.specs.Targets.{targets}
use Rattle.it_canon.specs.TrueLines.{variable_count}
use Rattle.it_canon.specs.QuestionDemands.{problem_of, terms_in}
use Rattle.it_redundant.specs.ReducedElimination.{ProjectedView}
use Rattle.it_redundant.specs.ReducedElimination as projections
use Rattle.it_prove.specs.ProofViews.{ProofView, Yes, No, Undecided, EndsWith, AreProofsOf}
use Rattle.it_prove.proofs.ProofLemmas.{one_outcome, proven_ascends}
use Rattle.it_prove.proofs.ReachLemmas.{defined_in_reach}
use Rattle.it_prove.specs.declared.types.Effort.{Effort}
use Rattle.it_prove.specs.declared.types.Runs.TheVariants.{Defined}
use Rattle.it_region.specs.declared.types.Candidate.{Candidate}
use Rattle.it_region.specs.Obligations.{obligations}
use Rattle.it_contain.specs.Proposals.{Plan}
use Rattle.it_contain.specs.Search.{Goal, IsOpen, IsProofOf}
use Rattle.it_contain.proofs.OneEndLemmas.{Decides, decides_by_one, one_first, first_not_open, one_open}
use Rattle.it_answer.specs.declared.types.Budgets.{Budgets}
use Rattle.it_answer.proofs.RegionLemmas.{one_elimination}
use Rattle.it_answer.specs.Replies.{Reply}
use Rattle.it_answer.specs.DueEliminations.{answer_of_end}
use Rattle.it_answer.specs.DueContainments.{IsFound, IsDueBySearch, containment_goal}
use Rattle.it_answer.specs.DueRelations.{PointIsDue, CauseIsDue, IsDueByRuns, IsDueRelation}
use Rattle.it_answer.specs.RightAnswers.{IsDueBy, OneRightAnswer, ProofsAscend, AYesAscends, budgets_under}

-- ---- the answer that the runs, the elimination or the search end with

proven_is : (w v : CertificateView) → Yes w ≡ Yes v → w ≡ v
proven_is w v e = cc

refuted_is : (xs ys : List ℤ) → No xs ≡ No ys → xs ≡ ys
refuted_is xs ys e = cc

pub undecided_same : (c d : Cause) → Undecided c ≡ Undecided d → c ≡ d
undecided_same c d e = cc

proven_not_refuted : (w : CertificateView) (xs : List ℤ) → Yes w ≡ No xs → ⊥
proven_not_refuted w xs e = cc

proven_not_open : (w : CertificateView) (c : Cause) → Yes w ≡ Undecided c → ⊥
proven_not_open w c e = cc

refuted_not_open : (xs : List ℤ) (c : Cause) → No xs ≡ Undecided c → ⊥
refuted_not_open xs c e = cc

module _ (p : ProblemView) (effort : Effort) (defined : effort.runs ≡ Defined) where
  same : (t : Terms) (o other : ProofView) → EndsWith p t effort o → EndsWith p t effort other → o ≡ other
  same t o other = one_outcome p t effort o other defined

  one_yes : (ts : List Terms) (ws vs : List CertificateView) → AreProofsOf p effort ts ws → AreProofsOf p effort ts vs → ws ≡ vs
  one_yes [] [] [] a b = refl
  one_yes [] [] (v ∷ vs) a b = absurd b
  one_yes [] (w ∷ ws) vs a b = absurd a
  one_yes (t ∷ ts) [] vs a b = absurd a
  one_yes (t ∷ ts) (w ∷ ws) [] a b = absurd b
  one_yes (t ∷ ts) (w ∷ ws) (v ∷ vs) a b = ap₂ (λ x xs. x ∷ xs) (proven_is w v (same t (Yes w) (Yes v) a.0 b.0)) (one_yes ts ws vs a.1 b.1)

  yes_not_no : (ts : List Terms) (ws : List CertificateView) (is_back : Bool) (values : List ℤ) → AreProofsOf p effort ts ws
      → PointIsDue p effort ts is_back values → ⊥
  yes_not_no [] ws is_back values a b = absurd b
  yes_not_no (t ∷ ts) [] is_back values a b = absurd a
  yes_not_no (t ∷ ts) (w ∷ ws) false values a b = proven_not_refuted w values (same t (Yes w) (No values) a.0 b)
  yes_not_no (t ∷ []) (w ∷ ws) true values a b = absurd b
  yes_not_no (t ∷ u ∷ ts) (w ∷ []) true values a b = absurd a.1
  yes_not_no (t ∷ u ∷ ts) (w ∷ v ∷ ws) true values a b = proven_not_refuted v values (same u (Yes v) (No values) a.1.0 b.1)

  yes_not_undecided : (ts : List Terms) (ws : List CertificateView) (cause : Cause) → AreProofsOf p effort ts ws → CauseIsDue p effort ts cause → ⊥
  yes_not_undecided [] ws cause a b = absurd b
  yes_not_undecided (t ∷ ts) [] cause a b = absurd a
  yes_not_undecided (t ∷ ts) (w ∷ ws) cause a (inl e) = proven_not_open w cause (same t (Yes w) (Undecided cause) a.0 e)
  yes_not_undecided (t ∷ ts) (w ∷ ws) cause a (inr b) = yes_not_undecided ts ws cause a.1 b.1

  one_no : (ts : List Terms) (is_back is_other : Bool) (xs ys : List ℤ) → PointIsDue p effort ts is_back xs
      → PointIsDue p effort ts is_other ys → answer_views.No is_back xs ≡ answer_views.No is_other ys
  one_no [] is_back is_other xs ys a b = absurd a
  one_no (t ∷ ts) false false xs ys a b = ap (answer_views.No false) (refuted_is xs ys (same t (No xs) (No ys) a b))
  one_no (t ∷ []) false true xs ys a b = absurd b
  one_no (t ∷ []) true is_other xs ys a b = absurd a
  one_no (t ∷ u ∷ ts) false true xs ys a b = absurd (proven_not_refuted b.0.0 xs (same t (Yes b.0.0) (No xs) b.0.1 a))
  one_no (t ∷ u ∷ ts) true false xs ys a b = absurd (proven_not_refuted a.0.0 ys (same t (Yes a.0.0) (No ys) a.0.1 b))
  one_no (t ∷ u ∷ ts) true true xs ys a b = ap (answer_views.No true) (refuted_is xs ys (same u (No xs) (No ys) a.1 b.1))

  no_not_undecided : (ts : List Terms) (is_back : Bool) (values : List ℤ) (cause : Cause) → PointIsDue p effort ts is_back values
      → CauseIsDue p effort ts cause → ⊥
  no_not_undecided [] is_back values cause a b = absurd b
  no_not_undecided (t ∷ ts) false values cause a (inl e) = refuted_not_open values cause (same t (No values) (Undecided cause) a e)
  no_not_undecided (t ∷ ts) false values cause a (inr b) = proven_not_refuted b.0.0 values (same t (Yes b.0.0) (No values) b.0.1 a)
  no_not_undecided (t ∷ []) true values cause a b = absurd a
  no_not_undecided (t ∷ u ∷ ts) true values cause a (inl e) = proven_not_open a.0.0 cause (same t (Yes a.0.0) (Undecided cause) a.0.1 e)
  no_not_undecided (t ∷ u ∷ ts) true values cause a (inr b) = no_not_undecided (u ∷ ts) false values cause a.1 b.1

  one_cause : (ts : List Terms) (c d : Cause) → CauseIsDue p effort ts c → CauseIsDue p effort ts d → c ≡ d
  one_cause [] c d a b = absurd a
  one_cause (t ∷ ts) c d (inl a) (inl b) = undecided_same c d (same t (Undecided c) (Undecided d) a b)
  one_cause (t ∷ ts) c d (inl a) (inr b) = absurd (proven_not_open b.0.0 c (same t (Yes b.0.0) (Undecided c) b.0.1 a))
  one_cause (t ∷ ts) c d (inr a) (inl b) = absurd (proven_not_open a.0.0 d (same t (Yes a.0.0) (Undecided d) a.0.1 b))
  one_cause (t ∷ ts) c d (inr a) (inr b) = one_cause ts c d a.1 b.1

  yes_is : (ts : List Terms) (ws : List CertificateView) (b : AnswerView) → AreProofsOf p effort ts ws → IsDueByRuns p effort ts b → answer_views.Yes ws ≡ b
  yes_is ts ws (answer_views.Yes vs) x y = ap answer_views.Yes (one_yes ts ws vs x y)
  yes_is ts ws (answer_views.No is_back values) x y = absurd (yes_not_no ts ws is_back values x y)
  yes_is ts ws (answer_views.Undecided cause) x y = absurd (yes_not_undecided ts ws cause x y)
  yes_is ts ws (answer_views.Region rows) x y = absurd y
  yes_is ts ws (answer_views.Contained parts proofs) x y = absurd y
  yes_is ts ws (answer_views.Open tried) x y = absurd y

  no_is : (ts : List Terms) (is_back : Bool) (values : List ℤ) (b : AnswerView) → PointIsDue p effort ts is_back values
      → IsDueByRuns p effort ts b → answer_views.No is_back values ≡ b
  no_is ts is_back values (answer_views.Yes ws) x y = absurd (yes_not_no ts ws is_back values y x)
  no_is ts is_back values (answer_views.No is_other others) x y = one_no ts is_back is_other values others x y
  no_is ts is_back values (answer_views.Undecided cause) x y = absurd (no_not_undecided ts is_back values cause x y)
  no_is ts is_back values (answer_views.Region rows) x y = absurd y
  no_is ts is_back values (answer_views.Contained parts proofs) x y = absurd y
  no_is ts is_back values (answer_views.Open tried) x y = absurd y

  undecided_is : (ts : List Terms) (cause : Cause) (b : AnswerView) → CauseIsDue p effort ts cause → IsDueByRuns p effort ts b
      → answer_views.Undecided cause ≡ b
  undecided_is ts cause (answer_views.Yes ws) x y = absurd (yes_not_undecided ts ws cause y x)
  undecided_is ts cause (answer_views.No is_back values) x y = absurd (no_not_undecided ts is_back values cause y x)
  undecided_is ts cause (answer_views.Undecided other) x y = ap answer_views.Undecided (one_cause ts cause other x y)
  undecided_is ts cause (answer_views.Region rows) x y = absurd y
  undecided_is ts cause (answer_views.Contained parts proofs) x y = absurd y
  undecided_is ts cause (answer_views.Open tried) x y = absurd y

  one_due : (ts : List Terms) (a b : AnswerView) → IsDueByRuns p effort ts a → IsDueByRuns p effort ts b → a ≡ b
  one_due ts (answer_views.Yes ws) b x y = yes_is ts ws b x y
  one_due ts (answer_views.No is_back values) b x y = no_is ts is_back values b x y
  one_due ts (answer_views.Undecided cause) b x y = undecided_is ts cause b x y
  one_due ts (answer_views.Region rows) b x y = absurd x
  one_due ts (answer_views.Contained parts proofs) b x y = absurd x
  one_due ts (answer_views.Open tried) b x y = absurd x

one_for : (effort : Effort) (q : BodyView) (r : RelationView) (a b : AnswerView) → effort.runs ≡ Defined → IsDueRelation effort q r a
    → IsDueRelation effort q r b → a ≡ b
one_for effort q r a b defined x y = one_due (problem_of q) effort defined (map (terms_in q) (targets (variable_count q) r)) a b x y

-- ---- what a search finds

abbrev reply_of : AnswerView → List Candidate → Reply
reply_of answer found = record { answer = answer; found = found }

module _ (q : BodyView) (a b : RegionView) (effort : Effort) (defined : effort.runs ≡ Defined) (tries : ℕ) (plan : List Candidate) where
  abbrev proves : Goal
  proves = containment_goal q a b effort

  decides : Decides proves
  decides = decides_by_one proves (λ t o other. one_outcome (problem_of q) t effort o other defined)

  one_found : (xs ys : List Candidate) (parts others : List ℕ) (ws vs : List CertificateView) → IsFound proves tries plan xs parts ws
      → IsFound proves tries plan ys others vs
      → reply_of (answer_views.Contained parts ws) xs ≡ reply_of (answer_views.Contained others vs) ys
  one_found xs ys parts others ws vs x y =
      let c : x.candidate ≡ y.candidate = one_first proves decides tries plan x.candidate y.candidate x.first y.first in
      let proof : IsProofOf proves y.candidate ws = subst (λ (d : Candidate). IsProofOf proves d ws) c x.proofs in
      let same_proofs : ws ≡ vs = one_yes (problem_of q) effort defined (map (terms_in q)
      (obligations q a b (take y.candidate.count y.candidate.parts))) ws vs proof.proofs y.proofs.proofs in
      let same_parts : parts ≡ others = x.parts_are ∙ ap (λ (d : Candidate). take d.count d.parts) c ∙ sym y.parts_are in
      let same_found : xs ≡ ys = x.found_is ∙ ap (λ d. d ∷ []) c ∙ sym y.found_is in
      ap₂ (λ zs cs. reply_of (answer_views.Contained zs ws) cs) same_parts same_found ∙ ap (λ us. reply_of (answer_views.Contained others us) ys) same_proofs

  module _ (xs ys : List Candidate) where
    found_then : (parts : List ℕ) (ws : List CertificateView) (other : AnswerView) → IsFound proves tries plan xs parts ws
        → IsDueBySearch proves tries plan ys other → reply_of (answer_views.Contained parts ws) xs ≡ reply_of other ys
    found_then parts ws (answer_views.Contained others vs) x y = one_found xs ys parts others ws vs x y
    found_then parts ws (answer_views.Open t) x y = absurd (first_not_open proves decides tries plan x.candidate t x.first y.0)
    found_then parts ws (answer_views.Yes vs) x y = absurd y
    found_then parts ws (answer_views.No is_back values) x y = absurd y
    found_then parts ws (answer_views.Undecided cause) x y = absurd y
    found_then parts ws (answer_views.Region rows) x y = absurd y

    open_then : (t : ℕ) (other : AnswerView) → IsOpen proves tries plan t → xs ≡ [] → IsDueBySearch proves tries plan ys other
        → reply_of (answer_views.Open t) xs ≡ reply_of other ys
    open_then t (answer_views.Contained others vs) x e y = absurd (first_not_open proves decides tries plan y.candidate t y.first x)
    open_then t (answer_views.Open s) x e y = ap₂ (λ n cs. reply_of (answer_views.Open n) cs) (one_open proves tries plan t s x y.0) (e ∙ sym y.1)
    open_then t (answer_views.Yes vs) x e y = absurd y
    open_then t (answer_views.No is_back values) x e y = absurd y
    open_then t (answer_views.Undecided cause) x e y = absurd y
    open_then t (answer_views.Region rows) x e y = absurd y

    one_search : (one other : AnswerView) → IsDueBySearch proves tries plan xs one → IsDueBySearch proves tries plan ys other
        → reply_of one xs ≡ reply_of other ys
    one_search (answer_views.Contained parts ws) other x y = found_then parts ws other x y
    one_search (answer_views.Open t) other x y = open_then t other x.0 x.1 y
    one_search (answer_views.Yes ws) other x y = absurd x
    one_search (answer_views.No is_back values) other x y = absurd x
    one_search (answer_views.Undecided cause) other x y = absurd x
    one_search (answer_views.Region rows) other x y = absurd x

-- ---- each verb

without_found : (one other : AnswerView) (xs ys : List Candidate) → one ≡ other → xs ≡ [] → ys ≡ [] → reply_of one xs ≡ reply_of other ys
without_found one other xs ys same e f = ap₂ reply_of same (e ∙ sym f)

one_by : (budgets : Budgets) (plans : List Plan) (q : BodyView) (verb : VerbView) (a b : Reply) → budgets.effort.runs ≡ Defined
    → IsDueBy budgets plans q verb a → IsDueBy budgets plans q verb b → a ≡ b
one_by budgets plans q (Prove r) a b defined x y = without_found a.answer b.answer a.found b.found
    (one_for budgets.effort q r a.answer b.answer defined x.0 y.0) x.1 y.1
one_by budgets plans q (Eliminate rates) a b defined x y = without_found a.answer b.answer a.found b.found
    (one_elimination budgets q rates a.answer b.answer defined x.0 y.0) x.1 y.1
one_by budgets plans q (Contain first second tries) a b defined x y =
    one_search q first second budgets.effort defined budgets.tries _ a.found b.found a.answer b.answer x y

pub one_right_answer : OneRightAnswer
one_right_answer budgets plans q a b defined reach x y = one_by (budgets_under (problem_of q) budgets) plans q q.verb a b
    (defined_in_reach (problem_of q) budgets.effort reach defined) x.due y.due

-- ---- the certificates of an answer

each_ascends : (p : ProblemView) (effort : Effort) (ts : List Terms) (ws : List CertificateView) → AreProofsOf p effort ts ws
    → All (λ (w : CertificateView). IsCanonical w.weights) ws
each_ascends p effort [] [] a = All-nil (λ (w : CertificateView). IsCanonical w.weights)
each_ascends p effort [] (w ∷ ws) a = absurd a
each_ascends p effort (t ∷ ts) [] a = absurd a
each_ascends p effort (t ∷ ts) (w ∷ ws) a = All-cons (λ (w : CertificateView). IsCanonical w.weights) w ws (proven_ascends p t effort w a.0)
    (each_ascends p effort ts ws a.1)

targets_ascend : (p : ProblemView) (effort : Effort) (ts : List Terms) (answer : AnswerView) → IsDueByRuns p effort ts answer → ProofsAscend answer
targets_ascend p effort ts (answer_views.Yes ws) x = each_ascends p effort ts ws x
targets_ascend p effort ts (answer_views.No is_back values) x = tt
targets_ascend p effort ts (answer_views.Undecided cause) x = tt
targets_ascend p effort ts (answer_views.Region rows) x = absurd x
targets_ascend p effort ts (answer_views.Contained parts proofs) x = absurd x
targets_ascend p effort ts (answer_views.Open tried) x = absurd x

region_ascends : (answer : AnswerView) (end : ProjectedView) → answer ≡ answer_of_end end → ProofsAscend answer
region_ascends answer (projections.Region kept dropped) is = subst ProofsAscend (sym is) tt
region_ascends answer (projections.Rows rate) is = subst ProofsAscend (sym is) tt
region_ascends answer (projections.Wide rate) is = subst ProofsAscend (sym is) tt

search_ascends : (q : BodyView) (a b : RegionView) (effort : Effort) (tries : ℕ) (plan found : List Candidate) (answer : AnswerView)
    → IsDueBySearch (containment_goal q a b effort) tries plan found answer → ProofsAscend answer
search_ascends q a b effort tries plan found (answer_views.Yes ws) x = absurd x
search_ascends q a b effort tries plan found (answer_views.No is_back values) x = absurd x
search_ascends q a b effort tries plan found (answer_views.Undecided cause) x = absurd x
search_ascends q a b effort tries plan found (answer_views.Region rows) x = absurd x
search_ascends q a b effort tries plan found (answer_views.Contained parts ws) x = each_ascends (problem_of q) effort
    (map (terms_in q) (obligations q a b (take x.candidate.count x.candidate.parts))) ws x.proofs.proofs
search_ascends q a b effort tries plan found (answer_views.Open tried) x = tt

ascends_by : (budgets : Budgets) (plans : List Plan) (q : BodyView) (verb : VerbView) (reply : Reply) → IsDueBy budgets plans q verb reply
    → ProofsAscend reply.answer
ascends_by budgets plans q (Prove r) reply d = targets_ascend (problem_of q) budgets.effort (map (terms_in q) (targets (variable_count q) r)) reply.answer d.0
ascends_by budgets plans q (Eliminate rates) reply d = region_ascends reply.answer d.0.end d.0.is
ascends_by budgets plans q (Contain a b tries) reply d = search_ascends q a b budgets.effort budgets.tries _ reply.found reply.answer d

pub a_yes_ascends : AYesAscends
a_yes_ascends budgets plans q reply x = ascends_by (budgets_under (problem_of q) budgets) plans q q.verb reply x.due
