-- Right answers can be written: their generators are there, their points and causes are of the question's names.
use Rattle.std.proofs.Common.{◌≡◌, inl, inr, ℕ, ◌+◌, ◌<◌, ◌≤◌, ℤ, List, [], ◌∷◌, map, length, drop, All, Bool, true, false, None, refl, sym, ap, ap₂, subst, ◌∙◌, arith, length-append}
use Rattle.std.proofs.lemmas.List.{length-map}
use Rattle.std.proofs.Math.Seq.{drop-append_seam}
use Rattle.std.proofs.lemmas.List.Elements.{All-nil, All-cons, All-head, All-tail, All-weaker}
use Rattle.std.proofs.lemmas.Nat.{pow_pos}
use Rattle.std.proofs.Math.Pow.{pow_mono}
use Rattle.it_space.specs.declared.answers.Certificate.{Certificate}
use Rattle.it_space.specs.declared.answers.Cause.{Cause}
use Rattle.it_space.specs.declared.answers.Cause.TheVariants as causes
use Rattle.it_space.specs.declared.answers.Cause.TheVariants.{Scale}
use Rattle.it_problems.specs.declared.problems.Constraint.{Constraint}
use Rattle.it_problems.specs.Problems.{ProblemView}
use Rattle.it_space.specs.declared.spaces.Space.{Space}
use Rattle.it_space.specs.declared.answers.Answer.{Answer}
use Rattle.it_space.specs.declared.answers.Answer.TheVariants as answers
use Rattle.it_space.specs.Answers.{AnswerView, CertificateView, answer_view, certificate_view}
use Rattle.it_space.specs.declared.answers.Mark.{Mark}
use Rattle.it_space.specs.Answers as views
use Rattle.it_space.specs.Rows.{Terms, IsOver}
use Rattle.it_space.specs.Spaces.{size_of, most_variables}
use Rattle.it_polymatroid.specs.Certificates.{Form}
use Rattle.it_polymatroid.specs.Elementals.{elementals}
use Rattle.it_space.proofs.EveryLemmas.{every_of}
use Rattle.it_syntax.specs.Meaning.{RelationView}
use Rattle.it_syntax.specs.NamesViews.{NamesView}
use Rattle.it_question.specs.AsciiTexts.{IsAsciiQuestion}
use Rattle.it_certificate.specs.Values.{IsWritable}
use Rattle.it_question.specs.Limits.{IsQuestion, IsRegionOf, IsVerbOver}
use Rattle.it_question.specs.OwnLines.{RegionView}
use Rattle.it_question.specs.Questions.{BodyView, QuestionView, VerbView, Prove, Eliminate, Contain}
use Rattle.it_demand.specs.Demands.{Demand}
use Rattle.it_demand.specs.Origins.{ComesFrom, States, AreStated}
use Rattle.std.specs.List.{AllZip}
use Rattle.it_problems.specs.declared.problems.Origin.{Origin}
use Rattle.it_canon.specs.QuestionDemands.{question_demands, question_origins, problem_of, terms_in}
use Rattle.it_canon.specs.TrueLines.{variable_count}
use Rattle.it_question.specs.ProblemLines.{problem_names, names_under}
use Rattle.it_demand.specs.QuestionSpaces.{space_of}
use Rattle.it_demand.specs.SystemForms.{system_forms}
use Rattle.it_demand.proofs.ZipLemmas.{zip-length}
use Rattle.it_run.specs.Runs.RunEndView.{Weights, Point, Pivots, Width}
use Rattle.it_run.specs.Runs.{RunEndView}
use Rattle.it_rational.specs.Rational.{Rational}
use Rattle.it_prove.specs.ProofViews.{Yes, No, Undecided, Follows, EndsWith}
use Rattle.it_prove.specs.declared.types.Effort.{Effort}
use Rattle.it_prove.proofs.ProofLemmas.{quick_cause}
use Rattle.it_eliminate.proofs.MemberLemmas.{every_member}
use Rattle.it_redundant.specs.ReducedElimination.{ProjectedView}
use Rattle.it_redundant.specs.ReducedElimination as projections
use Rattle.it_answer.specs.declared.types.Budgets.{Budgets}
use Rattle.it_answer.specs.Shows.{ShowsBy, Refutes}
use Rattle.it_answer.specs.Truth.{region_rows}
use Rattle.it_answer.specs.DueEliminations.{IsDueElimination, answer_of_end}
use Rattle.it_answer.specs.DueRelations.{CauseIsDue, IsDueRelation}
use Rattle.it_answer.specs.Forms.{CertifyAll, IsAllowedWeight, all_demands}
use Rattle.it_demand.specs.Targets.{targets}
use Rattle.it_answer.specs.RightAnswers.{IsDueBy, IsRightAnswer, budgets_under}
use Rattle.it_print.specs.Lines.{IsCauseOf, IsPrintable, IsRowOver, answer_line, auxiliary_names, origins_of}
use Rattle.it_print.specs.ProofLines.{generator_rows, proof_text}
use Rattle.it_region.specs.AnswerForms.{answer_forms}
use Rattle.it_answer.proofs.UniqueLemmas.{undecided_same}
use Rattle.it_region.specs.declared.types.Candidate.{Candidate}
use Rattle.it_region.specs.Obligations.{IsSubstitution, obligations}
use Rattle.it_contain.specs.Proposals.{Plan}
use Rattle.it_settings.specs.declared.types.Format.TheVariants.{Text, Proof}
use Rattle.it_cli.specs.ToldOrigins.{answer_lines}
use Rattle.it_cli.proofs.ProofLemmas.{generator_rows_are}
use Rattle.it_cli.proofs.RateLemmas.{IsEndOf, end_of_rates}
use Rattle.it_print.proofs.RowLemmas.{row_over}

length-demands : (n : ℕ) (ds : List Demand) → length (all_demands n ds) ≡ length (elementals n) + length ds
unfolding all_demands
length-demands n ds = simp (length-append, length-map)

pub origins_same : (places : List Origin) (cs : List Constraint) → AllZip ComesFrom places cs → origins_of cs ≡ places
origins_same [] [] h = refl
origins_same [] (c ∷ cs) h = absurd h
origins_same (place ∷ places) [] h = absurd h
origins_same (place ∷ places) (c ∷ cs) h = ap₂ (λ x xs. x ∷ xs) h.0 (origins_same places cs h.1)

certificates : (q : BodyView) (n m : ℕ) (fs : List Form) (cs : List Certificate) → n ≡ variable_count q → m ≡ length (question_demands q)
    → CertifyAll q fs (map certificate_view cs)
    → All (λ (c : Certificate). All (λ (w : ℕ × ℤ). w.0 < length (elementals n) + m) c.weights.items) cs
certificates q n m [] [] e f c = All-nil (λ (c : Certificate). All (λ (w : ℕ × ℤ). w.0 < length (elementals n) + m) c.weights.items)
certificates q n m [] (k ∷ ks) e f c = absurd c
certificates q n m (g ∷ fs) [] e f c = absurd c
certificates q n m (g ∷ fs) (k ∷ ks) e f c = All-cons (λ (c : Certificate). All (λ (w : ℕ × ℤ). w.0 < length (elementals n) + m) c.weights.items) k ks
    (All-weaker (IsAllowedWeight (all_demands (variable_count q) (question_demands q))) (λ (w : ℕ × ℤ). w.0 < length (elementals n) + m)
    (λ w a. omega (arith, a.0, length-demands (variable_count q) (question_demands q), ap (λ i. length (elementals i)) e, f)) k.weights.items c.0.allowed)
    (certificates q n m fs ks e f c.1)

-- a counterexample has a value for each coordinate
pub point_size : (q : BodyView) (fs : List Form) (is_back : Bool) (values : List ℤ) → Refutes q fs is_back values
    → length values ≡ size_of (space_of (problem_names q))
point_size q [] is_back values c = absurd c
point_size q (f ∷ fs) false values c = c.complete
point_size q (f ∷ []) true values c = absurd c
point_size q (f ∷ g ∷ fs) true values c = c.1.complete

cause_of_run_end : (p : ProblemView) (t : Terms) (m : ℕ) (cause : Cause) (e : RunEndView (List (ℕ × Rational)) (List Rational))
    → Follows p t e (Undecided cause) → IsCauseOf m cause
cause_of_run_end p t m cause (Weights ws) (inl a) = absurd (undecided_not_yes a.3)
  where
    undecided_not_yes : {w : CertificateView} → Undecided cause ≡ Yes w → ⊥
    undecided_not_yes e = cc
cause_of_run_end p t m cause (Weights ws) (inr a) = subst (IsCauseOf m) (sym (undecided_same cause Scale a.1)) tt
cause_of_run_end p t m cause (Point qs) (inl a) = absurd (undecided_not_no a.1)
  where
    undecided_not_no : {values : List ℤ} → Undecided cause ≡ No values → ⊥
    undecided_not_no e = cc
cause_of_run_end p t m cause (Point qs) (inr a) = subst (IsCauseOf m) (sym (undecided_same cause Scale a.1)) tt
cause_of_run_end p t m cause (Pivots k) a = subst (IsCauseOf m) (sym (undecided_same cause (causes.Pivots k) a)) tt
cause_of_run_end p t m cause (Width k) a = subst (IsCauseOf m) (sym (undecided_same cause (causes.Width k) a)) tt

cause_of_target : (p : ProblemView) (effort : Effort) (m : ℕ) (t : Terms) (cause : Cause) → EndsWith p t effort (Undecided cause) → IsCauseOf m cause
cause_of_target p effort m t cause (inl e) = cause_of_run_end p t m cause e.end e.follows
cause_of_target p effort m t cause (inr e) = subst (IsCauseOf m) (sym (quick_cause effort.runs p t cause e)) tt

cause_of_due : (p : ProblemView) (effort : Effort) (m : ℕ) (ts : List Terms) (cause : Cause) → CauseIsDue p effort ts cause → IsCauseOf m cause
cause_of_due p effort m [] cause c = absurd c
cause_of_due p effort m (t ∷ ts) cause (inl e) = cause_of_target p effort m t cause e
cause_of_due p effort m (t ∷ ts) cause (inr e) = cause_of_due p effort m ts cause e.1

-- ---- an answer to `prove`

-- a question of a file has few names, also with those of its first region
few_names : (q : BodyView) → IsQuestion q → (length (problem_names q).variables ≤ most_variables) × (length (problem_names q).rates ≤ 16)
few_names q k = by_verb q.verb k.verb
  where
    by_verb : (verb : VerbView) → IsVerbOver q.names verb → (length (names_under q.names verb).variables ≤ most_variables)
        × (length (names_under q.names verb).rates ≤ 16)
    by_verb (Prove r) over = (k.few, k.few_rates)
    by_verb (Eliminate rates) over = (k.few, k.few_rates)
    by_verb (Contain a b tries) over = (omega (arith, over.0.few_variables), subst (λ (rs : List (List ℕ)). length rs ≤ 16) (sym over.0.rates) k.few_rates)

printable_proof : (effort : Effort) (q : BodyView) (r : RelationView) (m : ℕ) (answer : Answer) → IsQuestion q
    → m ≡ length (question_demands q) → ShowsBy q (Prove r) (answer_view answer)
    → IsDueRelation effort q r (answer_view answer) → IsPrintable q m answer
printable_proof effort q r m (answers.Yes proofs) k few shown due = certificates q (variable_count q) m
    (targets (variable_count q) r) proofs.items refl few shown
printable_proof effort q r m (answers.No is_back point) k few shown due =
    let size : length point ≡ size_of (space_of (problem_names q)) = point_size q (targets (variable_count q) r) is_back point shown in
    let names = few_names q k in
    (omega (arith, size, pow_pos (variable_count q)), omega (arith, size, pow_mono {i = variable_count q} {j = most_variables} names.0, names.1))
printable_proof effort q r m (answers.Undecided cause) k few shown due = cause_of_due (problem_of q) effort (length (problem_names q).rates)
    (map (terms_in q) (targets (variable_count q) r)) cause due
printable_proof effort q r m (answers.Region rows) k few shown due = absurd shown
printable_proof effort q r m (answers.Contained parts proofs) k few shown due = absurd shown
printable_proof effort q r m (answers.Open tried) k few shown due = absurd shown

-- ---- an answer to `eliminate`

region_rows_over : (v : NamesView) (rows : List (Mark × Terms)) → All (IsOver (size_of (space_of v))) (region_rows rows)
    → All (λ (row : Mark × Terms). IsRowOver v row.1) rows
region_rows_over v [] a = All-nil (λ (row : Mark × Terms). IsRowOver v row.1)
region_rows_over v (row ∷ rows) a = All-cons (λ (row : Mark × Terms). IsRowOver v row.1) row rows
    (row_over v row.1 (All-head (IsOver (size_of (space_of v))) row.1 (region_rows rows) a))
    (region_rows_over v rows (All-tail (IsOver (size_of (space_of v))) row.1 (region_rows rows) a))

-- a cause's rate is one of m
abbrev IsCauseIn : ℕ → AnswerView → Type 0
IsCauseIn m (views.Undecided cause) = IsCauseOf m cause
IsCauseIn m _ = Unit {0}

cause_of_end : (m : ℕ) (rates : List ℕ) (end : ProjectedView) → All (λ r. r < m) rates → IsEndOf rates end → IsCauseIn m (answer_of_end end)
cause_of_end m rates (projections.Region kept dropped) within h = tt
cause_of_end m rates (projections.Rows rate) within h = every_member (λ r. r < m) rates rate (every_of (λ r. r < m) rates within) h
cause_of_end m rates (projections.Wide rate) within h = every_member (λ r. r < m) rates rate (every_of (λ r. r < m) rates within) h

printable_region : (budgets : Budgets) (q : BodyView) (rates : List ℕ) (m : ℕ) (answer : Answer) → problem_names q ≡ q.names
    → All (λ r. r < length q.names.rates) rates → ShowsBy q (Eliminate rates) (answer_view answer)
    → IsDueElimination budgets q rates (answer_view answer) → IsPrintable q m answer
printable_region budgets q rates m (answers.Yes proofs) names within shown due = absurd shown
printable_region budgets q rates m (answers.No is_back point) names within shown due = absurd shown
printable_region budgets q rates m (answers.Undecided cause) names within shown due =
    subst (λ (v : NamesView). IsCauseOf (length v.rates) cause) (sym names) (subst (IsCauseIn (length q.names.rates)) (sym due.is)
    (cause_of_end (length q.names.rates) rates due.end within (end_of_rates (problem_of q) budgets.effort budgets.rows
    (map (terms_in q) (system_forms (variable_count q) q.lines.rows)) [] [] rates due.end due.ends)))
printable_region budgets q rates m (answers.Region rows) names within shown due = subst
    (λ (v : NamesView). All (λ (row : Mark × Terms). IsRowOver v row.1) rows.items) (sym names)
    (region_rows_over q.names rows.items shown.coordinates)
printable_region budgets q rates m (answers.Contained parts proofs) names within shown due = absurd shown
printable_region budgets q rates m (answers.Open tried) names within shown due = absurd shown

-- ---- an answer to `contain`

-- the parts are as many as the names of auxiliary variables
as_many_parts : (q : BodyView) (a b : RegionView) (tries : List (List ℕ)) (parts : List ℕ) → q.verb ≡ Contain a b tries
    → IsRegionOf q.names b → IsSubstitution a b parts → length parts ≡ length (auxiliary_names q.names q.verb)
as_many_parts q a b tries parts is region are = are.count ∙ region.counted
    ∙ ap length (sym (ap (auxiliary_names q.names) is ∙ ap (drop (length q.names.variables)) region.variables ∙ drop-append_seam q.names.variables region.own))

printable_containment : (q : BodyView) (a b : RegionView) (tries : List (List ℕ)) (m : ℕ) (answer : Answer) → q.verb ≡ Contain a b tries
    → IsQuestion q → m ≡ length (question_demands q)
    → ShowsBy q (Contain a b tries) (answer_view answer) → IsPrintable q m answer
printable_containment q a b tries m (answers.Yes proofs) is k few shown = absurd shown
printable_containment q a b tries m (answers.No is_back point) is k few shown = absurd shown
printable_containment q a b tries m (answers.Undecided cause) is k few shown = absurd shown
printable_containment q a b tries m (answers.Region rows) is k few shown = absurd shown
printable_containment q a b tries m (answers.Contained parts proofs) is k few shown = (
  as_many_parts q a b tries parts.items is (subst (IsVerbOver q.names) is k.verb).1 shown.are_parts,
  certificates q (variable_count q) m (obligations q a b parts.items) proofs.items refl few shown.certified,
)
printable_containment q a b tries m (answers.Open tried) is k few shown = tt

-- ---- each verb

pub right_is_printable : (budgets : Budgets) (plans : List Plan) (q : BodyView) (m : ℕ) (answer : Answer) (found : List Candidate)
    → IsQuestion q → m ≡ length (question_demands q)
    → IsRightAnswer budgets plans q (record { answer = answer_view answer; found = found }) → IsPrintable q m answer
right_is_printable budgets plans q m answer found k few right = by_verb q.verb refl right.shows right.due
  where
    own : Budgets
    own = budgets_under (problem_of q) budgets

    by_verb : (verb : VerbView) → q.verb ≡ verb → ShowsBy q verb (answer_view answer)
        → IsDueBy own plans q verb (record { answer = answer_view answer; found = found }) → IsPrintable q m answer
    by_verb (Prove r) is shown due = printable_proof own.effort q r m answer k few shown due.0
    by_verb (Eliminate rates) is shown due = printable_region own q rates m answer (ap (names_under q.names) is)
        (subst (IsVerbOver q.names) is k.verb).within shown due.0
    by_verb (Contain a b tries) is shown due = printable_containment q a b tries m answer is k few shown

-- ---- its texts

-- the rates of the problem are the question's
rates_of_problem : (q : BodyView) → IsQuestion q → (problem_names q).rates ≡ q.names.rates
rates_of_problem q k = by_verb q.verb k.verb
  where
    by_verb : (verb : VerbView) → IsVerbOver q.names verb → (names_under q.names verb).rates ≡ q.names.rates
    by_verb (Prove r) over = refl
    by_verb (Eliminate rates) over = refl
    by_verb (Contain a b tries) over = over.0.rates

-- an answer with a line of text has one of JSON
pub printable_is_writable : (q : QuestionView) (m : ℕ) (answer : Answer) → IsQuestion q.body → IsAsciiQuestion q
    → IsPrintable q.body m answer → IsWritable q.body.names (answer_view answer)
printable_is_writable q m (answers.Yes proofs) k ascii p = tt
printable_is_writable q m (answers.No back point) k ascii p = tt
printable_is_writable q m (answers.Undecided (causes.Pivots steps)) k ascii p = tt
printable_is_writable q m (answers.Undecided (causes.Width step)) k ascii p = tt
printable_is_writable q m (answers.Undecided causes.Scale) k ascii p = tt
printable_is_writable q m (answers.Undecided (causes.Rows r)) k ascii p = let within = subst (λ (rs : List (List ℕ)). r < length rs)
    (rates_of_problem q.body k) p in (within, ascii.rates r [] within)
printable_is_writable q m (answers.Undecided (causes.WideRate r)) k ascii p = let within = subst (λ (rs : List (List ℕ)). r < length rs)
    (rates_of_problem q.body k) p in (within, ascii.rates r [] within)
printable_is_writable q m (answers.Region rows) k ascii p = tt
printable_is_writable q m (answers.Contained parts proofs) k ascii p = tt
printable_is_writable q m (answers.Open tried) k ascii p = tt

-- the lines in each format
pub text_by_places : (q : QuestionView) (k : ℕ) (s : Space) (cs : List Constraint) (answer : AnswerView) (bytes : List ℕ)
    → AreStated s (question_origins q.body) (question_demands q.body) cs
    → bytes ≡ answer_line k q.body (origins_of cs) answer → bytes ≡ answer_lines Text k q answer None
text_by_places q k s cs answer bytes stated is = is ∙ ap (λ xs. answer_line k q.body xs answer) (origins_same (question_origins q.body) cs stated.placed)

pub proof_by_places : (q : QuestionView) (k : ℕ) (s : Space) (cs : List Constraint) (answer : AnswerView) (bytes : List ℕ)
    → s ≡ space_of (problem_names q.body) → AreStated s (question_origins q.body) (question_demands q.body) cs
    → bytes ≡ proof_text k q.body (origins_of cs) (generator_rows (problem_names q.body) cs)
    (map (terms_in q.body) (answer_forms q.body answer)) answer → bytes ≡ answer_lines Proof k q answer None
proof_by_places q k s cs answer bytes space stated is = is ∙ ap₂ (λ xs rows. proof_text k q.body xs rows
    (map (terms_in q.body) (answer_forms q.body answer)) answer)
    (origins_same (question_origins q.body) cs stated.placed) (generator_rows_are q.body cs
    (subst (λ (t : Space). AllZip (States t) (question_demands q.body) cs) space stated.stated))

pub few_constraints : (q : BodyView) (s : Space) (cs : List Constraint) → AreStated s (question_origins q) (question_demands q) cs
    → length cs ≡ length (question_demands q)
few_constraints q s cs h = zip-length (States s) (question_demands q) cs h.stated
