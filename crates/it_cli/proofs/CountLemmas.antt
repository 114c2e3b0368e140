-- The counts of mode `bench`.
use Rattle.std.proofs.Common.{◌≡◌, ℕ, zero, suc, ◌+◌, ◌<◌, ◌≤◌, List, [], ◌∷◌, ◌++◌, length, map, drop, get_or, All, refl, sym, ap, subst, ◌∙◌, arith, true}
use Rattle.std.proofs.lemmas.List.{drop_more, get_or-map}
use Rattle.std.proofs.lemmas.List.Elements.{All-head, All-tail}
use Rattle.it_space.specs.declared.answers.Answer.{Answer}
use Rattle.it_space.specs.Answers.{AnswerView, answer_view}
use Rattle.it_space.specs.Answers.AnswerView.{Yes, No, Undecided, Region, Contained, Open}
use Rattle.it_syntax.specs.Meaning.{RelationView}
use Rattle.it_question.specs.Questions.{BodyView, QuestionView, VerbView, Prove, Eliminate, Contain}
use Rattle.it_forms.specs.declared.types.Code.{Code}
use Rattle.it_question.specs.QuestionLimits.{usual}
use Rattle.it_question.specs.Files.{FileFaultAt, FileIsOne, FileOrFault}
use Rattle.it_gen.specs.GeneratedFiles.{GeneratedIsFile, IsProve, generated_file}
use Rattle.it_canon.specs.QuestionDemands.{problem_of}
use Rattle.it_prove.specs.Reach.{is_in_reach}
use Rattle.it_prove.specs.declared.types.Runs.TheVariants.{Defined}
use Rattle.it_region.specs.declared.types.Candidate.{Candidate}
use Rattle.it_contain.specs.Proposals.{Plan, plan_after_all}
use Rattle.it_contain.proofs.PlanLemmas.{after_none, after_more}
use Rattle.it_answer.specs.declared.types.Budgets.{Budgets}
use Rattle.it_answer.specs.Replies.{Reply}
use Rattle.it_answer.specs.Shows.{ShowsBy}
use Rattle.it_answer.specs.RightAnswers.{OneRightAnswer, IsRightAnswer, IsAnswered, budgets_under}
use Rattle.it_cli.specs.Counts.{AreCounted, no_counts, with_answer}
use Rattle.it_cli.specs.CountSteps.{total}
use Rattle.it_cli.specs.Laws.{CountsAddUp}
use Rattle.it_cli.specs.Right.{IsRightAfter}
use Rattle.it_cli.specs.declared.counts.Counts.{Counts}

-- ---- the loop that counts

-- the first i questions are counted: what the rest leads to, all leads to; and the boxes know of what was found
pub record IsCounting (budgets : Budgets) (plans : List Plan) (qs : List QuestionView) (i : ℕ) (counts : Counts) (plans_now : List Plan) : Type 0 where
  pub found : List Candidate
  pub counted : (end : Counts) → AreCounted budgets plans found counts (drop i qs) end → AreCounted budgets plans [] no_counts qs end
  pub learned : plans_now ≡ map (plan_after_all found) plans
  pub few : total counts ≡ i

pub counting_first : (budgets : Budgets) (plans : List Plan) (qs : List QuestionView) → IsCounting budgets plans qs 0 no_counts plans
counting_first budgets plans qs = record { found = []; counted = λ end h. h; learned = sym (after_none plans); few = refl }

total_more : (c : Counts) (a : AnswerView) → total (with_answer c a) ≡ total c + 1
total_more c (Yes ws) = omega arith
total_more c (No is_back values) = omega arith
total_more c (Undecided cause) = omega arith
total_more c (Region rows) = omega arith
total_more c (Contained parts proofs) = omega arith
total_more c (Open tried) = omega arith

pub counting_more : (budgets : Budgets) (plans plans_now plans_next : List Plan) (qs : List QuestionView) (i : ℕ) (r : QuestionView) (counts : Counts) (answer : Answer)
    → IsCounting budgets plans qs i counts plans_now → i < length qs → r ≡ get_or qs i r
    → IsAnswered (budgets_under (problem_of r.body) budgets) plans_now r answer plans_next
    → IsCounting budgets plans qs (i + 1) (with_answer counts (answer_view answer)) plans_next
counting_more budgets plans plans_now plans_next qs i r counts answer c h e a = record {
  found = c.found ++ a.found;
  counted = λ end rest. c.counted end (subst (λ (ys : List QuestionView). AreCounted budgets plans c.found counts ys end)
      (sym question_is_first) (reply, reply_is_right, rest));
  learned = a.learned ∙ ap (map (plan_after_all a.found)) c.learned ∙ after_more c.found a.found plans;
  few = total_more counts (answer_view answer) ∙ ap (λ n. n + 1) c.few;
}
  where
    reply : Reply
    reply = record { answer = answer_view answer; found = a.found }

    reply_is_right : IsRightAfter budgets plans c.found r reply
    reply_is_right = subst (λ (ps : List Plan). IsRightAnswer budgets ps r.body reply) c.learned a.right

    question_is_first : drop i qs ≡ r ∷ drop (i + 1) qs
    question_is_first = drop_more qs i r h
        ∙ ap (λ y. y ∷ drop (i + 1) qs) (sym e)

nothing_left : (i : ℕ) (qs : List QuestionView) → length qs ≤ i → drop i qs ≡ []
nothing_left zero [] h = refl
nothing_left zero (q ∷ qs) h = absurd (omega (arith, h))
nothing_left (suc i) [] h = refl
nothing_left (suc i) (q ∷ qs) h = nothing_left i qs (omega (arith, h))

pub counting_done : (budgets : Budgets) (plans plans_now : List Plan) (qs : List QuestionView) (i : ℕ) (counts : Counts)
    → IsCounting budgets plans qs i counts plans_now → length qs ≤ i → AreCounted budgets plans [] no_counts qs counts
counting_done budgets plans plans_now qs i counts c h = c.counted counts
    (subst (λ (ys : List QuestionView). AreCounted budgets plans c.found counts ys counts) (sym (nothing_left i qs h)) refl)

-- ---- the counts are determined

pub one_count : OneRightAnswer → (budgets : Budgets) → budgets.effort.runs ≡ Defined
    → (plans : List Plan) (before : List Candidate) (counts : Counts) (qs : List QuestionView) (c d : Counts)
    → All (λ (q : QuestionView). is_in_reach (problem_of q.body) ≡ true) qs
    → AreCounted budgets plans before counts qs c → AreCounted budgets plans before counts qs d → c ≡ d
one_count one_answer budgets defined plans before counts [] c d reach a b = a ∙ sym b
one_count one_answer budgets defined plans before counts (q ∷ qs) c d reach (reply, right, rest) (other, is_right, more) =
    let own = All-head (λ (q : QuestionView). is_in_reach (problem_of q.body) ≡ true) q qs reach in
    let same : other ≡ reply = one_answer budgets (map (plan_after_all before) plans) q.body other reply defined own is_right right in
    one_count one_answer budgets defined plans (before ++ reply.found) (with_answer counts reply.answer) qs c d
    (All-tail (λ (q : QuestionView). is_in_reach (problem_of q.body) ≡ true) q qs reach) rest
    (subst (λ (x : Reply). AreCounted budgets plans (before ++ x.found) (with_answer counts x.answer) qs d) same more)

-- ---- what they sum to

-- the counts with one more answer are those with one more yes, no or undecided
abbrev IsOneMore : Counts → Counts → Type 0
IsOneMore c d = (d.yes + d.no + d.undecided ≡ c.yes + c.no + c.undecided + 1) × (d.regions ≡ c.regions) × (d.contained ≡ c.contained)
    × (d.left_open ≡ c.left_open)

counted_answer : (q : BodyView) (r : RelationView) (c : Counts) (answer : AnswerView) → ShowsBy q (Prove r) answer → IsOneMore c (with_answer c answer)
counted_answer q r c (Yes ws) x = (omega arith, refl, refl, refl)
counted_answer q r c (No is_back values) x = (omega arith, refl, refl, refl)
counted_answer q r c (Undecided cause) x = (omega arith, refl, refl, refl)
counted_answer q r c (Region rows) x = absurd x
counted_answer q r c (Contained parts proofs) x = absurd x
counted_answer q r c (Open tried) x = absurd x

with_verb_is_prove : (q : QuestionView) (verb : VerbView) → q.body.verb ≡ verb → IsProve q → IsProve (record q { body = record q.body { verb = verb } })
with_verb_is_prove q verb is proof = subst (λ (v : VerbView). IsProve (record q { body = record q.body { verb = v } })) is proof

-- where the verb is `prove`
counted_shown : (q : QuestionView) (verb : VerbView) (answer : AnswerView) (c : Counts) → q.body.verb ≡ verb → IsProve q
    → ShowsBy q.body verb answer → IsOneMore c (with_answer c answer)
counted_shown q (Prove r) answer c is proof x = counted_answer q.body r c answer x
counted_shown q (Eliminate rates) answer c is proof x = absurd (with_verb_is_prove q (Eliminate rates) is proof)
counted_shown q (Contain a b tries) answer c is proof x = absurd (with_verb_is_prove q (Contain a b tries) is proof)

answers_add_up : (budgets : Budgets) (plans : List Plan) (before : List Candidate) (counts : Counts) (qs : List QuestionView) (end : Counts)
    → All IsProve qs → AreCounted budgets plans before counts qs end
    → (end.yes + end.no + end.undecided ≡ counts.yes + counts.no + counts.undecided + length qs) × (end.regions ≡ counts.regions)
    × (end.contained ≡ counts.contained) × (end.left_open ≡ counts.left_open)
answers_add_up budgets plans before counts [] end all is =
    subst (λ (e : Counts). (e.yes + e.no + e.undecided ≡ counts.yes + counts.no + counts.undecided + 0) × (e.regions ≡ counts.regions)
    × (e.contained ≡ counts.contained) × (e.left_open ≡ counts.left_open))
    (sym is) (omega arith, refl, refl, refl)
answers_add_up budgets plans before counts (q ∷ qs) end all (reply, right, rest) =
    let one = counted_shown q q.body.verb reply.answer counts refl (All-head IsProve q qs all) right.shows in
    let more = answers_add_up budgets plans (before ++ reply.found) (with_answer counts reply.answer) qs end (All-tail IsProve q qs all) rest in
    (omega (arith, one.0, more.0), more.1 ∙ one.1, more.2 ∙ one.2, more.3 ∙ one.3)

pub counts_add_up : GeneratedIsFile → FileIsOne → CountsAddUp
counts_add_up generated one_reading budgets plans seed count questions counts few asked counted =
    let file = generated seed count few in
    let same : file.questions ≡ questions = one_reading usual (generated_file seed count) file.questions questions file.asked asked in
    let all : All IsProve questions = subst (λ (qs : List QuestionView). All IsProve qs) same file.prove in
    let sum = answers_add_up budgets plans [] no_counts questions counts all counted in
    (sum.0 ∙ (let n : length questions ≡ count = ap length (sym same) ∙ file.counted in omega (arith, n)), sum.1, sum.2, sum.3)

-- a generated file has no fault
pub generated_has_no_fault : GeneratedIsFile → FileOrFault → (seed count : ℕ) (bytes : List ℕ) (line column : ℕ) (code : Code)
    → count ≤ 1000 → bytes ≡ generated_file seed count → FileFaultAt bytes line column code → ⊥
generated_has_no_fault generated apart seed count bytes line column code few is fault =
    let file = generated seed count few in
    apart usual (generated_file seed count) file.questions line column code file.asked (subst (λ (b : List ℕ). FileFaultAt b line column code) is fault)
