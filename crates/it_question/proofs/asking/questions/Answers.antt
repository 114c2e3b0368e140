use Rattle.std.specs.Prelude.{codes}
use Rattle.std.proofs.Common.{◌≡◌, ◌-◌, ◌++◌, [], ◌∷◌, length, map, arith, ap}
use Rattle.std.proofs.lemmas.List.{length-map}
use Rattle.it_forms.specs.declared.types.Code.TheVariants.{Many}
use Rattle.it_forms.specs.Words.{word, limit_flag}
use Rattle.it_question.specs.Bodies.{body_view}
use Rattle.it_question.specs.Cursors.{letters_left}
use Rattle.it_question.specs.QuestionForms.{question, more_questions}
use Rattle.it_question.specs.QuestionLimits.{most_questions}
use Rattle.it_syntax.proofs.Loops.{no_limit, rest_is_shorter}
use Rattle.it_question.proofs.WordLoops.{word_goes, word_stops, word_flagged, word_ends}
use Rattle.it_question.proofs.asking.questions.Goals as goal

pub returns-then-len-ge-MOST_QUESTIONS : goal.returns-then-len-ge-MOST_QUESTIONS
unfolding more_questions
returns-then-len-ge-MOST_QUESTIONS c =
    let none : most_questions - length (map body_view c.loop-after.found.items)
    ≡ 0 = omega (arith, length-map c.loop-after.found.items body_view, c.len.ensures, c.if-len-ge-MOST_QUESTIONS.true) in
    word_flagged (codes "vars") _ (λ qs. question c.args.limits) (λ qs q. qs ++ q ∷ []) (map body_view c.loop-after.found.items)
    (letters_left c.loop-after.cursor) _ c.loop-after.invariant Many _ (ap limit_flag none) c.in-Some.ensures.found

pub loop-after-smaller : goal.loop-after-smaller
loop-after-smaller c = rest_is_shorter (word (codes "vars")) _ _ _ _ _ _ c.in-Some.ensures.found c.in-Ok.ensures

pub loop-after-preserved : goal.loop-after-preserved
unfolding more_questions
loop-after-preserved c =
    let free = no_limit (most_questions - length (map body_view c.loop-after.found.items))
    (λ e. omega (arith, length-map c.loop-after.found.items body_view, c.len.ensures, c.if-len-ge-MOST_QUESTIONS.false, e)) in
    rw c.in_ok-add-in-Ok.ensures.added (word_goes (codes "vars") _ (λ qs. question c.args.limits) (λ qs q. qs ++ q ∷ [])
    (map body_view c.loop-after.found.items) (letters_left c.loop-after.cursor) _ c.loop-after.invariant
    (body_view c.in-Ok.next) _ _ free c.in-Some.ensures.found c.in-Ok.ensures)

pub returns-in-Err : goal.returns-in-Err
unfolding more_questions
returns-in-Err c =
    let free = no_limit (most_questions - length (map body_view c.loop-after.found.items))
    (λ e. omega (arith, length-map c.loop-after.found.items body_view, c.len.ensures, c.if-len-ge-MOST_QUESTIONS.false, e)) in
    word_stops (codes "vars") _ (λ qs. question c.args.limits) (λ qs q. qs ++ q ∷ []) (map body_view c.loop-after.found.items)
    (letters_left c.loop-after.cursor) _ c.loop-after.invariant c.in-Err.stop _ _ free c.in-Some.ensures.found c.in-Err.ensures

pub returns : goal.returns
unfolding more_questions
returns c = word_ends (codes "vars") _ (λ qs. question c.args.limits) (λ qs q. qs ++ q ∷ []) (map body_view c.loop-after.found.items)
    (letters_left c.loop-after.cursor) _ c.loop-after.invariant c.in_default.ensures.none
