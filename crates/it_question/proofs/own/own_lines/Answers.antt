use Rattle.std.specs.Prelude.{codes, if◌then◌else◌}
use Rattle.std.proofs.Common.{◌≡◌, ℕ, Bool, true, false, cond, refl, List, [], ◌∷◌, Option, Some, None, sym, ap, ◌∙◌, subst}
use Rattle.it_forms.specs.declared.types.Code.{Code}
use Rattle.it_forms.specs.declared.types.Code.TheVariants.{Many}
use Rattle.it_forms.specs.Letters.{Letter}
use Rattle.it_forms.specs.Forms.{Keyword, is_of, is_among}
use Rattle.it_forms.specs.FormReading.{after}
use Rattle.it_forms.specs.Words.{limit_flag}
use Rattle.it_syntax.specs.Gives.{StopsAs}
use Rattle.it_question.specs.QuestionLimits.{givens_left, rows_left}
use Rattle.it_question.specs.Cursors.{letters_left}
use Rattle.it_question.specs.QuestionForms.{own_words, own_keyword, own_line, more_own_lines}
use Rattle.it_question.specs.OwnLines.{OwnLinesView}
use Rattle.it_question.specs.ReaderSteps.{own_word}
use Rattle.it_syntax.proofs.Loops.{after_with_flags, no_limit, loop_goes, loop_stops, loop_flagged, loop_ends, rest_is_shorter}
use Rattle.it_question.proofs.own.own_lines.Goals as goal

-- what stands there under the flags of the limits
stands : (g r : ℕ) (own : OwnLinesView) (b : Bool) (m : Option Code) (ls tail : List Letter) → after own_word ls ≡ Some ((None, b), tail)
    → limit_flag (if b then givens_left g own else rows_left r own) ≡ m
    → after (record { kinds = own_words; says = own_keyword g r own }) ls ≡ Some ((m, b), tail)
stands g r own b m ls tail e h = after_with_flags own_words (is_of (Keyword (codes "given"))) (λ b. limit_flag (if b then givens_left g own else rows_left r own)) b ls tail e ∙ ap (λ (k : Option Code). Some ((k, b), tail)) h

none_stands : (g r : ℕ) (own : OwnLinesView) (ls : List Letter) → after own_word ls ≡ None
    → after (record { kinds = own_words; says = own_keyword g r own }) ls ≡ None
none_stands g r own [] e = refl
none_stands g r own (l ∷ ls) e = by_test (is_among own_words l) e
  where
    by_test : (x : Bool) → cond {A = Option ((Option Code × Bool) × List Letter)} x (Some ((None, is_of (Keyword (codes "given")) l), ls)) None ≡ None → cond {A = Option ((Option Code × Bool) × List Letter)} x (Some (own_keyword g r own l, ls)) None ≡ None
    by_test true e = absurd cc
    by_test false e = refl

pub returns-then-lines_left-eq0 : goal.returns-then-lines_left-eq0
unfolding more_own_lines
returns-then-lines_left-eq0 c =
    let g = c.args.most_givens in
    let r = c.args.most_rows in
    let own = c.loop-is_given.own in
    let n = sym c.lines_left.ensures ∙ c.if-lines_left-eq0.true in
    sym c.loop-is_given.invariant ∙ loop_flagged own_words (own_keyword g r) (own_line c.args.names.now) own c.in-Some.is_given Many _ _
    (stands g r own c.in-Some.is_given (Some Many) (letters_left c.loop-is_given.cursor) _ c.in-Some.ensures.found (ap limit_flag n))

pub loop-is_given-smaller : goal.loop-is_given-smaller
loop-is_given-smaller c = rest_is_shorter own_word (own_line c.args.names.now c.loop-is_given.own c.in-Some.is_given) _ _ _
    _ _ c.in-Some.ensures.found c.in-Ok.ensures

pub loop-is_given-preserved : goal.loop-is_given-preserved
unfolding more_own_lines
loop-is_given-preserved c =
    let g = c.args.most_givens in
    let r = c.args.most_rows in
    let own = c.loop-is_given.own in
    let free = no_limit (if c.in-Some.is_given then givens_left g own else rows_left r own) (λ e. c.if-lines_left-eq0.false (c.lines_left.ensures ∙ e)) in
    loop_goes own_words (own_keyword g r) (own_line c.args.names.now) own c.own_line.new.own c.in-Some.is_given _ _ _
    (stands g r own c.in-Some.is_given None (letters_left c.loop-is_given.cursor) _ c.in-Some.ensures.found free) c.in-Ok.ensures
    ∙ c.loop-is_given.invariant

pub returns-in-Err : goal.returns-in-Err
unfolding more_own_lines
returns-in-Err c =
    let g = c.args.most_givens in
    let r = c.args.most_rows in
    let own = c.loop-is_given.own in
    let free = no_limit (if c.in-Some.is_given then givens_left g own else rows_left r own) (λ e. c.if-lines_left-eq0.false (c.lines_left.ensures ∙ e)) in
    subst (StopsAs c.in-Err.stop (letters_left c.own_line.new.cursor)) c.loop-is_given.invariant
    (loop_stops own_words (own_keyword g r) (own_line c.args.names.now) own c.in-Some.is_given _ _ _ c.in-Err.stop
    (stands g r own c.in-Some.is_given None (letters_left c.loop-is_given.cursor) _ c.in-Some.ensures.found free) c.in-Err.ensures)

pub returns : goal.returns
unfolding more_own_lines
returns c = sym c.loop-is_given.invariant ∙ loop_ends own_words (own_keyword c.args.most_givens c.args.most_rows)
    (own_line c.args.names.now) c.loop-is_given.own _ (none_stands c.args.most_givens c.args.most_rows
    c.loop-is_given.own (letters_left c.loop-is_given.cursor) c.in_default.ensures.none)
