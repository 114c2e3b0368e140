use Rattle.std.specs.Prelude.{codes}
use Rattle.std.proofs.Common.{◌++◌, [], ◌∷◌, arith}
use Rattle.it_forms.specs.declared.types.Code.TheVariants.{Word, Many}
use Rattle.it_forms.specs.Words.{word}
use Rattle.it_question.specs.Cursors.{letters_left}
use Rattle.it_question.specs.QuestionForms.{try_line, more_tries}
use Rattle.it_syntax.proofs.Loops.{rest_is_shorter}
use Rattle.it_question.proofs.TryFlags.{no_auxiliary, no_more_tries, try_allowed}
use Rattle.it_question.proofs.WordLoops.{word_goes, word_stops, word_flagged, word_ends}
use Rattle.it_question.proofs.tries.tries.Goals as goal

pub returns-then-auxiliaries-eq0 : goal.returns-then-auxiliaries-eq0
unfolding more_tries
returns-then-auxiliaries-eq0 c = word_flagged (codes "try") _ (λ ts. try_line _ _ _) (λ ts t. ts ++ t ∷ []) c.loop-after.found.items (letters_left c.loop-after.cursor) _ c.loop-after.invariant Word _ (no_auxiliary c.args.auxiliaries c.loop-after.found.items c.if-auxiliaries-eq0.true) c.in-Some.ensures.found

pub returns-then-len-ge-MOST_LINES : goal.returns-then-len-ge-MOST_LINES
unfolding more_tries
returns-then-len-ge-MOST_LINES c = word_flagged (codes "try") _ (λ ts. try_line _ _ _) (λ ts t. ts ++ t ∷ []) c.loop-after.found.items (letters_left c.loop-after.cursor) _ c.loop-after.invariant Many _ (no_more_tries c.args.auxiliaries c.loop-after.found.items c.if-auxiliaries-eq0.false (omega (arith, c.len.ensures, c.if-len-ge-MOST_LINES.true))) c.in-Some.ensures.found

pub loop-after-smaller : goal.loop-after-smaller
loop-after-smaller c = rest_is_shorter (word (codes "try")) _ _ _ _ _ _ c.in-Some.ensures.found c.in-Ok.ensures

pub loop-after-preserved : goal.loop-after-preserved
unfolding more_tries
loop-after-preserved c =
    let free = try_allowed c.args.auxiliaries c.loop-after.found.items c.if-auxiliaries-eq0.false
    (λ e. omega (arith, c.len.ensures, c.if-len-ge-MOST_LINES.false, e)) in
    rw c.in_ok-add-in-Ok.ensures.added (word_goes (codes "try") _ (λ ts. try_line _ _ _) (λ ts t. ts ++ t ∷ []) c.loop-after.found.items (letters_left c.loop-after.cursor) _ c.loop-after.invariant c.in-Ok.next _ _ free c.in-Some.ensures.found c.in-Ok.ensures)

pub returns-in-Err : goal.returns-in-Err
unfolding more_tries
returns-in-Err c =
    let free = try_allowed c.args.auxiliaries c.loop-after.found.items c.if-auxiliaries-eq0.false
    (λ e. omega (arith, c.len.ensures, c.if-len-ge-MOST_LINES.false, e)) in
    word_stops (codes "try") _ (λ ts. try_line _ _ _) (λ ts t. ts ++ t ∷ []) c.loop-after.found.items (letters_left c.loop-after.cursor) _ c.loop-after.invariant c.in-Err.stop _ _ free c.in-Some.ensures.found c.in-Err.ensures

pub returns : goal.returns
unfolding more_tries
returns c = word_ends (codes "try") _ (λ ts. try_line _ _ _) (λ ts t. ts ++ t ∷ []) c.loop-after.found.items (letters_left c.loop-after.cursor) _ c.loop-after.invariant c.in_default.ensures.none
