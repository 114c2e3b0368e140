use Rattle.std.proofs.Common.{false, refl}
use Rattle.it_syntax.specs.LineForms.{given}
use Rattle.it_syntax.specs.GivenLines.{given_line}
use Rattle.it_syntax.specs.Scopes.{scope_of}
use Rattle.it_syntax.specs.Gives as gives
use Rattle.it_syntax.proofs.LineOutlines.{a_given, given_has}
use Rattle.it_forms.proofs.Outlines.{a_line, has_to_end}
use Rattle.it_question.specs.Cursors.{letters_left}
use Rattle.it_question.proofs.CursorLemmas.{later_letters, left_none, left_some}
use Rattle.it_question.proofs.PartLemmas.{line_has, whole_ok, part_stops, no_given}
use Rattle.it_question.proofs.parts.given.Goals as goal

pub returns-in-Ok : goal.returns-in-Ok
returns-in-Ok c =
    let s = scope_of c.args.names.now false in
    rw (left_some c.args.cursor.now c.in-Some.rest c.in-Some.is, c.at.ensures)
    (whole_ok (given s) a_given (given_has s) (gives.letters_left c.in-Some.rest) (later_letters c.args.cursor.now) _ c.in-Ok.ensures)

pub returns-in-Err : goal.returns-in-Err
unfolding letters_left
returns-in-Err c =
    let s = scope_of c.args.names.now false in
    rw c.in-Some.is (part_stops (given_line c.args.names.now) (a_line a_given)
    (has_to_end (given s) a_given (given_has s) refl) c.in-Err.stop (gives.letters_left c.in-Some.rest)
    (gives.letters_left c.given_to_end.new.rest) (later_letters c.args.cursor.now) c.in-Err.ensures (line_has _ _ _))

pub returns-in-None : goal.returns-in-None
returns-in-None c = rw (left_none c.args.cursor.now c.in-None.is) (no_given c.args.names.now)
