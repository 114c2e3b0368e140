use Rattle.std.proofs.Common.{true, [], refl}
use Rattle.it_syntax.specs.LineForms.{relation}
use Rattle.it_syntax.specs.RelationLines.{relation_line}
use Rattle.it_syntax.specs.Scopes.{scope_of}
use Rattle.it_syntax.specs.Gives as gives
use Rattle.it_syntax.proofs.LineOutlines.{a_relation, relation_has}
use Rattle.it_forms.proofs.Outlines.{a_line, has_to_end}
use Rattle.it_question.specs.Cursors.{letters_left}
use Rattle.it_question.proofs.CursorLemmas.{later_letters, left_none, left_some}
use Rattle.it_question.proofs.PartLemmas.{line_has, whole_ok, part_stops, no_relation}
use Rattle.it_question.proofs.parts.relation.Goals as goal

pub returns-in-Ok : goal.returns-in-Ok
returns-in-Ok c =
    let s = scope_of c.args.names.now true in
    rw (left_some c.args.cursor.now c.in-Some.rest c.in-Some.is, c.at.ensures)
    (whole_ok (relation s) (a_relation []) (relation_has s) (gives.letters_left c.in-Some.rest)
    (later_letters c.args.cursor.now) _ c.in-Ok.ensures)

pub returns-in-Err : goal.returns-in-Err
unfolding letters_left
returns-in-Err c =
    let s = scope_of c.args.names.now true in
    rw c.in-Some.is (part_stops (relation_line c.args.names.now true) (a_line (a_relation []))
    (has_to_end (relation s) (a_relation []) (relation_has s) refl) c.in-Err.stop (gives.letters_left c.in-Some.rest)
    (gives.letters_left c.relation_to_end.new.rest) (later_letters c.args.cursor.now) c.in-Err.ensures (line_has _ _ _))

pub returns-in-None : goal.returns-in-None
returns-in-None c = rw (left_none c.args.cursor.now c.in-None.is) (no_relation c.args.names.now true)
