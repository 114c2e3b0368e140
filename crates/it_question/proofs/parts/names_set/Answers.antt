use Rattle.it_syntax.specs.Gives as gives
use Rattle.it_syntax.specs.LineForms.{names}
use Rattle.it_syntax.specs.Scopes.{env_of}
use Rattle.it_syntax.proofs.LineOutlines.{some_names, names_has}
use Rattle.it_question.specs.Cursors.{letters_left}
use Rattle.it_question.proofs.CursorLemmas.{later_letters, left_none}
use Rattle.it_question.proofs.PartLemmas.{line_has, part_ok, part_stops, no_list}
use Rattle.it_question.proofs.parts.names_set.Goals as goal

pub returns-in-Ok : goal.returns-in-Ok
unfolding letters_left
returns-in-Ok c =
    let env = env_of c.args.names.now in
    rw c.in-Some.is (part_ok (names env) some_names (names_has env) (gives.letters_left c.in-Some.rest) (gives.letters_left c.list.new.rest)
    (later_letters c.args.cursor.now) _ c.in-Ok.ensures (line_has _ _ _))

pub returns-in-Err : goal.returns-in-Err
unfolding letters_left
returns-in-Err c =
    let env = env_of c.args.names.now in
    rw c.in-Some.is (part_stops (names env) some_names (names_has env) c.in-Err.stop (gives.letters_left c.in-Some.rest)
    (gives.letters_left c.list.new.rest) (later_letters c.args.cursor.now) c.in-Err.ensures (line_has _ _ _))

pub returns-in-None : goal.returns-in-None
returns-in-None c = rw (left_none c.args.cursor.now c.in-None.is) (no_list (env_of c.args.names.now))
