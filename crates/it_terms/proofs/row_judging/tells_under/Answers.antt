use Rattle.std.proofs.Common.{map, subst}
use Rattle.std.proofs.lemmas.Bool.{OnTrue_at, OnTrue_from}
use Rattle.it_space.specs.declared.spaces.Space.{Space}
use Rattle.it_elemental.specs.Generators.{forms_of, of_constraint}
use Rattle.it_syntax.specs.Meaning.{relation_view}
use Rattle.it_terms.specs.Signs.{SaysSpreadOut, TellsRowBy}
use Rattle.it_terms.proofs.RowLemmas.{said_by_functions}
use Rattle.it_terms.proofs.row_judging.tells_under.Goals as goal

pub returns : goal.returns
returns c =
    let v = c.args.names.now in
    let g = forms_of (map of_constraint c.args.problem.now.constraints) in
    let lines = c.args.lines.now in
    let r = relation_view c.in-Some.relation in
    let functions = c.in-Some-2.functions in
    let row = c.args.row.now in
    OnTrue_from c.in_ok-says.says (TellsRowBy v g lines row c.args.text.now) (λ e.
    said_by_functions v c.args.problem.now.space g lines functions.list r row c.args.text.now c.requires.space
    (rw c.in-Some.is at c.in_ok-relation.ensures.is) (rw c.in-Some-2.is at c.in_ok-functions.ensures.said)
    (subst (λ (z : Space). SaysSpreadOut z.variables functions.list r row) (rw c.in-Some-2.is at c.in_ok-functions.ensures.space)
    (OnTrue_at e c.in_ok-says.ensures)))
