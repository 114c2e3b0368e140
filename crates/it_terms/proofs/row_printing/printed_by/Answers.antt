use Rattle.std.proofs.Common.{ℕ, List, map, subst}
use Rattle.std.proofs.lemmas.Bool.{OnTrue_at}
use Rattle.it_problems.specs.declared.problems.Constraint.{Constraint}
use Rattle.it_elemental.specs.Generators.{forms_of, of_constraint}
use Rattle.it_terms.specs.Signs.{AreGivenEquations, TellsRowBy}
use Rattle.it_terms.proofs.RowLemmas.{printed_from}
use Rattle.it_terms.proofs.row_printing.printed_by.Goals as goal

pub returns : goal.returns
returns c =
    let v = c.args.names.now in
    let row = c.args.row.now in
    let cs : List Constraint = c.args.problem.now.constraints in
    let g = forms_of (map of_constraint cs) in
    let needed : List ℕ = c.as_slice-needed.result.now in
    let lines : List ℕ = c.in_ok-lines.lines.items in
    printed_from v row cs lines c.args.text.items
    (subst (λ (ls : List ℕ). AreGivenEquations cs ls) c.as_slice-needed.ensures.value
    (subst (λ (xs : List Constraint). AreGivenEquations xs needed) c.constraints-constraints.ensures.value
    c.if-not-are_given_equations.ensures))
    (subst (λ (ls : List ℕ). TellsRowBy v g ls row c.args.text.items) c.as_slice-needed.ensures.value
    (subst (λ (t : List ℕ). TellsRowBy v g needed row t) c.as_slice-shown.ensures.value (OnTrue_at c.if-not-tells.false c.in_ok-tells.ensures)))
