use Rattle.std.proofs.Common.{rules, sym, ap, subst, ◌∙◌, FitsSigned, to_z-of_z}
use Rattle.it_rational.specs.Rational.{integer}
use Rattle.it_tableau.specs.Rows.{IsWholeNumber}
use Rattle.it_tableau.proofs.WholeNumbers.{whole_number}
use Rattle.it_tableau.proofs.start.number.Goals as goal
use mir.Syntax.{w128}

pub returns-clause-whole_number : goal.returns-clause-whole_number
returns-clause-whole_number c =
    let fits : FitsSigned w128 c.coefficient.result = search rules in
    subst IsWholeNumber (sym (c.whole.ensures ∙ ap integer (to_z-of_z fits))) (whole_number c.coefficient.result c.coefficient.ensures.within)
