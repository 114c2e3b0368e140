use Rattle.std.proofs.Common.{IfSome, List, map, subst}
use Rattle.it_problems.specs.declared.problems.Constraint.{Constraint}
use Rattle.it_space.specs.Rows.{value}
use Rattle.it_elemental.specs.Generators.{forms_of, of_constraint}
use Rattle.it_terms.specs.Proofs.{TellsProof}
use Rattle.it_terms.proofs.SameProofs.{told_by_lines}
use Rattle.it_terms.proofs.proving.told_form.Goals as goal

pub returns-in-Ok : goal.returns-in-Ok
returns-in-Ok c = told_by_lines (λ text. text.items) c.args.question.now.body c.problem_names-names.result.now
    (value c.args.proven.now.row.now) c.in_ok-posed.posed.space c.in_ok-posed.posed.constraints c.in-Ok.text
    c.problem_names-names.ensures.value c.in_ok-posed.ensures.poses.constraints.stated
    (subst (λ (cs : List Constraint). IfSome c.in-Ok.text (λ text. TellsProof c.problem_names-names.result.now (value c.args.proven.now.row.now)
    (forms_of (map of_constraint cs)) text.items)) c.constraints-constraints.ensures.value c.in-Ok.ensures)
