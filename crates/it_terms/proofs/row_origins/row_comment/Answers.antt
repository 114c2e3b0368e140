use Rattle.std.proofs.Common.{◌≡◌, List, subst}
use Rattle.it_problems.specs.declared.problems.Constraint.{Constraint}
use Rattle.it_print.specs.Lines.{origins_of}
use Rattle.it_terms.specs.RowOrigins.{row_comment}
use Rattle.it_terms.proofs.OriginLemmas.{named_lines}
use Rattle.it_terms.proofs.row_origins.row_comment.Goals as goal

pub returns : goal.returns
returns c =
    let weights = c.args.weights.now in
    let lines = c.args.lines.now in
    let text = c.in_ok-comment.comment.items in
    named_lines c.args.question.now.body c.in_ok-posed.posed weights lines text c.in_ok-posed.ensures
    (subst (λ (cs : List Constraint). text ≡ row_comment (origins_of cs) weights lines) c.constraints.ensures.value c.in_ok-comment.ensures)
