use Rattle.std.proofs.Common.{◌++◌, ◌∙◌, List, [], ap, map, subst, sym, ℕ}
use Rattle.it_space.specs.Answers.{certificate_view}
use Rattle.it_space.specs.Rows.{value}
use Rattle.it_question.specs.ProblemLines.{problem_names}
use Rattle.it_tell.specs.OwnLines.{own_line_comment}
use Rattle.it_tell.specs.Steps.{AppendsOwnProofs, SaysOrNothing}
use Rattle.it_tell.specs.Tellings.{indented_line}
use Rattle.it_tell.proofs.OwnLineLemmas.{own_line_appended}
use Rattle.it_tell.proofs.containments.write_own_line.Goals as goal

pub returns : goal.returns
returns c =
    let q = c.args.asked.now.question.now.body in
    let options = c.args.asked.now.options in
    let parts = c.args.asked.now.parts.now in
    let rows = c.args.owed.now.rows.now in
    let ws = map certificate_view c.args.owed.now.proofs.now in
    let relation = c.as_slice-relation.result.now in
    let below = c.as_slice-below.result.now in
    let old = c.args.out.now.items in
    own_line_appended q options parts c.args.origin rows ws relation below c.in_ok-comment.comment.items old c.write_indented.new.out.items
    c.extend_from_slice.new.self.items
    (subst (λ (text : List ℕ). SaysOrNothing (problem_names q) (map value rows) text) (sym c.as_slice-relation.ensures.value) c.in_ok-relation.ensures)
    (subst (λ (text : List ℕ). AppendsOwnProofs q options rows ws [] text) (sym c.as_slice-below.ensures.value) c.in_ok-below.ensures)
    (c.in_ok-comment.ensures ∙ ap (λ b. own_line_comment q parts c.args.origin relation b) c.is_empty.ensures)
    (c.in_ok-write_indented.ensures ∙ ap (λ (text : List ℕ). old ++ indented_line text) c.as_slice.ensures.value)
    c.in_ok-extend_from_slice.ensures.items
