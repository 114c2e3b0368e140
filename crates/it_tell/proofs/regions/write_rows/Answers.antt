use Rattle.std.proofs.Common.{◌≡◌, ◌++◌, ◌∙◌, ℕ, List, arith, ap, get_or, length, subst, sym}
use Rattle.std.specs.Borrow.{Bor}
use Rattle.std.proofs.lemmas.List.{length-map}
use Rattle.it_space.specs.declared.answers.Mark.{Mark}
use Rattle.it_space.specs.declared.spaces.Space.{Space}
use Rattle.it_space.specs.Rows.{Terms}
use Rattle.it_syntax.specs.NamesViews.{NamesView}
use Rattle.it_question.specs.ProblemLines.{problem_names}
use Rattle.it_print.specs.Lines.{IsRowOver}
use Rattle.it_tell.specs.Steps.{AppendsEach}
use Rattle.it_tell.specs.Tellings.{IsMarkedRowText, indented_line, told_rows}
use Rattle.it_tell.proofs.DetailLemmas.{all_appended, appended_more, none_appended}
use Rattle.it_tell.proofs.OrderLemmas.{in_rows, row_read, rows_at, told_is_over}
use Rattle.it_tell.proofs.regions.write_rows.Goals as goal

pub marked_row-requires : goal.marked_row-requires
marked_row-requires c = record {
  over = let v = problem_names c.args.question.now.body in
      let row = c.row-item.result in
      subst (λ (r : Bor (Mark × Terms)). IsRowOver v r.now.1) (sym c.row-item.is)
      (told_is_over v c.args.options.style c.space-space.result.variables c.args.rows.now c.as_slice-in_order.result.now c.loop-row.row-index
      row c.requires.over (ap rows_at c.as_slice-in_order.ensures.value ∙ c.in_ok-told.ensures) (omega arith));
}

pub loop-row-init : goal.loop-row-init
loop-row-init c = none_appended indented_line (IsMarkedRowText c.args.question.now.body c.args.options.style)
    c.args.out.now.items (rows_at c.as_slice-in_order.result.now)

pub loop-row-preserved : goal.loop-row-preserved
loop-row-preserved c =
    let refs = c.as_slice-in_order.result.now in
    let i = c.loop-row.row-index in
    let row = c.row-item.result in
    let out = c.loop-row.out.items in
    appended_more indented_line (IsMarkedRowText c.args.question.now.body c.args.options.style) c.args.out.now.items out
    c.write_indented.new.out.items (rows_at refs) i row.now c.in_ok-text.text.items c.loop-row.invariant
    (in_rows refs i (omega arith)) (subst (λ (r : Bor (Mark × Terms)). get_or (rows_at refs) i r.now ≡ r.now) (sym c.row-item.is)
    (row_read refs i row (omega arith))) c.in_ok-text.ensures
    (c.in_ok-write_indented.ensures ∙ ap (λ (t : List ℕ). out ++ indented_line t) c.as_slice.ensures.value)

pub returns : goal.returns
returns c =
    let q = c.args.question.now.body in
    let refs = c.as_slice-in_order.result.now in
    let style = c.args.options.style in
    subst (λ (items : List (Mark × Terms)). AppendsEach indented_line (IsMarkedRowText q style) items c.args.out.now.items c.loop-row.out.items)
    (ap rows_at c.as_slice-in_order.ensures.value ∙ c.in_ok-told.ensures
    ∙ ap (λ (n : ℕ). told_rows style n c.args.rows.now) (ap (λ (s : Space). s.variables) c.space-space.ensures.counts
    ∙ ap (λ (v : NamesView). length v.variables) c.problem_names.ensures.value))
    (all_appended indented_line (IsMarkedRowText q style) c.args.out.now.items c.loop-row.out.items
    (rows_at refs) c.loop-row.row-index c.loop-row.invariant (simp length-map (omega arith)))
