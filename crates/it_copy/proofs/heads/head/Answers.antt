use Rattle.std.proofs.Common.{◌≡◌, ℕ, ◌≤◌, List, [], drop, length, map, sym, ap, ap₂, ◌∙◌, subst, arith}
use Rattle.std.proofs.lemmas.List.{length-map}
use Rattle.it_forms.specs.Letters.{Letter}
use Rattle.it_syntax.specs.declared.rest.Stop.{Stop}
use Rattle.it_question.specs.declared.cursor.Line.{Line}
use Rattle.it_question.specs.Cursors.{line_view, letters_left}
use Rattle.it_question.specs.Lines.{letters_of_lines}
use Rattle.it_question.specs.Stops.{IsLeft, IfFault, IsStopAt}
use Rattle.it_question.specs.WholeFiles.{place_of}
use Rattle.it_question.proofs.WholeFileLemmas.{few_letters, some_left}
use Rattle.it_copy.specs.declared.types.CopyLine.{CopyLine}
use Rattle.it_copy.specs.CopyLines.{copy_view}
use Rattle.it_question.specs.QuestionLimits.{usual}
use Rattle.it_copy.specs.CopyForms.{more_copies, copy_file}
use Rattle.it_copy.specs.Heads.{lines_before}
use Rattle.it_copy.specs.HeadSteps.{StopsInHead}
use Rattle.it_copy.proofs.CopyOutlines.{copy_file_has}
use Rattle.it_copy.proofs.CopyFileLemmas.{copy_file_ends}
use Rattle.it_copy.proofs.HeadLemmas.{few_lines_before, head_read, head_fault}
use Rattle.it_copy.proofs.StartLemmas.{items_are_read, same_lines}
use Rattle.it_copy.proofs.heads.head.Goals as goal

-- the lines before those after the copies
skipped_is : (items lines after : List Line) (copies : List CopyLine) (n skipped : ℕ) → lines ≡ items → n ≡ length copies
    → map line_view after ≡ drop n (map line_view lines) → skipped ≡ lines_before (map line_view after)
    → skipped ≡ lines_before (drop (length (map copy_view copies)) (map line_view items))
skipped_is items lines after copies n skipped e count is counted =
    counted ∙ ap lines_before (is ∙ ap₂ (λ (k : ℕ) (ls : List Line). drop k (map line_view ls)) (count ∙ sym (length-map copies copy_view)) e)

-- reading began at the first of the lines
stops_begun : (items lines : List Line) (start : List Letter) (stop : Stop) (rest : List Letter)
    → start ≡ letters_of_lines (map line_view lines) → lines ≡ items → StopsInHead stop rest start
    → StopsInHead stop rest (letters_of_lines (map line_view items))
stops_begun items lines start stop rest h e s = subst (StopsInHead stop rest) (h ∙ ap (λ (ls : List Line). letters_of_lines (map line_view ls)) e) s

pub returns-in-Ok-clause-read : goal.returns-in-Ok-clause-read
returns-in-Ok-clause-read c =
    head_read c.args.bytes.now (map line_view c.in_ok-lines.lines.items) (map copy_view c.in-Ok.copies.items)
    (letters_left c.copies_of_head.new.cursor) c.start_after.result c.lines_before-skipped.result c.in_ok-lines.ensures
    (items_are_read (more_copies []) _ _ _ _ c.at-cursor.ensures c.as_slice.ensures.value c.in-Ok.ensures.read) c.in-Ok.ensures.begins
    (skipped_is _ _ _ c.in-Ok.copies.items _ _ c.as_slice-in-Ok.ensures.value
    (omega (arith, c.len.ensures, c.in-Ok.copies.ok)) c.lines_after.ensures c.lines_before-skipped.ensures) c.start_after.ensures.within
    c.start_after.ensures.after

pub returns-in-Ok-clause-within : goal.returns-in-Ok-clause-within
returns-in-Ok-clause-within c =
    subst (λ (n : ℕ). n ≤ length c.args.bytes.now) (sym
    (skipped_is _ _ _ c.in-Ok.copies.items _ _ c.as_slice-in-Ok.ensures.value
    (omega (arith, c.len.ensures, c.in-Ok.copies.ok)) c.lines_after.ensures c.lines_before-skipped.ensures))
    (few_lines_before c.args.bytes.now (map line_view c.in_ok-lines.lines.items) (length (map copy_view c.in-Ok.copies.items)) c.in_ok-lines.ensures)

pub stop_fault-requires-clause-few : goal.stop_fault-requires-clause-few
stop_fault-requires-clause-few c = same_lines (λ ls. length (letters_of_lines ls) ≤ 4294967296) c.in_ok-lines.lines.items
    c.as_slice-in-Err.result.now c.as_slice-in-Err.ensures.value
    (few_letters c.args.bytes.now (map line_view c.in_ok-lines.lines.items) c.in_ok-lines.ensures c.requires)

pub stop_fault-requires-clause-there : goal.stop_fault-requires-clause-there
stop_fault-requires-clause-there c = same_lines (λ ls. IfFault c.in-Err.stop (IsLeft ls (letters_left c.copies_of_head.new.cursor)))
    c.in_ok-lines.lines.items c.as_slice-in-Err.result.now c.as_slice-in-Err.ensures.value
    (some_left (copy_file usual) _ (copy_file_has usual) (copy_file_ends usual) c.args.bytes.now (map line_view c.in_ok-lines.lines.items) c.in-Err.stop
    (letters_left c.copies_of_head.new.cursor) c.in_ok-lines.ensures
    (stops_begun c.in_ok-lines.lines.items _ _ c.in-Err.stop (letters_left c.copies_of_head.new.cursor) c.at-cursor.ensures
    c.as_slice.ensures.value c.in-Err.ensures.stops).stops)

pub returns-clause-fault : goal.returns-clause-fault
returns-clause-fault c =
    head_fault c.args.bytes.now (map line_view c.in_ok-lines.lines.items) c.in-Err.stop
    (letters_left c.copies_of_head.new.cursor) c.stop_fault.result c.in_ok-lines.ensures
    (stops_begun c.in_ok-lines.lines.items _ _ c.in-Err.stop (letters_left c.copies_of_head.new.cursor) c.at-cursor.ensures
    c.as_slice.ensures.value c.in-Err.ensures.stops)
    (subst (λ (ls : List Line). IsStopAt (place_of (map line_view ls) (letters_left c.copies_of_head.new.cursor)) c.in-Err.stop
    c.stop_fault.result) c.as_slice-in-Err.ensures.value c.stop_fault.ensures)
