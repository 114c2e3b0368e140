use Rattle.std.proofs.Common.{◌≡◌, ℕ, ◌≤◌, List, drop, length, map, sym, ap, ◌∙◌, subst, arith}
use Rattle.std.proofs.lemmas.List.{drop-map, length-map}
use Rattle.std.proofs.lemmas.List.Elements.{All-map}
use Rattle.it_question.specs.declared.bodies.Body.{Body}
use Rattle.it_question.specs.declared.cursor.Line.{Line}
use Rattle.it_question.specs.Questions.{QuestionView}
use Rattle.it_question.specs.Bodies.{body_view}
use Rattle.it_question.specs.Cursors.{line_view, letters_left}
use Rattle.it_question.specs.Limits.{IsQuestion}
use Rattle.it_question.specs.Lines.{LineView, letters_of_lines}
use Rattle.it_question.specs.Stops.{IsLeft, IfFault, IsStopAt}
use Rattle.it_question.specs.Texts.{with_texts}
use Rattle.it_question.specs.WholeFiles.{place_of}
use Rattle.it_question.proofs.WholeFileLemmas.{few_letters, some_left, first_form_fault}
use Rattle.it_copy.specs.declared.types.CopyLine.{CopyLine}
use Rattle.it_copy.specs.CopyLines.{copy_view}
use Rattle.it_copy.specs.CopyForms.{copy_file}
use Rattle.it_copy.proofs.CopyOutlines.{copy_file_has}
use Rattle.it_copy.proofs.CopyFileLemmas.{copy_file_ends, copy_file_read, questions_keep_limits}
use Rattle.it_copy.proofs.StartLemmas.{items_are_read, begun_stop, same_lines}
use Rattle.it_copy.proofs.files.copy_file.Goals as goal

-- the questions after the copies have the texts of the lines after theirs
after_copies : (lines after : List Line) (copies : List CopyLine) (bodies : List Body) (questions : List QuestionView) (n : ℕ)
    → n ≡ length copies → after ≡ drop n lines
    → questions ≡ with_texts (map line_view after) (map body_view bodies)
    → questions ≡ with_texts (drop (length (map copy_view copies)) (map line_view lines)) (map body_view bodies)
after_copies lines after copies bodies questions n count is made =
    made ∙ ap (λ (ls : List LineView). with_texts ls (map body_view bodies))
    (ap (map line_view) is ∙ sym (drop-map line_view n lines) ∙ ap (λ (k : ℕ). drop k (map line_view lines))
    (count ∙ sym (length-map copies copy_view)))

pub with_texts-requires : goal.with_texts-requires
with_texts-requires c = c.in-Ok.ensures.limits

pub returns-in_ok-questions-in-Ok-clause-read : goal.returns-in_ok-questions-in-Ok-clause-read
returns-in_ok-questions-in-Ok-clause-read c =
    copy_file_read c.args.limits c.args.bytes.now (map line_view c.in_ok-lines.lines.items) (map copy_view c.in-Ok.read.copies.items)
    (map body_view c.in-Ok.read.bodies.items) (letters_left c.whole.new.cursor) _ c.in_ok-lines.ensures
    (items_are_read (copy_file c.args.limits) _ _ _ _ c.at-cursor.ensures c.as_slice.ensures.value c.in-Ok.ensures.gives)
    (after_copies _ _ c.in-Ok.read.copies.items c.in-Ok.read.bodies.items _ _
    (omega (arith, c.len.ensures, c.in-Ok.read.copies.ok)) c.in_ok-after-in-Ok.ensures c.in_ok-questions-in-Ok.ensures)

pub returns-in_ok-questions-in-Ok-clause-limits : goal.returns-in_ok-questions-in-Ok-clause-limits
returns-in_ok-questions-in-Ok-clause-limits c = questions_keep_limits c.in_ok-questions-in-Ok.questions.items _
    (map body_view c.in-Ok.read.bodies.items) (All-map IsQuestion body_view c.in-Ok.read.bodies.items c.in-Ok.ensures.limits)
    c.in_ok-questions-in-Ok.ensures

pub stop_fault-requires-clause-few : goal.stop_fault-requires-clause-few
stop_fault-requires-clause-few c = same_lines (λ ls. length (letters_of_lines ls) ≤ 4294967296) c.in_ok-lines.lines.items
    c.as_slice-in-Err.result.now c.as_slice-in-Err.ensures.value
    (few_letters c.args.bytes.now (map line_view c.in_ok-lines.lines.items) c.in_ok-lines.ensures c.requires)

pub stop_fault-requires-clause-there : goal.stop_fault-requires-clause-there
stop_fault-requires-clause-there c = same_lines (λ ls. IfFault c.in-Err.stop (IsLeft ls (letters_left c.whole.new.cursor)))
    c.in_ok-lines.lines.items c.as_slice-in-Err.result.now c.as_slice-in-Err.ensures.value
    (some_left (copy_file c.args.limits) _ (copy_file_has c.args.limits) (copy_file_ends c.args.limits) c.args.bytes.now
    (map line_view c.in_ok-lines.lines.items) c.in-Err.stop
    (letters_left c.whole.new.cursor) c.in_ok-lines.ensures
    (begun_stop (copy_file c.args.limits) c.in_ok-lines.lines.items _ _ c.in-Err.stop (letters_left c.whole.new.cursor) c.at-cursor.ensures
    c.as_slice.ensures.value c.in-Err.ensures.gives))

pub returns-in-Err-clause-fault : goal.returns-in-Err-clause-fault
returns-in-Err-clause-fault c =
    first_form_fault (copy_file c.args.limits) _ (copy_file_has c.args.limits) (copy_file_ends c.args.limits) c.args.bytes.now
    (map line_view c.in_ok-lines.lines.items) c.in-Err.stop
    (letters_left c.whole.new.cursor) c.stop_fault.result c.in_ok-lines.ensures
    (begun_stop (copy_file c.args.limits) c.in_ok-lines.lines.items _ _ c.in-Err.stop (letters_left c.whole.new.cursor) c.at-cursor.ensures
    c.as_slice.ensures.value c.in-Err.ensures.gives)
    (subst (λ (ls : List Line). IsStopAt (place_of (map line_view ls) (letters_left c.whole.new.cursor)) c.in-Err.stop c.stop_fault.result)
    c.as_slice-in-Err.ensures.value c.stop_fault.ensures)
