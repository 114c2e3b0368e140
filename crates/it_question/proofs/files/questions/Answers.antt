use Rattle.std.proofs.Common.{◌≡◌, refl, ◌≤◌, List, length, map, sym, ap, ◌∙◌, subst}
use Rattle.it_syntax.specs.declared.rest.Stop.{Stop}
use Rattle.it_syntax.specs.Gives.{StopsAs}
use Rattle.it_forms.specs.Letters.{Letter}
use Rattle.it_forms.specs.FormReading as forms
use Rattle.it_forms.specs.Reads.{Reads}
use Rattle.it_question.specs.Bodies.{body_view}
use Rattle.it_question.specs.Cursors.{line_view, letters_left}
use Rattle.it_question.specs.WholeFiles.{place_of}
use Rattle.it_question.specs.Stops.{IsLeft, IfFault, IsStopAt}
use Rattle.it_question.specs.Lines.{LineView, letters_of_lines}
use Rattle.it_question.specs.declared.cursor.Line.{Line}
use Rattle.it_question.specs.declared.sizes.FileLimits.{FileLimits}
use Rattle.it_question.specs.Questions.{BodyView}
use Rattle.it_question.specs.QuestionForms.{file}
use Rattle.it_question.proofs.FileReadings.{file_read, bodies_limited, questions_limited}
use Rattle.it_question.proofs.FileLemmas.{file_ends}
use Rattle.it_question.proofs.QuestionOutlines.{file_has}
use Rattle.it_question.proofs.WholeFileLemmas.{few_letters, some_left, first_form_fault}
use Rattle.it_question.proofs.files.questions.Goals as goal

-- reading began at the first of the lines
items_are_read : (limits : FileLimits) (items lines : List Line) (start : List Letter) (read : Reads (List BodyView))
    → start ≡ letters_of_lines (map line_view lines) → lines ≡ items → forms.read (file limits) start ≡ read
    → forms.read (file limits) (letters_of_lines (map line_view items)) ≡ read
items_are_read limits items lines start read h e r = sym (ap (forms.read (file limits)) (h ∙ ap (λ (ls : List Line). letters_of_lines (map line_view ls)) e))
    ∙ r

begun_stop : (limits : FileLimits) (items lines : List Line) (start : List Letter) (stop : Stop) (rest : List Letter)
    → start ≡ letters_of_lines (map line_view lines) → lines ≡ items → StopsAs stop rest (forms.read (file limits) start)
    → StopsAs stop rest (forms.read (file limits) (letters_of_lines (map line_view items)))
begun_stop limits items lines start stop rest h e s = subst (StopsAs stop rest)
    (sym (items_are_read limits items lines start (forms.read (file limits) start) h e refl)) s

same_lines : (P : List LineView → Type 0) (items lines : List Line) → lines ≡ items → P (map line_view items) → P (map line_view lines)
same_lines P items lines e h = subst (λ (ls : List Line). P (map line_view ls)) (sym e) h

pub with_texts-requires : goal.with_texts-requires
with_texts-requires c = bodies_limited c.args.limits c.in-Ok.bodies.items (map line_view c.in_ok-lines.lines.items)
    (letters_left c.bodies.new.cursor)
    (items_are_read c.args.limits _ _ _ _ c.at-cursor.ensures c.as_slice.ensures.value c.in-Ok.ensures)

pub returns-in_ok-questions-in-Ok-clause-read : goal.returns-in_ok-questions-in-Ok-clause-read
returns-in_ok-questions-in-Ok-clause-read c =
    file_read c.args.limits c.args.bytes.now (map line_view c.in_ok-lines.lines.items) (map body_view c.in-Ok.bodies.items)
    (letters_left c.bodies.new.cursor) _ c.in_ok-lines.ensures (items_are_read c.args.limits _ _ _ _ c.at-cursor.ensures c.as_slice.ensures.value
    c.in-Ok.ensures)
    c.in_ok-questions-in-Ok.ensures

pub returns-in_ok-questions-in-Ok-clause-limits : goal.returns-in_ok-questions-in-Ok-clause-limits
returns-in_ok-questions-in-Ok-clause-limits c =
    questions_limited c.args.limits c.in_ok-questions-in-Ok.questions.items (map line_view c.in_ok-lines.lines.items) (map body_view c.in-Ok.bodies.items)
    (letters_left c.bodies.new.cursor) (items_are_read c.args.limits _ _ _ _ c.at-cursor.ensures c.as_slice.ensures.value c.in-Ok.ensures)
    c.in_ok-questions-in-Ok.ensures

pub stop_fault-requires-clause-few : goal.stop_fault-requires-clause-few
stop_fault-requires-clause-few c = same_lines (λ ls. length (letters_of_lines ls) ≤ 4294967296) c.in_ok-lines.lines.items
    c.as_slice-in-Err.result.now c.as_slice-in-Err.ensures.value
    (few_letters c.args.bytes.now (map line_view c.in_ok-lines.lines.items) c.in_ok-lines.ensures c.requires)

pub stop_fault-requires-clause-there : goal.stop_fault-requires-clause-there
stop_fault-requires-clause-there c = same_lines (λ ls. IfFault c.in-Err.stop (IsLeft ls (letters_left c.bodies.new.cursor)))
    c.in_ok-lines.lines.items c.as_slice-in-Err.result.now c.as_slice-in-Err.ensures.value
    (some_left (file c.args.limits) _ (file_has c.args.limits) (file_ends c.args.limits) c.args.bytes.now
    (map line_view c.in_ok-lines.lines.items) c.in-Err.stop
    (letters_left c.bodies.new.cursor) c.in_ok-lines.ensures (begun_stop c.args.limits c.in_ok-lines.lines.items _ _ c.in-Err.stop
    (letters_left c.bodies.new.cursor) c.at-cursor.ensures c.as_slice.ensures.value c.in-Err.ensures))

pub returns-in-Err-clause-fault : goal.returns-in-Err-clause-fault
returns-in-Err-clause-fault c =
    first_form_fault (file c.args.limits) _ (file_has c.args.limits) (file_ends c.args.limits) c.args.bytes.now
    (map line_view c.in_ok-lines.lines.items) c.in-Err.stop
    (letters_left c.bodies.new.cursor) c.stop_fault.result c.in_ok-lines.ensures
    (begun_stop c.args.limits c.in_ok-lines.lines.items _ _ c.in-Err.stop (letters_left c.bodies.new.cursor) c.at-cursor.ensures
    c.as_slice.ensures.value c.in-Err.ensures)
    (subst (λ (ls : List Line). IsStopAt (place_of (map line_view ls) (letters_left c.bodies.new.cursor)) c.in-Err.stop c.stop_fault.result)
    c.as_slice-in-Err.ensures.value c.stop_fault.ensures)
