use Rattle.std.proofs.Common.{◌≡◌, refl, ◌≤◌, List, length, map, sym, ap, ◌∙◌, subst, arith}
use Rattle.it_forms.specs.FormReading as forms
use Rattle.it_forms.specs.Letters.{Letter}
use Rattle.it_forms.specs.Reads.{Reads}
use Rattle.it_syntax.specs.declared.rest.Stop.{Stop}
use Rattle.it_syntax.specs.Gives.{StopsAs}
use Rattle.it_question.specs.declared.cursor.Line.{Line}
use Rattle.it_question.specs.Cursors.{line_view, letters_left}
use Rattle.it_question.specs.WholeFiles.{place_of}
use Rattle.it_question.specs.Stops.{IsLeft, IfFault, IsStopAt}
use Rattle.it_question.specs.Lines.{LineView, letters_of_lines}
use Rattle.it_question.proofs.WholeFileLemmas.{read_says, few_letters, some_left, first_form_fault}
use Rattle.it_sharing.specs.Sharings.{SharingView}
use Rattle.it_question.specs.declared.sizes.FileLimits.{FileLimits}
use Rattle.it_sharing.specs.SharingForms.{sharing}
use Rattle.it_sharing.proofs.SharingLines.{sharing_ends}
use Rattle.it_sharing.proofs.SharingOutlines.{sharing_has}
use Rattle.it_sharing.proofs.SharingLimits.{sharing_limited}
use Rattle.it_sharing.proofs.reading.sharing.Goals as goal

-- reading began at the first of the lines
items_are_read : (limits : FileLimits) (items lines : List Line) (start : List Letter) (read : Reads SharingView)
    → start ≡ letters_of_lines (map line_view lines)
    → lines ≡ items → forms.read (sharing limits) start ≡ read → forms.read (sharing limits) (letters_of_lines (map line_view items)) ≡ read
items_are_read limits items lines start read h e r = sym (ap (forms.read (sharing limits)) (h ∙ ap (λ (ls : List Line). letters_of_lines (map line_view ls)) e))
    ∙ r

begun_stop : (limits : FileLimits) (items lines : List Line) (start : List Letter) (stop : Stop) (rest : List Letter)
    → start ≡ letters_of_lines (map line_view lines) → lines ≡ items → StopsAs stop rest (forms.read (sharing limits) start)
    → StopsAs stop rest (forms.read (sharing limits) (letters_of_lines (map line_view items)))
begun_stop limits items lines start stop rest h e s = subst (StopsAs stop rest)
    (sym (items_are_read limits items lines start (forms.read (sharing limits) start) h e refl)) s

same_lines : (P : List LineView → Type 0) (items lines : List Line) → lines ≡ items → P (map line_view items) → P (map line_view lines)
same_lines P items lines e h = subst (λ (ls : List Line). P (map line_view ls)) (sym e) h

pub returns-in-Ok-clause-read : goal.returns-in-Ok-clause-read
returns-in-Ok-clause-read c =
    read_says (sharing c.args.limits) _ (sharing_has c.args.limits) (sharing_ends c.args.limits) (λ lines x. x) c.args.bytes.now
    (map line_view c.in_ok-lines.lines.items) _
    (letters_left c.whole.new.cursor) c.in_ok-lines.ensures (items_are_read c.args.limits _ _ _ _ c.at-cursor.ensures c.as_slice.ensures.value
    c.in-Ok.ensures)

pub returns-in-Ok-clause-bound : goal.returns-in-Ok-clause-bound
returns-in-Ok-clause-bound c = (sharing_limited c.args.limits _ (letters_left c.whole.new.cursor) _ c.in-Ok.ensures).1

pub stop_fault-requires-clause-few : goal.stop_fault-requires-clause-few
stop_fault-requires-clause-few c = same_lines (λ ls. length (letters_of_lines ls) ≤ 4294967296) c.in_ok-lines.lines.items
    c.as_slice-in-Err.result.now c.as_slice-in-Err.ensures.value
    (few_letters c.args.bytes.now (map line_view c.in_ok-lines.lines.items) c.in_ok-lines.ensures (omega (arith, c.requires)))

pub stop_fault-requires-clause-there : goal.stop_fault-requires-clause-there
stop_fault-requires-clause-there c = same_lines (λ ls. IfFault c.in-Err.stop (IsLeft ls (letters_left c.whole.new.cursor)))
    c.in_ok-lines.lines.items c.as_slice-in-Err.result.now c.as_slice-in-Err.ensures.value
    (some_left (sharing c.args.limits) _ (sharing_has c.args.limits) (sharing_ends c.args.limits) c.args.bytes.now
    (map line_view c.in_ok-lines.lines.items) c.in-Err.stop
    (letters_left c.whole.new.cursor) c.in_ok-lines.ensures
    (begun_stop c.args.limits c.in_ok-lines.lines.items _ _ c.in-Err.stop
    (letters_left c.whole.new.cursor) c.at-cursor.ensures c.as_slice.ensures.value c.in-Err.ensures))

pub returns-clause-fault : goal.returns-clause-fault
returns-clause-fault c =
    first_form_fault (sharing c.args.limits) _ (sharing_has c.args.limits) (sharing_ends c.args.limits) c.args.bytes.now
    (map line_view c.in_ok-lines.lines.items) c.in-Err.stop
    (letters_left c.whole.new.cursor) c.stop_fault.result c.in_ok-lines.ensures
    (begun_stop c.args.limits c.in_ok-lines.lines.items _ _ c.in-Err.stop
    (letters_left c.whole.new.cursor) c.at-cursor.ensures c.as_slice.ensures.value c.in-Err.ensures)
    (subst (λ (ls : List Line). IsStopAt (place_of (map line_view ls) (letters_left c.whole.new.cursor)) c.in-Err.stop c.stop_fault.result)
    c.as_slice-in-Err.ensures.value c.stop_fault.ensures)
