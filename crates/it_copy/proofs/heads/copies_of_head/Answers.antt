use Rattle.std.proofs.Common.{map, sym, ◌∙◌}
use Rattle.it_question.specs.Cursors.{letters_left}
use Rattle.it_copy.specs.CopyLines.{copy_view}
use Rattle.it_copy.proofs.HeadLemmas.{stops_at_copies, stops_after_copies}
use Rattle.it_copy.proofs.heads.copies_of_head.Goals as goal

pub returns-else-begins_questions-clause-stops : goal.returns-else-begins_questions-clause-stops
returns-else-begins_questions-clause-stops c =
    rw c.fault.ensures (stops_after_copies (map copy_view c.in-Ok.copies.items) (letters_left c.copies.new.cursor)
    (letters_left c.args.cursor.now) c.in-Ok.ensures.gives (sym c.begins_questions.ensures ∙ c.if-begins_questions.false))

pub returns-in-Err-clause-stops : goal.returns-in-Err-clause-stops
returns-in-Err-clause-stops c = stops_at_copies c.in-Err.stop (letters_left c.copies.new.cursor) (letters_left c.args.cursor.now) c.in-Err.ensures.gives
