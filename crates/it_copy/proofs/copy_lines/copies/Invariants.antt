use Rattle.std.proofs.Common.{◌≡◌, ◌≤◌, [], length, map}
use Rattle.it_forms.specs.FormReading.{read}
use Rattle.it_question.specs.Cursors.{letters_left}
use Rattle.it_copy.specs.CopyForms.{more_copies}
use Rattle.it_copy.specs.CopyLines.{AreNamed, copy_view, most_copies}
use Rattle.it_copy.proofs.copy_lines.copies.Given as goal

-- reading on from here gives what the whole reading gives
abbrev pub invariant-loop-after : goal.invariant-loop-after
invariant-loop-after l = (read (more_copies (map copy_view l.found.items)) (letters_left l.cursor)
    ≡ read (more_copies []) (letters_left l.initial.cursor)) × AreNamed l.found.items × (length l.found.items ≤ most_copies)

abbrev pub decreases-loop-after : goal.decreases-loop-after
decreases-loop-after l = length (letters_left l.cursor)
