use Rattle.std.proofs.Common.{◌≡◌, ◌++◌, drop, map}
use Rattle.it_copy.specs.CopyLines.{copy_view}
use Rattle.it_cli.specs.Copies.{head_text}
use Rattle.it_cli.proofs.reporting.head_text.Given as goal

abbrev pub invariant-loop-copy : goal.invariant-loop-copy
invariant-loop-copy l = l.text.items ++ head_text (map copy_view (drop l.copy-index l.copies)) ≡ head_text (map copy_view l.copies)
