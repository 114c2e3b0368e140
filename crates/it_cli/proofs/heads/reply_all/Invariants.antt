use Rattle.std.proofs.Common.{◌≡◌, List, map}
use Rattle.it_copy.specs.CopyLines.{copy_view}
use Rattle.it_cli.specs.Copies.{with_copies}
use Rattle.it_cli.specs.InnerEnds.{request_mode}
use Rattle.it_cli.proofs.ReplyLemmas.{Replied}
use Rattle.it_cli.proofs.heads.reply_all.Given as goal

abbrev pub invariant-loop-i : goal.invariant-loop-i
invariant-loop-i g l = ((replies : List (request_mode l.wanted l.request).Reply)
    × Replied (request_mode l.wanted l.request) (g.K.Sink.taken l.initial.sink) (g.K.Sink.taken l.sink)
    (map (with_copies (map copy_view l.copies)) l.questions) l.i replies)
    × (g.K.Sink.faults l.sink ≡ g.K.Sink.faults l.initial.sink)
