use Rattle.std.proofs.Common.{◌≡◌, List, map}
use Rattle.it_cli.specs.Outputs.{outer_mode}
use Rattle.it_cli.proofs.ReplyLemmas.{Replied}
use Rattle.it_cli.proofs.bounding.reply_all.Given as goal

abbrev pub invariant-loop-i : goal.invariant-loop-i
invariant-loop-i g l = ((replies : List (outer_mode l.file l.report l.limits).Reply)
    × Replied (outer_mode l.file l.report l.limits) (g.K.Sink.taken l.initial.sink) (g.K.Sink.taken l.sink)
    l.questions l.i replies)
    × (g.K.Sink.faults l.sink ≡ g.K.Sink.faults l.initial.sink)
