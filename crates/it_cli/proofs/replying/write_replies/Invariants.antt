use Rattle.std.proofs.Common.{◌≡◌, length}
use Rattle.it_cli.proofs.EachLineLemmas.{IsUnderWay}
use Rattle.it_cli.proofs.replying.write_replies.Given as goal

abbrev pub invariant-loop-rest : goal.invariant-loop-rest
invariant-loop-rest g l = IsUnderWay (g.R.Replies.mode l.fn.replies) (g.K.Sink.taken l.initial.sink) (g.K.Sink.taken l.sink) l.fn.bytes l.rest l.count l.some_invalid
    × (g.K.Sink.faults l.sink ≡ g.K.Sink.faults l.initial.sink)

abbrev pub decreases-loop-rest : goal.decreases-loop-rest
decreases-loop-rest g l = length l.rest
