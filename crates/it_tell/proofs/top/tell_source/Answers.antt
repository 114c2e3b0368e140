use Rattle.std.proofs.Common.{[], refl}
use Rattle.it_outside.proofs.Moved.{Gains-nil}
use Rattle.it_cli.specs.Ends.{call_of}
use Rattle.it_tell.proofs.EndLemmas.{end_of_failed_read, end_of_long_report, end_of_memory, end_of_report}
use Rattle.it_tell.proofs.top.tell_source.Goals as goal

pub returns-in-Ok : goal.returns-in-Ok
returns-in-Ok g c words asked = end_of_report (call_of g.S.Source.left g.S.Source.faults g.K.Sink.taken g.K.Sink.faults words []
    c.args.source.now c.read_all.new.source c.args.sink.now c.tell_report.new.sink) c.args.options asked c.in-Ok.bytes.items
    c.tell_report.result (c.in-Ok.ensures.stayed (λ e. cc)) (c.in-Ok.ensures.whole, c.in-Ok.ensures.fits)
    (rw (← c.as_slice.ensures.value) c.tell_report.ensures)

pub returns-in-Err-ReadFault : goal.returns-in-Err-ReadFault
returns-in-Err-ReadFault g c words asked = end_of_failed_read (call_of g.S.Source.left g.S.Source.faults g.K.Sink.taken g.K.Sink.faults
    words [] c.args.source.now c.read_all.new.source c.args.sink.now c.args.sink.now) c.args.options asked
    (rw c.in-Err-ReadFault.field-0-is at c.in-Err-ReadFault.ensures.read refl, refl) (Gains-nil _)

pub returns-in-Err-TooLong : goal.returns-in-Err-TooLong
returns-in-Err-TooLong g c words asked = end_of_long_report (call_of g.S.Source.left g.S.Source.faults g.K.Sink.taken g.K.Sink.faults words
    [] c.args.source.now c.read_all.new.source c.args.sink.now c.write_last.new.sink) c.args.options asked c.write_last.result
    (rw c.in-Err-TooLong.field-0-is at c.in-Err-TooLong.ensures.stayed (λ e. cc))
    (rw c.in-Err-TooLong.field-0-is at c.in-Err-TooLong.ensures.long refl) c.write_last.ensures

pub returns-in-Err-Memory : goal.returns-in-Err-Memory
returns-in-Err-Memory g c words asked = end_of_memory (call_of g.S.Source.left g.S.Source.faults g.K.Sink.taken g.K.Sink.faults words []
    c.args.source.now c.read_all.new.source c.args.sink.now c.args.sink.now) c.args.options asked
    (rw c.in-Err-Memory.field-0-is at c.in-Err-Memory.ensures.stayed (λ e. cc), refl) (Gains-nil _)
