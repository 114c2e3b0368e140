use Rattle.std.proofs.Common.{ℕ, Option, map, refl, sym, subst}
use Rattle.it_outside.proofs.Moved.{Gains-nil}
use Rattle.it_cli.specs.Ends.{IsTaken, call_of}
use Rattle.it_cli.proofs.EndLemmas.{end_of_bytes, end_of_long_input, end_of_memory, end_of_reading}
use Rattle.it_cli.proofs.top.read.Goals as goal

pub returns-in-Ok : goal.returns-in-Ok
returns-in-Ok g c words reading = end_of_bytes
    (call_of g.S.Source.left g.S.Source.faults g.K.Sink.taken g.K.Sink.faults words
    (map (λ b. (goal.Proposer-dyn g (b.vtable, b.value)).plan b.value) c.args.boxes.now.items) c.args.source.now c.read_all.new.source
    c.args.sink.now c.reply.new.sink)
    c.args.settings c.in-Ok.bytes.items c.reply.result reading (c.in-Ok.ensures.stayed (λ e. cc))
    (subst (λ (o : Option ℕ). IsTaken (call_of g.S.Source.left g.S.Source.faults g.K.Sink.taken g.K.Sink.faults words
    (map (λ b. (goal.Proposer-dyn g (b.vtable, b.value)).plan b.value) c.args.boxes.now.items) c.args.source.now c.read_all.new.source
    c.args.sink.now c.reply.new.sink) o c.in-Ok.bytes.items) (sym c.requires.limit) (c.in-Ok.ensures.whole, c.in-Ok.ensures.fits))
    (rw (← c.as_slice.ensures.value) c.reply.ensures)

pub returns-in-Err-ReadFault : goal.returns-in-Err-ReadFault
returns-in-Err-ReadFault g c words reading = end_of_reading _ c.args.settings c.args.most reading c.requires.limit
    (rw c.in-Err-ReadFault.field-0-is at c.in-Err-ReadFault.ensures.read refl, refl) (Gains-nil _)

pub returns-in-Err-TooLong : goal.returns-in-Err-TooLong
returns-in-Err-TooLong g c words reading = end_of_long_input
    (call_of g.S.Source.left g.S.Source.faults g.K.Sink.taken g.K.Sink.faults words
    (map (λ b. (goal.Proposer-dyn g (b.vtable, b.value)).plan b.value) c.args.boxes.now.items) c.args.source.now c.read_all.new.source
    c.args.sink.now c.tell.new.sink)
    c.args.settings c.args.most c.tell.result reading c.requires.limit (rw c.in-Err-TooLong.field-0-is at c.in-Err-TooLong.ensures.stayed
    (λ e. cc)) (rw c.in-Err-TooLong.field-0-is at c.in-Err-TooLong.ensures.long refl) c.tell.ensures

pub returns-in-Err-Memory : goal.returns-in-Err-Memory
returns-in-Err-Memory g c words reading = end_of_memory
    (call_of g.S.Source.left g.S.Source.faults g.K.Sink.taken g.K.Sink.faults words
    (map (λ b. (goal.Proposer-dyn g (b.vtable, b.value)).plan b.value) c.args.boxes.now.items) c.args.source.now c.read_all.new.source
    c.args.sink.now c.args.sink.now)
    c.args.settings c.args.most reading c.requires.limit (rw c.in-Err-Memory.field-0-is at c.in-Err-Memory.ensures.stayed (λ e. cc), refl) (Gains-nil _)
