use Rattle.std.proofs.Common.{[], Option, ℕ, map, refl, sym, subst, ◌∙◌}
use Rattle.it_cli.specs.Ends.{IsTaken, call_of}
use Rattle.it_cli.proofs.EndLemmas.{end_of_bytes}
use Rattle.it_cli.proofs.top.run.Goals as goal

pub returns-in-None : goal.returns-in-None
returns-in-None g c words reading = end_of_bytes
    (call_of g.S.Source.left g.S.Source.faults g.K.Sink.taken g.K.Sink.faults words
    (map (λ b. (goal.Proposer-dyn g (b.vtable, b.value)).plan b.value) c.args.boxes.now.items) c.args.source.now c.args.source.now
    c.args.sink.now c.reply.new.sink)
    c.args.settings [] c.reply.result reading refl
    (subst (λ (o : Option ℕ). IsTaken (call_of g.S.Source.left g.S.Source.faults g.K.Sink.taken g.K.Sink.faults words
    (map (λ b. (goal.Proposer-dyn g (b.vtable, b.value)).plan b.value) c.args.boxes.now.items) c.args.source.now c.args.source.now
    c.args.sink.now c.reply.new.sink) o []) (sym c.in-None.is ∙ c.limit.ensures) ((refl, refl), refl)) c.reply.ensures
