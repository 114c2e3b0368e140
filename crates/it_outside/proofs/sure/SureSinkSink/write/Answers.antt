use Rattle.std.proofs.Common.{arith, ap, ◌∙◌}
use Rattle.it_outside.specs.Sure.{after_sure_write}
use Rattle.it_outside.proofs.SureLemmas.{after_more}
use Rattle.it_outside.proofs.sure.SureSinkSink.write.Goals as goal

pub returns-then-spare-piece-clause-after : goal.returns-then-spare-piece-clause-after
returns-then-spare-piece-clause-after c =
    after_more (record { limit = c.self.inside.limit; kept = c.self.inside.room.items; more = c.self.inside.more }) c.args.piece.now
    c.extend_from_slice.new.self.items
    c.min-count.result (omega arith) (omega arith) c.in-Ok.ensures.items
    ∙ ap (λ s. after_sure_write s c.args.piece.now) c.self.view_is
