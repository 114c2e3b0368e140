use Rattle.std.proofs.Common.{arith, sym, ◌∙◌}
use Rattle.it_outside.proofs.MemoryLemmas.{left-copied, left-none}
use Rattle.it_outside.proofs.sure.SureSourceSource.read.Goals as goal

pub returns-clause-bytes : goal.returns-clause-bytes
returns-clause-bytes c = (
  sym c.self.view_is ∙ left-copied c.self.inside.bytes.items c.args.buf.now c.copy_front.new.to c.self.inside.at c.min-count.result
      (rw (← c.deref.ensures.value) (omega arith)) (rw (← c.deref.ensures.value) c.copy_front.ensures),
  λ none room. left-none c.self.inside.bytes.items c.self.inside.at c.min-count.result (rw (← c.deref.ensures.value) (omega arith)),
)
