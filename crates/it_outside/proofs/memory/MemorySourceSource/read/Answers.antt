use Rattle.std.proofs.Common.{arith, ap, sym, ◌∙◌}
use Rattle.it_outside.proofs.MemoryLemmas.{left-copied, left-none}
use Rattle.it_outside.proofs.memory.MemorySourceSource.read.Goals as goal

pub returns-clause-bytes : goal.returns-clause-bytes
returns-clause-bytes c = (
  sym (ap (λ s. s.left) c.self.view_is) ∙ left-copied c.self.inside.bytes.items c.args.buf.now c.copy_front.new.to c.self.inside.at c.min-count.result
      (rw (← c.deref-2.ensures.value) (omega arith)) (rw (← c.deref-2.ensures.value) c.copy_front.ensures),
  λ none room. left-none c.self.inside.bytes.items c.self.inside.at c.min-count.result (rw (← c.deref-2.ensures.value) (omega arith)),
)
