use Rattle.std.proofs.Common.{sym, ◌∙◌}
use Rattle.it_elemental.proofs.ExpansionLemmas.{row-start, row-with, row-without}
use Rattle.it_elemental.proofs.expansions.push_expansion.Goals as goal
use Rattle.it_elemental.proofs.expansions.push_expansion.Goals.{then-has+in_ok-push, else-has}

pub loop-y-init : goal.loop-y-init
loop-y-init c = row-start c.args.n c.args.x c.args.ys c.args.given c.args.indexes.now.items c.requires.listed c.requires.given_below
    c.requires.ys_new c.requires.x_new

pub loop-y-preserved : goal.loop-y-preserved
loop-y-preserved c = elim c.if-has.branch [
  | then-has+in_ok-push w ↦
      rw (w.before-is, w.with_variable-before.ensures, w.indexes-is, w.in_ok-push.ensures.items)
      (row-with c.args.n c.args.x c.args.ys _ c.loop-y.y c.loop-y.before c.loop-y.indexes.items w.mutual_index.result c.loop-y-test.true
      (sym c.has.ensures ∙ w.if-has.true) c.requires.x_apart w.mutual_index.ensures.listed w.mutual_index.ensures.value c.loop-y.invariant)
  | else-has w ↦
      rw (w.before-is, w.indexes-is) (row-without c.args.n c.args.x c.args.ys _ c.loop-y.y c.loop-y.before c.loop-y.indexes.items
      c.loop-y-test.true (sym c.has.ensures ∙ w.if-has.false) c.loop-y.invariant)
]
