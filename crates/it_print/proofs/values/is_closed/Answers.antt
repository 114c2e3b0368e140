use Rattle.std.proofs.Common.{sym, subst, ◌∙◌, ◌<◌, ℕ}
use Rattle.it_space.specs.Rows.{point_of}
use Rattle.it_print.specs.Lines.{each_raises}
use Rattle.it_print.proofs.LineLemmas.{raise_goes, raise_stops}
use Rattle.it_print.proofs.values.is_closed.Goals as goal

pub returns-then-not-raises : goal.returns-then-not-raises
returns-then-not-raises c = raise_stops c.args.names.now.variables c.loop-i.i (point_of c.args.point.now) c.args.set
    (each_raises 0 c.args.names.now.variables (point_of c.args.point.now) c.args.set)
    (subst (λ (n : ℕ). c.loop-i.i < n) c.loop-i.invariant.0 c.loop-i-test.true) c.loop-i.invariant.1 (sym c.raises.ensures ∙ c.if-not-raises.true)

pub loop-i-preserved : goal.loop-i-preserved
loop-i-preserved c = (
  c.loop-i.invariant.0,
  raise_goes c.args.names.now.variables c.loop-i.i (point_of c.args.point.now) c.args.set
      (each_raises 0 c.args.names.now.variables (point_of c.args.point.now) c.args.set)
      (subst (λ (n : ℕ). c.loop-i.i < n) c.loop-i.invariant.0 c.loop-i-test.true) c.loop-i.invariant.1 (sym c.raises.ensures ∙ c.if-not-raises.false),
)
