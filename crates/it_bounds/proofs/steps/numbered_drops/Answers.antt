use Rattle.std.proofs.Common.{Global, Vec, sym, ap, ◌∙◌}
use Rattle.it_space.specs.declared.answers.Certificate.{Certificate}
use Rattle.it_space.specs.declared.rows.Row.{Row}
use Rattle.it_space.specs.Answers.{certificate_view}
use Rattle.it_spans.specs.declared.types.RowDrop.{RowDrop}
use Rattle.it_bounds.proofs.StepLemmas.{numbered_done, numbered_first, numbered_goes, numbered_stays}
use Rattle.it_bounds.proofs.steps.numbered_drops.Goals as goal
use Rattle.it_bounds.proofs.steps.numbered_drops.Goals.{then-goes_next+in_ok-proof+in_ok-push, else-goes_next}

pub loop-i-init : goal.loop-i-init
loop-i-init c = numbered_first c.args.rows.now c.args.dropped.now c.new-drops.result.items c.new-drops.ensures.items

pub loop-i-preserved : goal.loop-i-preserved
loop-i-preserved c = elim c.if-goes_next.branch [
  | then-goes_next+in_ok-proof+in_ok-push w ↦
      numbered_goes c.args.rows.now c.args.dropped.now c.loop-i.i c.loop-i.drops.items c.loop-i.invariant c.index-rows-i.result
      c.loop-i-test.true c.index-rows-i.is c.len-next.result (c.len-next.ensures ∙ c.loop-i.drops.ok.0)
      w.index-dropped-next.result w.in_ok-proof.proof c.if-goes_next.drops.items w.index-dropped-next.is
      (w.in_ok-proof.ensures ∙ ap (λ (d : Row × Certificate). certificate_view d.1) (sym w.index-dropped-next.is))
      (ap (λ (v : Vec RowDrop Global). v.items) w.drops-is ∙ w.in_ok-push.ensures.items) (sym c.goes_next.ensures ∙ w.if-goes_next.true)
  | else-goes_next w ↦
      numbered_stays c.args.rows.now c.args.dropped.now c.loop-i.i c.loop-i.drops.items c.loop-i.invariant c.index-rows-i.result
      c.loop-i-test.true c.index-rows-i.is c.len-next.result (c.len-next.ensures ∙ c.loop-i.drops.ok.0)
      c.if-goes_next.drops.items (ap (λ (v : Vec RowDrop Global). v.items) w.drops-is) (sym c.goes_next.ensures ∙ w.if-goes_next.false)
]

pub returns : goal.returns
returns c = numbered_done c.args.rows.now c.args.dropped.now c.loop-i.i c.loop-i.drops.items c.loop-i.invariant c.loop-i-test.false
