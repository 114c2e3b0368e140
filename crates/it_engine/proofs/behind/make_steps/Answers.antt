use Rattle.std.proofs.Common.{◌≡◌, ◌∙◌, ap, Bool, length, List, subst, sym}
use Rattle.std.proofs.lemmas.List.{with_items_is}
use Rattle.std.specs.Vec.{with_items}
use Rattle.it_engine.specs.Behind.{AreBrought, AreStillSteps}
use Rattle.it_engine.proofs.ManySteps.{steps_made}
use Rattle.it_engine.proofs.ShortenedRows.{still_steps_shortened}
use Rattle.it_engine.proofs.behind.make_steps.Goals as goal

pub returns-then-bring_all-clause-steps : goal.returns-then-bring_all-clause-steps
returns-then-bring_all-clause-steps c =
    let written : (with_items c.args.notes.now.moved c.note_none_moved.new.moved).items ≡ c.note_none_moved.new.moved =
    with_items_is c.args.notes.now.moved c.note_none_moved.new.moved (c.note_none_moved.ensures.length
    ∙ ap length c.as_mut_slice.ensures.value ∙ sym c.args.notes.now.moved.ok.0) in
    steps_made c.args.run.now.columns.now c.args.run.now.limit c.args.rows.now c.args.basis.now c.note_none_moved.new.moved
    c.in_ok-made.made c.shorten_moved.new.rows c.still_steps.new.basis c.still_steps.new.notes.moved.items c.bring_all.new.rows
    c.note_none_moved.ensures.moved c.note_none_moved.ensures.cost
    (still_steps_shortened c.args.run.now.columns.now c.args.run.now.limit c.args.rows.now c.args.basis.now c.note_none_moved.new.moved
    c.in_ok-made.made c.still_steps.new.rows c.still_steps.new.basis c.still_steps.new.notes.moved.items c.shorten_moved.new.rows
    (subst (λ (moved : List Bool). AreStillSteps c.args.run.now.columns.now c.args.run.now.limit c.args.rows.now c.args.basis.now moved
    c.in_ok-made.made c.still_steps.new.rows c.still_steps.new.basis c.still_steps.new.notes.moved.items) written
    c.in_ok-made.ensures.steps) c.shorten_moved.ensures)
    (subst (λ (moved : List Bool). AreBrought c.args.run.now.columns.now c.args.run.now.limit c.shorten_moved.new.rows
    c.still_steps.new.basis moved (length c.still_steps.new.basis) c.bring_all.new.rows) c.as_slice-moved.ensures.value
    c.if-bring_all.ensures.brought)
