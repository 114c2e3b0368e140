use Rattle.std.proofs.Common.{rules, ◌∙◌, length, slice_set, arith, FitsSigned, to_z-of_z, w64}
use Rattle.std.proofs.lemmas.List.{length-set}
use Rattle.it_engine.proofs.InOrder.{AreNotedBelow, after_row, all_noted, moved_noted, still_noted, up_to_end, up_to_row}
use Rattle.it_engine.proofs.blocks.note_moved_entries.Goals as goal

pub loop-k-init : goal.loop-k-init
loop-k-init c = record {
  same_length = c.clear_entries.ensures.length
      ∙ c.requires.even;
  noted = record { done = λ j l. absurd (omega (arith, l)); rest = λ j l. c.clear_entries.ensures.null j };
}

pub loop-k-preserved : goal.loop-k-preserved
loop-k-preserved c =
    let f : FitsSigned w64 c.entry_at.result = search rules in
    rw (to_z-of_z f) record {
      same_length = length-set c.loop-k.entries c.row_at-q.result c.entry_at.result ∙ c.loop-k.invariant.same_length;
      noted = after_row c.args.block.now.order.now (AreNotedBelow c.args.column.now c.args.block.now.rows.now c.args.block.now.moved.now
          (slice_set c.loop-k.entries c.row_at-q.result c.entry_at.result)) c.loop-k.k c.row_at-q.result c.row_at-q.ensures
          (moved_noted c.args.column.now c.args.block.now.rows.now c.args.block.now.moved.now c.loop-k.entries c.row_at-q.result c.entry_at.result
          (let w = c.requires.order.within c.loop-k.k c.loop-k-test.true
          in omega (arith, w, c.row_at-q.ensures, c.loop-k.invariant.same_length, c.requires.height))
          (rw c.row_at-q.ensures (c.requires.order.own c.loop-k.k c.loop-k-test.true)) c.entry_at.ensures
          (up_to_row c.args.block.now.moved.now (length c.args.block.now.basis.now) c.args.block.now.order.now c.requires.order
          (AreNotedBelow c.args.column.now c.args.block.now.rows.now c.args.block.now.moved.now c.loop-k.entries)
          (still_noted c.args.column.now c.args.block.now.rows.now c.args.block.now.moved.now c.loop-k.entries)
          c.loop-k.k c.row_at-q.result c.loop-k-test.true c.row_at-q.ensures c.loop-k.invariant.noted));
    }

pub returns : goal.returns
returns c =
    let f : FitsSigned w64 c.moved_entry.result = search rules in
    rw (to_z-of_z f) (all_noted c.args.column.now c.args.block.now.rows.now c.args.block.now.moved.now c.loop-k.entries
    (length c.args.block.now.basis.now) c.moved_entry.result
    c.loop-k.invariant.same_length c.requires.height c.moved_entry.ensures
    (up_to_end c.args.block.now.moved.now (length c.args.block.now.basis.now) c.args.block.now.order.now c.requires.order
    (AreNotedBelow c.args.column.now c.args.block.now.rows.now c.args.block.now.moved.now c.loop-k.entries)
    (still_noted c.args.column.now c.args.block.now.rows.now c.args.block.now.moved.now c.loop-k.entries)
    c.loop-k.k c.loop-k-test.false c.loop-k.auto.k-end c.loop-k.invariant.noted))
