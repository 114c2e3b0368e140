use Rattle.std.proofs.Common.{rules, ◌≡◌, ◌<◌, ◌∙◌, length, FitsSigned, to_z-of_z, w64, arith}
use Rattle.std.proofs.lemmas.List.{length-set}
use Rattle.it_engine.specs.Choosing.{entry_of}
use Rattle.it_vectors.proofs.Items.{set_done}
use Rattle.it_engine.proofs.choice.note_entries.Goals as goal

pub loop-i-preserved : goal.loop-i-preserved
loop-i-preserved c =
    let f : FitsSigned w64 c.entry.result = search rules in
    let l : c.loop-i.i < length c.loop-i.entries = search (rules, c.loop-i.invariant.same_length) in
    rw (to_z-of_z f) record {
      same_length = length-set c.loop-i.entries c.loop-i.i c.entry.result ∙ c.loop-i.invariant.same_length;
      done = set_done c.loop-i.entries c.loop-i.i c.entry.result (λ k z. z ≡ entry_of c.args.column.now c.args.rows.now k) l
          c.loop-i.invariant.done c.entry.ensures;
    }

pub returns : goal.returns
returns c = record {
  length_is = c.loop-i.invariant.same_length;
  each = λ i l. c.loop-i.invariant.done i
      (omega (arith, l, c.loop-i-test.false, c.loop-i.auto.i-end));
}
