use Rattle.std.proofs.Common.{◌≡◌, drop}
use Rattle.serde_json.specs.View.{items_view}
use Rattle.it_certificate.specs.Parts.{marked_row_at, all_of}
use Rattle.it_certificate.specs.Steps.{prepend}
use Rattle.it_certificate.proofs.rows.rows.Given as goal

abbrev pub invariant-loop-value : goal.invariant-loop-value
invariant-loop-value l = prepend l.out.items (all_of (marked_row_at l.size) (items_view (drop l.value-index l.values)))
    ≡ all_of (marked_row_at l.size) (items_view l.values)
