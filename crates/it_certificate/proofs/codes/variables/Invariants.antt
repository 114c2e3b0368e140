use Rattle.std.proofs.Common.{◌≡◌, drop, map}
use Rattle.serde_json.specs.View.{items_view}
use Rattle.it_codes.specs.Codes.{functions_of}
use Rattle.it_certificate.specs.CodeReading.{variable_at}
use Rattle.it_certificate.specs.Parts.{all_of}
use Rattle.it_certificate.specs.Steps.{prepend}
use Rattle.it_certificate.proofs.codes.variables.Given as goal

abbrev pub invariant-loop-value : goal.invariant-loop-value
invariant-loop-value l = prepend (map functions_of l.out.items) (all_of (variable_at l.elements l.symbols)
    (items_view (drop l.value-index l.values))) ≡ all_of (variable_at l.elements l.symbols) (items_view l.values)
