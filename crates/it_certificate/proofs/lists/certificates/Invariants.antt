use Rattle.std.proofs.Common.{◌≡◌, drop, map}
use Rattle.serde_json.specs.View.{items_view}
use Rattle.it_space.specs.Answers.{certificate_view}
use Rattle.it_certificate.specs.Parts.{certificate_at, all_of}
use Rattle.it_certificate.specs.Steps.{prepend}
use Rattle.it_certificate.proofs.lists.certificates.Given as goal

abbrev pub invariant-loop-value : goal.invariant-loop-value
invariant-loop-value l = prepend (map certificate_view l.out.items) (all_of certificate_at (items_view (drop l.value-index l.values)))
    ≡ all_of certificate_at (items_view l.values)
