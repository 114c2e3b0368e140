use Rattle.std.proofs.Common.{◌≡◌, map, take}
use Rattle.serde_json.specs.View.{view}
use Rattle.it_certificate.specs.Values.{proof_value}
use Rattle.it_space.specs.Answers.{certificate_view}
use Rattle.it_certificate.proofs.values.proofs.Given as goal

abbrev pub invariant-loop-certificate : goal.invariant-loop-certificate
invariant-loop-certificate l = map view l.values.items ≡ map proof_value (map certificate_view (take l.certificate-index l.certificates))
