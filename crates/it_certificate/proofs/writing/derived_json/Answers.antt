use Rattle.std.proofs.Common.{subst}
use Rattle.std.specs.Str.{IsUtf8}
use Rattle.it_certificate.proofs.writing.derived_json.Goals as goal

pub returns-clause-utf8 : goal.returns-clause-utf8
returns-clause-utf8 c = rw c.into_bytes.ensures.value (subst IsUtf8 c.as_str-text.ensures.value c.as_str-text.utf8)
