-- A line has one reading.
use Rattle.it_question.specs.declared.sizes.FileLimits.{FileLimits}
use Rattle.std.proofs.Common.{◌≡◌, refl, ap, sym, subst, ◌∙◌, Option, Some, None, Result}
use Rattle.serde_json.specs.Data.{Data}
use Rattle.it_space.proofs.OptionLemmas.{some_same}
use Rattle.it_certificate.specs.declared.keys.Key.{Key}
use Rattle.it_certificate.specs.Reports.{ReadsAs, Reading, report_of}
use Rattle.it_certificate.specs.Sources.{IsSourceAt, Source}
use Rattle.it_certificate.specs.Laws.{OneReading}
use Rattle.it_certificate.proofs.SourceLemmas.{one_source}

one_own : (limits : FileLimits) (d : Data) (o p : Option Source) → IsSourceAt limits d o → IsSourceAt limits d p → o ≡ p
one_own limits d None None h k = refl
one_own limits d None (Some b) h k = absurd (h b k)
one_own limits d (Some a) None h k = absurd (k a h)
one_own limits d (Some a) (Some b) h k = ap Some (one_source limits d a b h k)

one_value : (limits : FileLimits) (d : Data) (r s : Result Reading Key) → ReadsAs limits d r → ReadsAs limits d s → r ≡ s
one_value limits d r s h k = sym h.is ∙ ap (λ o. report_of o d) (one_own limits d h.own k.own h.source k.source) ∙ k.is

pub one_reading : OneReading
one_reading limits line r s h k =
    let e : k.value ≡ h.value = some_same k.value h.value (sym k.is_json ∙ h.is_json) in
    one_value limits h.value r s h.reads (subst (λ d. ReadsAs limits d s) e k.reads)
