use Rattle.std.proofs.Common.{rules, refl, sym, ◌∙◌, get_or}
use Rattle.it_certificate.proofs.DigitLemmas.{too_large_from}
use Rattle.it_certificate.proofs.numbers.value_up_to_limit.Goals as goal

pub returns-in-None : goal.returns-in-None
returns-in-None c = sym (too_large_from c.args.digits.now c.loop-d.d-index c.loop-d.n (get_or c.args.digits.now c.loop-d.d-index 0)
    (search rules) refl (search rules) (search rules) c.in-None.ensures) ∙ c.loop-d.invariant.rest
