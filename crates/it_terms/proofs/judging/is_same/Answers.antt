use Rattle.std.proofs.Common.{◌≡◌, sym, ◌∙◌}
use Rattle.std.proofs.lemmas.Bool.{OnTrue_from}
use Rattle.std.proofs.lemmas.Slice.Eq.{slice_eq-Decides}
use Rattle.it_terms.proofs.SumLemmas.{pair_decides}
use Rattle.it_terms.proofs.judging.is_same.Goals as goal

pub returns : goal.returns
returns c = OnTrue_from c.eq.result (c.args.row.now ≡ c.args.other.now)
    (λ e. sym c.terms.ensures.value ∙ (slice_eq-Decides pair_decides c.terms.result.now c.terms-2.result.now c.eq.result c.eq.ensures).0 e
    ∙ c.terms-2.ensures.value)
