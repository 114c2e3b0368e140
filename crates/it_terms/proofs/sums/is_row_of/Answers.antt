use Rattle.std.proofs.Common.{sym, ap, ◌∙◌}
use Rattle.std.proofs.lemmas.Bool.{OnTrue_from}
use Rattle.std.proofs.lemmas.Slice.Eq.{slice_eq-Decides}
use Rattle.it_space.specs.Rows.{Terms, value}
use Rattle.it_demand.specs.Coefficients.{dense_form}
use Rattle.it_demand.proofs.TermLemmas.{row-value}
use Rattle.it_terms.specs.Proofs.{AreSame}
use Rattle.it_terms.proofs.SumLemmas.{pair_decides}
use Rattle.it_terms.proofs.sums.is_row_of.Goals as goal

pub returns : goal.returns
returns c = OnTrue_from c.eq.result (AreSame (value c.args.row.now) (dense_form c.args.sums.now)) (λ e p z.
    ap (λ (t : Terms). value t p) (sym c.terms-2.ensures.value ∙ (slice_eq-Decides pair_decides c.terms-2.result.now c.as_slice.result.now
    c.eq.result c.eq.ensures).0 e ∙ c.as_slice.ensures.value)
    ∙ row-value c.args.sums.now c.in_ok-terms.terms.items p c.in_ok-terms.ensures z)
