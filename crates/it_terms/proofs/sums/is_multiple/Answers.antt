use Rattle.std.proofs.Common.{◌+◌, ◌*ℤ◌, ap, subst, ◌∙◌, length}
use Rattle.it_space.specs.Rows.{Terms, value}
use Rattle.it_terms.specs.Sums.{IsPlus}
use Rattle.it_terms.proofs.SumLemmas.{places_few, same_as_added}
use Rattle.it_terms.proofs.sums.is_multiple.Goals as goal

pub is_row_of-requires : goal.is_row_of-requires
is_row_of-requires c = places_few c.args.space c.add_terms.new.sums (c.size.result + 1) c.requires (ap (λ n. n + 1) c.size.ensures)
    (c.in-Ok.ensures.complete ∙ ap length c.in_ok-sums.ensures)

pub returns-in-Ok : goal.returns-in-Ok
returns-in-Ok c = same_as_added c.args.row.now c.in_ok-sums.sums c.add_terms.new.sums (c.size.result + 1)
    (λ p. c.args.weight.now.1 *ℤ value c.args.target.now p) c.is_row_of.result c.in_ok-sums.ensures
    (subst (λ (t : Terms). IsPlus c.in_ok-sums.sums c.add_terms.new.sums (λ p. c.args.weight.now.1 *ℤ value t p)) c.terms.ensures.value
    c.in-Ok.ensures) c.is_row_of.ensures
