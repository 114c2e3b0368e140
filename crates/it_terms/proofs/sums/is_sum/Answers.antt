use Rattle.std.proofs.Common.{◌+◌, ap, ◌∙◌, length}
use Rattle.it_polymatroid.specs.Certificates.{combination}
use Rattle.it_terms.specs.Sums.{constraint_value}
use Rattle.it_terms.proofs.SumLemmas.{places_few, same_as_added}
use Rattle.it_terms.proofs.sums.is_sum.Goals as goal

pub is_row_of-requires : goal.is_row_of-requires
is_row_of-requires c = places_few c.args.space c.add_constraints.new.sums (c.size.result + 1) c.requires (ap (λ n. n + 1) c.size.ensures)
    (c.in-Ok.ensures.complete ∙ ap length c.in_ok-sums.ensures)

pub returns-in-Ok : goal.returns-in-Ok
returns-in-Ok c = same_as_added c.args.row.now c.in_ok-sums.sums c.add_constraints.new.sums (c.size.result + 1)
    (λ p. combination c.args.weights.now (constraint_value c.args.constraints.now p)) c.is_row_of.result c.in_ok-sums.ensures
    c.in-Ok.ensures c.is_row_of.ensures
