use Rattle.std.proofs.Common.{}
use Rattle.it_space.specs.Rows.{value}
use Rattle.it_polymatroid.specs.Certificates.{combination}
use Rattle.it_terms.specs.Sums.{constraint_value}
use Rattle.it_terms.proofs.SumLemmas.{plus_both}
use Rattle.it_terms.proofs.under.add_both.Goals as goal

pub returns : goal.returns
returns c = plus_both c.args.sums.now c.add_terms.new.sums c.add_constraints.new.sums (value c.args.terms.now)
    (λ p. combination c.args.weights.now (constraint_value c.args.constraints.now p))
    c.in_ok-add_terms.ensures c.in_ok-add_constraints.ensures
