use Rattle.it_syntax.proofs.NameLemmas.{copied_vectors}
use Rattle.it_syntax.proofs.names.Names.copy.Goals as goal

pub invariant_of-result : goal.invariant_of-result
invariant_of-result c =
    let variables = copied_vectors c.self.inside.variables.keys c.in_ok-variables.variables.keys c.in_ok-variables.ensures.cases in
    let rates = copied_vectors c.self.inside.rates.keys c.in_ok-rates.rates.keys c.in_ok-rates.ensures.cases in
    rw (variables, rates) c.self.invariant

pub returns : goal.returns
returns c =
    let variables = copied_vectors c.self.inside.variables.keys c.in_ok-variables.variables.keys c.in_ok-variables.ensures.cases in
    let rates = copied_vectors c.self.inside.rates.keys c.in_ok-rates.rates.keys c.in_ok-rates.ensures.cases in
    rw (variables, rates) c.self.view_is
