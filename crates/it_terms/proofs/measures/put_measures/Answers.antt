use Rattle.it_terms.proofs.measures.put_measures.Goals as goal

pub invariant_of-rest : goal.invariant_of-rest
invariant_of-rest c = record { inside = rw c.as_slice.ensures.value c.in_ok-found.ensures.inside }
