use Rattle.std.proofs.Common.{sym}
use Rattle.it_contain.proofs.CandidateLemmas.{candidate_made}
use Rattle.it_contain.proofs.tuples.candidate_at.Goals as goal

pub returns : goal.returns
returns g c = candidate_made (g.S.PartSets.sets c.args.shape.variables) _ c.args.shape.parts c.args.number c.last_digits-digits.result _ _ _ _
    (sym c.count.ensures.value) c.count.ensures.empty_first c.last_digits-digits.ensures.value
    c.set_at.ensures c.set_at-2.ensures c.set_at-3.ensures c.set_at-4.ensures
