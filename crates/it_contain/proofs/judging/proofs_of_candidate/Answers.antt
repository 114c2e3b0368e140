use Rattle.std.proofs.Common.{rules, sym, subst, List}
use Rattle.it_space.specs.Rows.{Terms}
use Rattle.it_region.specs.Obligations.{ArePulledRows}
use Rattle.it_region.specs.Pairs.{FitsPair, pair_obligations}
use Rattle.it_contain.proofs.ProofLemmas.{proofs_judge, not_fitting}
use Rattle.it_contain.proofs.judging.proofs_of_candidate.Goals as goal

pub returns-then-not-fits-clause-judges : goal.returns-then-not-fits-clause-judges
returns-then-not-fits-clause-judges c =
    let not : FitsPair c.args.pair.now c.args.candidate.now → ⊥ = search rules in
    not_fitting c.args.pair.now c.args.effort c.args.candidate.now not

pub returns-clause-judges : goal.returns-clause-judges
returns-clause-judges c =
    let fit : FitsPair c.args.pair.now c.args.candidate.now = search rules in
    proofs_judge c.args.pair.now c.args.effort c.args.candidate.now c.as_slice.result.now c.in_ok-proofs.proofs fit
    (subst (λ (ts : List Terms). ArePulledRows c.args.pair.now.first.space (pair_obligations c.args.pair.now c.args.candidate.now) ts)
    (sym c.as_slice.ensures.value) c.in_ok-rows.ensures.rows) c.in_ok-proofs.ensures.proves
