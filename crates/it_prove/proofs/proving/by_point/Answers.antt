use Rattle.std.proofs.Common.{◌∙◌}
use Rattle.it_prove.proofs.ProofLemmas.{refuted_follows, wide_point, point_size}
use Rattle.it_prove.proofs.proving.by_point.Goals as goal

pub check_no-requires-clause-complete : goal.check_no-requires-clause-complete
check_no-requires-clause-complete c = point_size c.args.problem.now c.args.target.now c.facts.ensures c.requires.target c.args.point.now
    c.in-Ok.point c.in-Ok.ensures.value c.in-Ok.ensures.fits c.requires.apart

pub returns-in-Valid : goal.returns-in-Valid
returns-in-Valid c = refuted_follows c.args.problem.now c.args.target.now c.facts.ensures c.requires.target c.args.point.now c.in-Ok.point
    c.in-Ok.ensures.value c.in-Ok.ensures.fits c.requires.apart c.in-Valid.ensures

pub returns-in_default : goal.returns-in_default
returns-in_default c = wide_point c.args.problem.now c.args.target.now c.facts.ensures c.requires.target c.args.point.now c.in-Ok.point
    c.in-Ok.ensures.value c.in-Ok.ensures.fits c.requires.apart (λ e. c.in_default.not-Valid (c.check_no.ensures ∙ e))
