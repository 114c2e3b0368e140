use Rattle.std.proofs.Common.{◌∙◌}
use Rattle.it_space.specs.Answers.{certificate_view}
use Rattle.it_prove.proofs.ProofLemmas.{proven_follows, wide_certificate}
use Rattle.it_prove.proofs.proving.by_weights.Goals as goal

pub returns-in-Valid : goal.returns-in-Valid
returns-in-Valid c = proven_follows c.args.problem.now c.args.target.now c.facts.ensures c.requires.target c.args.weights.now
    (certificate_view c.in-Ok.certificate) c.in-Ok.ensures.lifted c.in-Ok.ensures.certifies c.in-Ok.ensures.fits c.in-Valid.ensures

pub returns-in_default : goal.returns-in_default
returns-in_default c = wide_certificate c.args.problem.now c.args.target.now c.facts.ensures c.requires.target c.args.weights.now
    (certificate_view c.in-Ok.certificate) c.in-Ok.ensures.lifted c.in-Ok.ensures.certifies
    (λ e. c.in_default.not-Valid (c.check_yes.ensures ∙ e))
