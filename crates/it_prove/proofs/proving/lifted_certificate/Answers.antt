use Rattle.it_space.specs.Answers.{certificate_view}
use Rattle.it_elemental.specs.Generators.{generators}
use Rattle.it_closure.specs.Reading.{dependences_of}
use Rattle.it_prove.proofs.LiftLemmas.{read_is, are_dependences_of_so, ordered_so, lift_given, lift_is, lift_certifies}
use Rattle.it_prove.proofs.proving.lifted_certificate.Goals as goal

pub certificate-requires : goal.certificate-requires
certificate-requires c =
    record {
      ordered = ordered_so c.args.problem.now.space.variables (dependences_of c.args.problem.now)
          (generators c.args.problem.now) c.args.weights.now c.requires.sum.ordered;
    }

pub lift-requires-clause-dependences : goal.lift-requires-clause-dependences
lift-requires-clause-dependences c = are_dependences_of_so c.args.problem.now c.args.dependences.now c.facts.ensures
    (read_is c.args.problem.now c.args.dependences.now c.requires.space c.requires.list)

pub lift-requires-clause-sums : goal.lift-requires-clause-sums
lift-requires-clause-sums c = lift_given c.args.problem.now c.args.target.now c.facts.ensures c.requires.target c.args.weights.now
    c.requires.sum c.in_ok-collapsed.ensures.fits
    c.args.dependences.now (certificate_view c.in_ok-collapsed.collapsed)
    (read_is c.args.problem.now c.args.dependences.now c.requires.space c.requires.list) c.in_ok-collapsed.ensures.value

pub returns-clause-lifted : goal.returns-clause-lifted
returns-clause-lifted c = lift_is c.args.problem.now c.args.target.now c.facts.ensures c.requires.target c.args.weights.now c.requires.sum
    c.in_ok-collapsed.ensures.fits
    c.args.dependences.now (certificate_view c.in_ok-collapsed.collapsed) (certificate_view c.in_ok-certificate.certificate)
    (read_is c.args.problem.now c.args.dependences.now c.requires.space c.requires.list) c.in_ok-collapsed.ensures.value
    c.in_ok-certificate.ensures.lifted c.in_ok-certificate.ensures.unchanged c.in_ok-certificate.ensures.nonzero c.in_ok-certificate.ensures.fits

pub returns-clause-certifies : goal.returns-clause-certifies
returns-clause-certifies c = lift_certifies c.args.problem.now c.args.target.now c.facts.ensures c.requires.target c.args.weights.now
    c.requires.sum c.in_ok-collapsed.ensures.fits
    c.args.dependences.now (certificate_view c.in_ok-collapsed.collapsed)
    (certificate_view c.in_ok-certificate.certificate) c.in_ok-collapsed.ensures.value c.in_ok-certificate.ensures.lifted
