use Rattle.std.proofs.Common.{refl}
use Rattle.it_contain.proofs.OutcomeLemmas.{closed_of_outcomes, outcomes_stay}
use Rattle.it_contain.proofs.ProofLemmas.{no_proves, undecided_proves}
use Rattle.it_contain.proofs.outcomes.Outcomes.certificate_of.Goals as goal

pub prove-requires-clause-closed : goal.prove-requires-clause-closed
prove-requires-clause-closed c = closed_of_outcomes c.args.problem.now c.args.effort c.args.self.now c.requires.outcomes

pub returns-in-No : goal.returns-in-No
returns-in-No c = record {
  proves = no_proves c.args.problem.now c.args.target.now c.args.effort c.in_ok-certificate.field-0 c.in_ok-certificate.ensures.ends c.in-No.field-0 c.in-No.is;
  outcomes = outcomes_stay c.args.problem.now c.args.effort c.args.self.now _ refl
      (c.in_ok-certificate.ensures.stays c.args.problem.now (closed_of_outcomes c.args.problem.now c.args.effort c.args.self.now
      c.requires.outcomes)) c.requires.outcomes;
}

pub returns : goal.returns
returns c = record {
  proves = undecided_proves c.args.problem.now c.args.target.now c.args.effort c.in_ok-certificate.field-0 c.in_ok-certificate.ensures.ends
      c.in-Undecided.field-0 c.in-Undecided.is;
  outcomes = outcomes_stay c.args.problem.now c.args.effort c.args.self.now _ refl
      (c.in_ok-certificate.ensures.stays c.args.problem.now (closed_of_outcomes c.args.problem.now c.args.effort c.args.self.now
      c.requires.outcomes)) c.requires.outcomes;
}

pub returns-in-Yes-clause-outcomes : goal.returns-in-Yes-clause-outcomes
returns-in-Yes-clause-outcomes c = outcomes_stay c.args.problem.now c.args.effort c.args.self.now _ refl
    (c.in_ok-certificate.ensures.stays c.args.problem.now (closed_of_outcomes c.args.problem.now c.args.effort c.args.self.now
    c.requires.outcomes)) c.requires.outcomes
