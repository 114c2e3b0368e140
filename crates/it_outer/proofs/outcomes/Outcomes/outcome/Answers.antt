use Rattle.std.proofs.Common.{refl, sym, ap, subst, ◌∙◌}
use Rattle.std.specs.Option.{option_copied}
use Rattle.it_space.specs.Answers.{CertificateView, certificate_view}
use Rattle.it_space.specs.Rows.{Terms}
use Rattle.it_prove.specs.ProofViews.{EndsWith, Yes}
use Rattle.it_outer.proofs.OutcomeLemmas.{closed_of, kept_ends, outcomes_stay}
use Rattle.it_outer.proofs.outcomes.Outcomes.outcome.Goals as goal

pub prove-requires-clause-closed : goal.prove-requires-clause-closed
prove-requires-clause-closed c = closed_of c.args.problem.now c.args.effort c.args.self.now c.requires.outcomes

pub returns-in-Some-clause-ends : goal.returns-in-Some-clause-ends
returns-in-Some-clause-ends c = subst (λ (w : CertificateView). EndsWith c.args.problem.now c.args.row.now c.args.effort (Yes w)) (sym c.in_ok-kept.ensures)
    (subst (λ (t : Terms). EndsWith c.args.problem.now t c.args.effort (Yes (certificate_view c.in-Some.certificate.now))) c.terms.ensures.value
    (kept_ends c.args.problem.now c.args.effort _ (λ s t. refl) c.args.self.now c.terms.result.now c.in-Some.certificate.now
    (sym (ap option_copied c.in-Some.is) ∙ c.get.ensures.value) c.requires.outcomes))

pub returns : goal.returns
returns c = record {
  ends = c.in_ok-proof.ensures.ends;
  outcomes = c.in_ok-keep.ensures c.args.problem.now c.args.effort
      (outcomes_stay c.args.problem.now c.args.effort c.args.self.now _ refl
      (c.in_ok-proof.ensures.stays c.args.problem.now (closed_of c.args.problem.now c.args.effort c.args.self.now c.requires.outcomes))
      c.requires.outcomes) c.in_ok-proof.ensures.ends;
}
