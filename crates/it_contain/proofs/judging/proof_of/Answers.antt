use Rattle.std.proofs.Common.{refl, sym, ap, subst, ◌∙◌}
use Rattle.std.specs.Option.{option_copied}
use Rattle.it_space.specs.Rows.{Terms}
use Rattle.it_contain.specs.SearchSteps.{ProvesOne}
use Rattle.it_contain.proofs.OutcomeLemmas.{same_outcome, outcome_of_row}
use Rattle.it_contain.proofs.judging.proof_of.Goals as goal

pub returns-in-Some-clause-proves : goal.returns-in-Some-clause-proves
returns-in-Some-clause-proves c =
    same_outcome c.args.problem.now c.args.effort c.args.target.now c.in_ok-kept.kept c.in-Some.outcome.now c.in_ok-kept.ensures
    (subst (λ (t : Terms). ProvesOne c.args.problem.now c.args.effort t c.in-Some.outcome.now) c.terms.ensures.value
    (outcome_of_row c.args.problem.now c.args.effort _ (λ s t. refl) c.args.outcomes.now c.terms.result.now c.in-Some.outcome.now
    (sym (ap option_copied c.in-Some.is) ∙ c.get.ensures.value) c.requires.outcomes))
