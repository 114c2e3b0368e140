use Rattle.std.proofs.Common.{◌≡◌, refl, rules, sym, subst}
use Rattle.it_space.specs.Rows.{Terms}
use Rattle.it_contain.specs.SearchSteps.{ProvesOne}
use Rattle.it_contain.proofs.OutcomeLemmas.{same_outcome, one_outcome_more}
use Rattle.it_contain.proofs.outcomes.Outcomes.keep.Goals as goal

pub returns-in_ok-insert : goal.returns-in_ok-insert
returns-in_ok-insert c =
    let same : c.in_ok-terms.terms.items ≡ c.args.target.now = search rules in
    λ q effort r h. one_outcome_more q effort _ (λ s t. refl) c.args.self.now
    (record { by_row = c.insert.new.self; closed = c.args.self.now.closed }) c.in_ok-terms.terms c.in_ok-kept.kept
    c.in_ok-insert.ensures.entries refl r
    (subst (λ (t : Terms). ProvesOne q effort t c.in_ok-kept.kept) (sym same)
    (same_outcome q effort c.args.target.now c.in_ok-kept.kept c.args.outcome.now c.in_ok-kept.ensures h))
