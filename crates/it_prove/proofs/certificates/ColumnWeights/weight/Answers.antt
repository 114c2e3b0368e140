use Rattle.std.proofs.Common.{rules, ◌≡◌, ◌≤ℤ◌, ℕ, get_or, ℤ, pos, sym, ap, subst, ◌∙◌, FitsSigned, to_z-of_z}
use Rattle.std.proofs.lemmas.List.Sorted.{answers_always}
use Rattle.std.proofs.lemmas.Map.Lookups.{exact_unsigned}
use Rattle.it_space.specs.Rows.{Terms, coefficient}
use Rattle.it_space.proofs.CanonicalRows.{coefficient_at_term, ranks_rise, passed_over}
use Rattle.it_prove.proofs.certificates.ColumnWeights.weight.Goals as goal
use mir.Syntax.{w128}

pub returns-in-Ok : goal.returns-in-Ok
returns-in-Ok c =
    let ws : Terms = c.self.inside.weights.now in
    let p = c.in-Ok.ensures.position (λ t. t.0) (answers_always _ _ _ (λ f a r f' e. search rules)) in
    let t : ℕ × ℤ = get_or ws c.in-Ok.index (0, pos 0) in
    let same : t.0 ≡ c.args.column = exact_unsigned t.0 c.args.column (p (0, pos 0)) in
    let fits : FitsSigned w128 t.1 = search rules in
    let found : t.1 ≡ coefficient ws c.args.column =
    sym (coefficient_at_term 0 ws c.in-Ok.index (0, pos 0) c.self.invariant.ascend c.in-Ok.ensures.bound) ∙ ap (coefficient ws) same in
    rw (to_z-of_z fits) record {
      value = found ∙ ap (λ (at : Terms). coefficient at c.args.column) c.self.view_is;
      least = subst (λ (x : ℤ). pos 0 ≤ℤ x) (sym found) (c.self.invariant.least c.args.column);
    }

pub returns-in-Err-clause-value : goal.returns-in-Err-clause-value
returns-in-Err-clause-value c =
    let ws : Terms = c.self.inside.weights.now in
    sym (passed_over ws c.args.column c.in-Err.field-0
    (c.in-Err.ensures.position (λ t. t.0) (answers_always _ _ _ (λ f a r f' e. search rules)) (ranks_rise ws c.args.column c.self.invariant.ascend)))
    ∙ ap (λ (at : Terms). coefficient at c.args.column) c.self.view_is
