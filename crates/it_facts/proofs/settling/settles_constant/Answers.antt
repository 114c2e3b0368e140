use Rattle.std.proofs.Common.{ℕ, ℤ, subst}
use Rattle.std.proofs.lemmas.Bool.{OnTrue_at, OnTrue_from}
use Rattle.it_space.specs.Rows.{point_of}
use Rattle.it_facts.specs.Settling.{Settles}
use Rattle.it_facts.specs.declared.facts.Fact.TheVariants.{Constant, Function}
use Rattle.it_facts.proofs.PointLemmas.{constant_settles}
use Rattle.it_facts.proofs.settling.settles_constant.Goals as goal

pub returns : goal.returns
returns c =
    let n = c.args.n in
    let p : ℕ → ℤ = point_of c.args.point.now in
    let s : ℕ = c.args.set in
    let x = c.args.variable in
    OnTrue_from c.settles_function.result (Settles n p s (Constant x)) (λ e.
    constant_settles n p s x (subst (λ (of : ℕ). Settles n p s (Function x of)) c.empty.ensures (OnTrue_at e c.settles_function.ensures)))
