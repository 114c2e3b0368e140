use Rattle.std.proofs.Common.{◌≡◌, ◌-◌, ◌+◌, ℕ, ℤ, refl, sym, subst, ◌∙◌, bit_and}
use Rattle.std.specs.Int.{bit_at}
use Rattle.std.proofs.lemmas.Bool.{OnTrue_at, OnTrue_from}
use Rattle.it_space.specs.Rows.{point_of}
use Rattle.it_facts.specs.Settling.{Settles}
use Rattle.it_facts.specs.declared.facts.Fact.TheVariants.{Function}
use Rattle.it_facts.proofs.PointLemmas.{function_settles}
use Rattle.it_facts.proofs.settling.settles_function.Goals as goal

pub returns-then-inside : goal.returns-then-inside
returns-then-inside c =
    let n = c.args.n in
    let p : ℕ → ℤ = point_of c.args.point.now in
    let s : ℕ = c.args.set in
    let rest : ℕ = c.minus-rest.result in
    OnTrue_from c.have_one_entropy.result (Settles n p s (Function c.args.variable c.args.of)) (λ e.
    function_settles n p s c.args.variable c.args.of rest c.requires.variable c.requires.below (sym c.has.ensures ∙ c.if-has.true)
    (subst (λ (w : ℕ). (i : ℕ) → bit_at rest i ≡ bit_at s i - bit_at w i) c.single.ensures c.minus-rest.ensures.members)
    (subst (λ (w : ℕ). rest + bit_and w s ≡ s) c.single.ensures c.minus-rest.ensures.rest)
    (c.if-inside.ensures.0 refl) (OnTrue_at e c.have_one_entropy.ensures))
