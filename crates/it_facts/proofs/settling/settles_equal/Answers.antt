use Rattle.std.proofs.Common.{◌≡◌, ◌-◌, ◌+◌, ◌<◌, ℕ, ℤ, sym, subst, subst₂, ap, ◌∙◌, bit_and, bit_or}
use Rattle.std.specs.Int.{bit_at}
use Rattle.std.proofs.lemmas.Bool.{OnTrue_at, OnTrue_from}
use Rattle.it_space.specs.Rows.{point_of}
use Rattle.it_facts.specs.Settling.{Settles}
use Rattle.it_facts.specs.declared.facts.Fact.TheVariants.{Equal}
use Rattle.it_facts.proofs.PointLemmas.{equal_settles}
use Rattle.it_facts.proofs.settling.settles_equal.Goals as goal

pub returns-then-number : goal.returns-then-number
returns-then-number c =
    let n = c.args.n in
    let p : ℕ → ℤ = point_of c.args.point.now in
    let s : ℕ = c.args.set in
    let rest : ℕ = c.minus-rest.result in
    let exchanged : ℕ = c.union-exchanged.result in
    OnTrue_from c.have_one_entropy.result (Settles n p s (Equal c.args.variable c.args.other)) (λ e.
    equal_settles n p s c.args.variable c.args.other rest exchanged c.requires.variable c.requires.other c.requires.below (sym c.has.ensures ∙ c.if-has.true)
    (subst (λ (w : ℕ). (i : ℕ) → bit_at rest i ≡ bit_at s i - bit_at w i) c.single.ensures c.minus-rest.ensures.members)
    (subst (λ (w : ℕ). rest + bit_and w s ≡ s) c.single.ensures c.minus-rest.ensures.rest)
    (c.union-exchanged.ensures ∙ ap (λ (w : ℕ). bit_or rest w) c.single-2.ensures)
    (subst₂ (λ (a b : ℕ). a < b) c.number.ensures c.number-then-has.ensures c.if-number.true)
    (OnTrue_at e c.have_one_entropy.ensures))
