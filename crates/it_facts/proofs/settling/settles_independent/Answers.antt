use Rattle.std.proofs.Common.{ℕ, ℤ, refl}
use Rattle.std.proofs.lemmas.Bool.{OnTrue_at, OnTrue_from}
use Rattle.it_space.specs.Rows.{point_of}
use Rattle.it_facts.specs.Settling.{Settles}
use Rattle.it_facts.specs.declared.facts.Fact.TheVariants.{Independent}
use Rattle.it_facts.proofs.PointLemmas.{independent_settles}
use Rattle.it_facts.proofs.settling.settles_independent.Goals as goal

pub returns-then-not-is_single : goal.returns-then-not-is_single
returns-then-not-is_single c =
    let n = c.args.n in
    let p : ℕ → ℤ = point_of c.args.point.now in
    OnTrue_from c.are_independent.result (Settles n p c.args.set (Independent c.args.whole)) (λ e.
    independent_settles n p c.args.set c.args.whole c.requires.few c.requires.below (c.if-inside.ensures.0 refl)
    (c.if-not-is_single.ensures) (OnTrue_at e c.are_independent.ensures))
