use Rattle.std.proofs.Common.{ℕ, sym, subst, ◌∙◌}
use Rattle.std.proofs.lemmas.Bool.{eqb-true}
use Rattle.it_space.specs.Rows.{point_of}
use Rattle.it_facts.specs.Settling.{Follows}
use Rattle.it_facts.proofs.PointLemmas.{empty_follows, follows_by_item}
use Rattle.it_facts.proofs.settling.follows.Goals as goal

pub returns-then-eq : goal.returns-then-eq
returns-then-eq c =
    let n = c.args.space.variables in
    subst (λ (s : ℕ). Follows n (point_of c.args.point.now) c.args.facts.now s)
    (sym (eqb-true c.args.set c.empty.result (sym c.if-eq.ensures) ∙ c.empty.ensures))
    (empty_follows n c.args.point.now c.args.facts.now)

pub returns-then-settles : goal.returns-then-settles
returns-then-settles c =
    follows_by_item c.args.space.variables (point_of c.args.point.now) c.args.facts.now c.args.set c.loop-fact.fact-index c.fact-item.result
    c.loop-fact-test.true c.fact-item.is c.if-settles.ensures
