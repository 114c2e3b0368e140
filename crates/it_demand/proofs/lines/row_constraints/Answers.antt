use Rattle.std.proofs.Common.{◌≡◌, ℕ, refl, subst, ◌+◌, arith, [], ◌∷◌, drop, map}
use Rattle.it_syntax.specs.Givens.{IsRelationOf}
use Rattle.it_syntax.specs.Meaning.{relation_view}
use Rattle.it_demand.specs.Demands.{demand_of}
use Rattle.it_demand.specs.Origins.{AreStated, row_origins}
use Rattle.it_demand.proofs.ZipLemmas.{image-at}
use Rattle.it_demand.proofs.GeneratorLemmas.{rows_wanted, row_origins_wanted, row_origins-split, stated-more, stated-end}
use Rattle.it_demand.proofs.lines.row_constraints.Goals as goal

pub canon-requires-clause-within : goal.canon-requires-clause-within
canon-requires-clause-within c = image-at (IsRelationOf c.args.space.variables c.args.space.rates) relation_view c.args.rows.now c.loop-i.i
    c.index-rows-i.result c.requires.within c.loop-i-test.true c.index-rows-i.is

pub loop-i-preserved : goal.loop-i-preserved
loop-i-preserved c =
    let n : ℕ = c.args.space.variables in
    let i : ℕ = c.loop-i.i in
    stated-more c.args.space (row_origins_wanted c.args.first) (rows_wanted n) c.args.rows.now i c.index-rows-i.result
    (row_origins (c.args.first + i) (relation_view c.index-rows-i.result ∷ [])) (demand_of n (relation_view c.index-rows-i.result) ∷ [])
    c.loop-i.constraints.items c.push.new.self.items _ c.loop-i-test.true c.index-rows-i.is
    (row_origins-split c.args.first i c.index-rows-i.result (drop (i + 1) c.args.rows.now)) refl
    (record { placed = (refl, tt); stated = (record { row = c.in_ok-row.ensures; kind = c.kind_of-kind.ensures }, tt) })
    c.in_ok-push.ensures.items c.loop-i.invariant

pub returns : goal.returns
returns c =
    let n : ℕ = c.args.space.variables in
    let whole = stated-end c.args.space (row_origins_wanted c.args.first)
    (rows_wanted n) c.args.rows.now c.loop-i.i c.loop-i.constraints.items c.loop-i-test.false refl refl c.loop-i.invariant in
    let e : c.args.first + 0 ≡ c.args.first = omega arith in
    subst (λ (l : ℕ). AreStated c.args.space (row_origins l (map relation_view c.args.rows.now))
    (map (demand_of n) (map relation_view c.args.rows.now)) c.loop-i.constraints.items) e whole
