use Rattle.std.proofs.Common.{◌≡◌, ℕ, refl, subst, ◌+◌, arith, drop, map}
use Rattle.std.specs.List.{flat_map}
use Rattle.it_syntax.specs.Givens.{given_view, IsGivenOf}
use Rattle.it_demand.specs.Demands.{demands}
use Rattle.it_demand.specs.Origins.{AreStated, line_parts, given_origins}
use Rattle.it_demand.proofs.ZipLemmas.{image-at}
use Rattle.it_demand.proofs.GeneratorLemmas.{givens_wanted, given_origins_wanted, given_origins-split, stated-more, stated-end}
use Rattle.it_demand.proofs.lines.given_constraints.Goals as goal

pub canon_given-requires-clause-within : goal.canon_given-requires-clause-within
canon_given-requires-clause-within c = image-at (IsGivenOf c.args.space.variables) given_view c.args.givens.now c.loop-i.i
    c.index-givens-i.result c.requires.within c.loop-i-test.true c.index-givens-i.is

pub loop-i-preserved : goal.loop-i-preserved
loop-i-preserved c =
    let n : ℕ = c.args.space.variables in
    let i : ℕ = c.loop-i.i in
    stated-more c.args.space (given_origins_wanted n c.args.first) (givens_wanted n) c.args.givens.now i c.index-givens-i.result
    (line_parts (c.args.first + i) (demands n (given_view c.index-givens-i.result))) (demands n (given_view c.index-givens-i.result))
    c.loop-i.constraints.items c.append.new.self.items c.in_ok-parts.parts.items c.loop-i-test.true c.index-givens-i.is
    (given_origins-split n c.args.first i c.index-givens-i.result (drop (i + 1) c.args.givens.now)) refl
    c.in_ok-parts.ensures.constraints c.in_ok-append.ensures.items c.loop-i.invariant

pub returns : goal.returns
returns c =
    let n : ℕ = c.args.space.variables in
    let whole = stated-end c.args.space (given_origins_wanted n c.args.first)
    (givens_wanted n) c.args.givens.now c.loop-i.i c.loop-i.constraints.items c.loop-i-test.false refl refl c.loop-i.invariant in
    let e : c.args.first + 0 ≡ c.args.first = omega arith in
    subst (λ (l : ℕ). AreStated c.args.space (given_origins n l (map given_view c.args.givens.now))
    (flat_map (demands n) (map given_view c.args.givens.now)) c.loop-i.constraints.items) e whole
