use Rattle.std.proofs.Common.{◌≡◌, ◌-◌, ◌<◌, ◌^◌, rules, ℕ, Some, bit_or, sym, ◌∙◌, arith}
use Rattle.it_closure.specs.Closures.{first_open}
use Rattle.it_closure.proofs.ClosingLoop.{way_start, way_more, way_grows, way_done}
use Rattle.it_closure.proofs.dependences.closure.Goals as goal

pub loop-open-init : goal.loop-open-init
loop-open-init c = let l : c.args.set < 2 ^ 16 = search rules in way_start 16 c.args.list.now c.args.set c.requires.below l

smaller_difference : (a b : ℕ) → a < b → a < 2 ^ 16 → 2 ^ 16 - b < 2 ^ 16 - a
smaller_difference a b h l = omega arith

pub loop-open-smaller : goal.loop-open-smaller
loop-open-smaller c =
    let e : first_open c.args.list.now c.loop-open.all ≡ Some c.in-Some.open = sym c.first_open.ensures ∙ c.in-Some.is in
    rw c.union-all.ensures (smaller_difference c.loop-open.all (bit_or c.loop-open.all c.in-Some.open.to)
    (way_grows 16 c.args.list.now c.loop-open.all c.in-Some.open c.requires.below e) c.loop-open.invariant.below)

pub loop-open-preserved : goal.loop-open-preserved
loop-open-preserved c =
    let l : c.args.set < 2 ^ 16 = search rules in
    let e : first_open c.args.list.now c.loop-open.all ≡ Some c.in-Some.open = sym c.first_open.ensures ∙ c.in-Some.is in
    rw c.union-all.ensures (way_more 16 c.args.list.now c.args.set c.loop-open.all c.in-Some.open c.requires.below l e c.loop-open.invariant)

pub returns-in-None : goal.returns-in-None
returns-in-None c =
    let l : c.args.set < 2 ^ 16 = search rules in
    way_done 16 c.args.list.now c.args.set c.loop-open.all c.requires.below l (sym c.first_open.ensures ∙ c.in-None.is) c.loop-open.invariant
