use Rattle.std.proofs.Common.{rules, ◌<◌, ◌^◌, ℕ, refl, arith}
use Rattle.it_demand.proofs.ChainLemmas.{chained-more, chained-end}
use Rattle.it_demand.proofs.givens.chain.Goals as goal

pub loop-i-preserved : goal.loop-i-preserved
loop-i-preserved c =
    let i : ℕ = c.loop-i.i in
    let here : ℕ = c.index-sets-i.result in
    let low : here < 2 ^ c.args.space.variables = omega (arith, c.requires.within.within i here (omega arith), c.index-sets-i.is) in
    rw c.union-past.ensures (chained-more c.args.space c.args.line _ c.args.sets.now c.loop-i.past i here c.index-sets-i-in-loop-i.result
    c.loop-i.equations.items c.push.new.self.items _
    (omega arith) c.index-sets-i.is c.index-sets-i-in-loop-i.is low (record { row = c.in_ok-row.ensures; kind = refl }) refl
    c.in_ok-push.ensures.items c.loop-i.invariant)

pub returns : goal.returns
returns c = chained-end c.args.space c.args.line _ c.args.sets.now c.loop-i.past c.loop-i.i c.loop-i.equations.items (omega arith)
    (search rules) c.loop-i.invariant
