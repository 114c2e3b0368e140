use Rattle.std.proofs.Common.{◌<◌, ◌≡◌, ◌∙◌, List, get_or, length, refl, rules, subst}
use Rattle.it_space.specs.Rows.{Terms}
use Rattle.it_space.specs.Spaces.{size_of}
use Rattle.it_redundant.specs.ProjectionSteps.{IsAfterRate, StopsBy, region_view}
use Rattle.it_redundant.proofs.ProjectionLemmas.{leads_first, leads_more, stops_first, stops_later}
use Rattle.it_redundant.proofs.projection.reduced_elimination.Goals as goal

pub returns-in_err-reduced-clause-stop : goal.returns-in_err-reduced-clause-stop
returns-in_err-reduced-clause-stop c =
    let same = c.in_ok-first.ensures ∙ c.as_slice.ensures.value in
    let stops = stops_first c.args.givens.now c.args.effort c.args.rows (size_of c.args.givens.now.space) c.args.system.now.rows.items c.args.rates.now
    (get_or c.args.rates.now 0 0) c.requires.some refl c.in_err-reduced.field-0.0
    (subst (λ (rows : List Terms). StopsBy (IsAfterRate c.args.givens.now c.args.effort c.args.rows rows (get_or c.args.rates.now 0 0))
    c.in_err-reduced.field-0.0) same c.in_err-reduced.ensures.stop) in
    search (rules, stops)

pub loop-i-init : goal.loop-i-init
loop-i-init c =
    let same = c.in_ok-first.ensures ∙ c.as_slice.ensures.value in
    leads_first c.args.givens.now c.args.effort c.args.rows (size_of c.args.givens.now.space) c.args.system.now.rows.items c.args.rates.now
    (get_or c.args.rates.now 0 0) c.requires.some refl c.in_ok-reduced.reduced
    (subst (λ (rows : List Terms). IsAfterRate c.args.givens.now c.args.effort c.args.rows rows (get_or c.args.rates.now 0 0)
    (region_view c.in_ok-reduced.reduced)) same c.in_ok-reduced.ensures.after) c.in_ok-reduced.ensures.rows

pub returns-in_err-reduced-2-clause-stop : goal.returns-in_err-reduced-2-clause-stop
returns-in_err-reduced-2-clause-stop c =
    let below : c.loop-i.i < length c.args.rates.now = search rules in
    let stops = stops_later c.args.givens.now c.args.effort c.args.rows (size_of c.args.givens.now.space) c.args.system.now.rows.items c.args.rates.now
    c.loop-i.reduced c.loop-i.i (get_or c.args.rates.now c.loop-i.i 0) below refl c.loop-i.invariant
    c.in_err-reduced-2.field-0.0 c.in_err-reduced-2.ensures.stop in
    search (rules, stops)

pub loop-i-preserved : goal.loop-i-preserved
loop-i-preserved c =
    let below : c.loop-i.i < length c.args.rates.now = search rules in
    leads_more c.args.givens.now c.args.effort c.args.rows (size_of c.args.givens.now.space) c.args.system.now.rows.items c.args.rates.now
    c.loop-i.reduced c.loop-i.i (get_or c.args.rates.now c.loop-i.i 0) below refl c.loop-i.invariant
    c.in_ok-reduced-2.reduced c.in_ok-reduced-2.ensures.after c.in_ok-reduced-2.ensures.rows
