use Rattle.std.proofs.Common.{rules, ◌^◌, refl}
use Rattle.it_eliminate.specs.Projections.{system_of}
use Rattle.it_eliminate.proofs.EndLemmas.{ends_done, leads_on, stops_on}
use Rattle.it_eliminate.proofs.LawLemmas.{is_projection}
use Rattle.it_eliminate.proofs.elimination.rows_after.Goals as goal

pub returns-in_err-current-2-clause-stop : goal.returns-in_err-current-2-clause-stop
returns-in_err-current-2-clause-stop c =
    let stops = stops_on (2 ^ c.args.space.variables) c.args.most _ c.loop-rate.current.items c.args.rates.now
    c.loop-rate.rate-index c.loop-rate.invariant c.loop-rate.current.items _ refl refl
    c.loop-rate-test.true c.in_err-current-2.field-0.0 c.in_err-current-2.ensures.stop in
    search (rules, stops)

pub loop-rate-preserved : goal.loop-rate-preserved
loop-rate-preserved c = leads_on (2 ^ c.args.space.variables) c.args.most _ c.loop-rate.current.items c.args.rates.now
    c.loop-rate.rate-index c.loop-rate.invariant c.loop-rate.current.items _ refl refl
    c.loop-rate-test.true c.in_ok-current-2.current.items c.in_ok-current-2.ensures.rows

pub returns-clause-ends : goal.returns-clause-ends
returns-clause-ends c = ends_done (2 ^ c.args.space.variables) c.args.most _ c.loop-rate.current.items c.args.rates.now
    c.loop-rate.rate-index c.loop-rate.invariant c.loop-rate-test.false

pub returns-clause-region : goal.returns-clause-region
returns-clause-region c = is_projection c.args.most (system_of c.args.space c.args.rows) (system_of c.args.space c.loop-rate.current)
    c.args.rates.now c.requires.system refl
    (ends_done (2 ^ c.args.space.variables) c.args.most _ c.loop-rate.current.items c.args.rates.now c.loop-rate.rate-index
    c.loop-rate.invariant c.loop-rate-test.false)
