use Rattle.std.proofs.Common.{rules, List, subst}
use Rattle.it_space.specs.Rows.{Terms}
use Rattle.it_redundant.specs.ProjectionSteps.{IsAfterRate, StopsBy}
use Rattle.it_redundant.proofs.projection.after_next.Goals as goal

pub returns-in_err-reduced-clause-stop : goal.returns-in_err-reduced-clause-stop
returns-in_err-reduced-clause-stop c =
    let stops = subst (λ (rs : List Terms). StopsBy (IsAfterRate c.args.givens.now c.args.effort c.args.rows rs c.args.rate) c.in_err-reduced.field-0.0)
    c.in_ok-kept.ensures c.in_err-reduced.ensures.stop in
    search (rules, stops)
