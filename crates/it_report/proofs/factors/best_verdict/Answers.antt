use Rattle.std.proofs.Common.{◌+◌, IfOk, sym, subst}
use Rattle.it_space.specs.Spaces.{size_of}
use Rattle.it_space.proofs.OptionLemmas.{some_same}
use Rattle.it_report.specs.FactorSteps.{IsFactorVerdictOver}
use Rattle.it_report.proofs.factors.best_verdict.Goals.{in-Least, in-Never, in-Unbounded}
use Rattle.it_report.proofs.factors.best_verdict.Goals as goal

pub returns-clause-over : goal.returns-clause-over
returns-clause-over c v e =
    let size = size_of c.args.problem.now.space + 1 in
    let over : IfOk c.match-best.given (IsFactorVerdictOver size) = elim c.match-best.branch [
      | in-Least w ↦ subst (λ r. IfOk r (IsFactorVerdictOver size)) (sym w.given-is) w.least_verdict-given.ensures.over
      | in-Never w ↦ subst (λ r. IfOk r (IsFactorVerdictOver size)) (sym w.given-is) w.never_verdict-given.ensures.over
      | in-Unbounded w ↦ subst (λ r. IfOk r (IsFactorVerdictOver size)) (sym w.given-is) w.unbounded_verdict-given.ensures.over
    ] in
    subst (IsFactorVerdictOver size) (some_same c.in_ok-verdict.verdict v e) (c.in_ok-verdict.ensures.over size over)
