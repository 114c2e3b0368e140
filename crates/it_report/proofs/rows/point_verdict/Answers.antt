use Rattle.std.proofs.Common.{◌+◌, length, sym, subst}
use Rattle.it_space.specs.Rows.{point_of}
use Rattle.it_space.specs.Spaces.{size_of}
use Rattle.it_polymatroid.specs.Elementals.{elementals}
use Rattle.it_elemental.specs.Generators.{generators}
use Rattle.it_report.specs.Steps.{IsVerdictOver}
use Rattle.it_report.proofs.VerdictLemmas.{no_over}
use Rattle.it_report.proofs.rows.point_verdict.Goals as goal

pub returns-clause-over : goal.returns-clause-over
returns-clause-over c =
    let p = c.args.problem.now in
    let bound = size_of p.space + 1 in
    subst (IsVerdictOver bound) (sym c.check_no.ensures) (no_over bound (length (elementals p.space.variables))
    (generators p) c.index-rows-place_named.result (point_of c.args.point.now))
