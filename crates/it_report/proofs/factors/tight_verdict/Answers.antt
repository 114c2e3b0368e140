use Rattle.std.proofs.Common.{◌+◌, length, sym, subst}
use Rattle.it_space.specs.Rows.{point_of}
use Rattle.it_space.specs.Spaces.{size_of}
use Rattle.it_polymatroid.specs.Elementals.{elementals}
use Rattle.it_elemental.specs.Generators.{generators}
use Rattle.it_report.specs.Steps.{IsVerdictOver}
use Rattle.it_report.proofs.VerdictLemmas.{no_over}
use Rattle.it_report.proofs.factors.tight_verdict.Goals as goal

pub returns-else-is_valid-clause-over : goal.returns-else-is_valid-clause-over
returns-else-is_valid-clause-over c = subst (IsVerdictOver (size_of c.args.problem.now.space + 1)) (sym c.check_no-verdict.ensures)
    (no_over (size_of c.args.problem.now.space + 1) (length (elementals c.args.problem.now.space.variables))
    (generators c.args.problem.now) c.args.below.now (point_of c.args.point.now))
