use Rattle.std.proofs.Common.{◌≡◌, drop, map, length}
use Rattle.it_space.specs.Answers.{certificate_view}
use Rattle.it_report.specs.RowVerdicts.{proofs_verdict}
use Rattle.it_report.proofs.rows.proofs_verdict.Given as goal

abbrev pub invariant-loop-i : goal.invariant-loop-i
invariant-loop-i l = record {
  end : l.i-end ≡ length l.rows;
  rest : proofs_verdict l.problem (drop l.i l.rows) (map certificate_view (drop l.i l.proofs))
      ≡ proofs_verdict l.problem l.rows (map certificate_view l.proofs);
}
