use Rattle.std.proofs.Common.{◌≡◌, ◌++◌, drop, length, min}
use Rattle.it_print.specs.ByConstraints.{proof_lines_by}
use Rattle.it_print.proofs.proof_lines.write_proof_lines.Given as goal

abbrev pub invariant-loop-i : goal.invariant-loop-i
invariant-loop-i l = (l.i-end ≡ min (length l.proofs) (length l.targets))
    × (l.out.items ++ proof_lines_by l.posed (drop l.i l.proofs) (drop l.i l.targets)
    ≡ l.initial.out.items ++ proof_lines_by l.posed l.proofs l.targets)
