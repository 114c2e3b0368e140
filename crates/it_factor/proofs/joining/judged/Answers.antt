use Rattle.std.proofs.Common.{◌≡◌, rules, pos, sym, subst, length}
use Rattle.it_space.specs.Rows.{Terms, IsOver, point_of, value}
use Rattle.it_space.specs.Spaces.{size_of}
use Rattle.it_elemental.specs.Generators.{generators}
use Rattle.it_polymatroid.specs.Elementals.{elementals}
use Rattle.it_check.specs.Verdicts.{no_verdict}
use Rattle.it_check.specs.declared.verdicts.Verdict.TheVariants.{Valid}
use Rattle.it_best.proofs.RowLemmas.{negated_up}
use Rattle.it_factor.proofs.QuickLemmas.{never_is_right}
use Rattle.it_factor.proofs.joining.judged.Goals as goal

pub check_no-requires-clause-target : goal.check_no-requires-clause-target
check_no-requires-clause-target c =
    let size = size_of c.args.sides.now.problem.now.space in
    subst (IsOver size) (sym c.requires.negated) (negated_up size c.args.sides.now.right.now c.requires.sides.right)

pub returns-in-Valid : goal.returns-in-Valid
returns-in-Valid c =
    let q = c.args.sides.now.problem.now in
    let zero : value c.args.sides.now.left.now (point_of c.args.point) ≡ pos 0 = search rules in
    never_is_right q c.args.sides.now.left.now c.args.sides.now.right.now c.args.point c.requires.sides.problem c.requires.sides.right c.requires.complete
    (subst (λ (row : Terms). Valid ≡ no_verdict (length (elementals q.space.variables)) (generators q) row (point_of c.args.point))
    c.requires.negated c.in-Valid.ensures) zero
