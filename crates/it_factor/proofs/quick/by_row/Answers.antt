use Rattle.std.proofs.Common.{rules, pos, sym, subst}
use Rattle.it_space.specs.Answers.{certificate_view}
use Rattle.it_space.specs.Rows.{Terms, IsOver}
use Rattle.it_space.specs.Spaces.{size_of}
use Rattle.it_check.specs.Meaning.{CertifiesRow}
use Rattle.it_prove.specs.ProofViews.{IsSettled, Yes}
use Rattle.it_ratio.proofs.SideSteps.{row_over}
use Rattle.it_factor.specs.QuickSteps.{IsQuickBest}
use Rattle.it_factor.proofs.QuickLemmas.{answer_is_right}
use Rattle.it_factor.proofs.quick.by_row.Goals as goal

pub settle-requires : goal.settle-requires
settle-requires c =
    let size = size_of c.args.sides.now.problem.now.space in
    record {
      target = subst (IsOver size) (sym c.requires.row) (row_over size c.args.trial.factor.num
          (pos c.args.trial.factor.den) c.args.sides.now.left.now c.args.sides.now.right.now);
    }

pub returns-in-Some-Yes : goal.returns-in-Some-Yes
returns-in-Some-Yes c =
    let q = c.args.sides.now.problem.now in
    let w = certificate_view c.in-Some-Yes.proof in
    let settled : IsSettled q c.args.row.now (Yes w) = search rules in
    subst (IsQuickBest q c.args.sides.now.left.now c.args.sides.now.right.now) (sym c.answer.ensures)
    (answer_is_right q c.args.sides.now.left.now c.args.sides.now.right.now c.args.trial.factor c.args.trial.reason w c.requires.trial
    (subst (λ (row : Terms). CertifiesRow q row w) c.requires.row settled.0.0))
