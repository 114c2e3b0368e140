use Rattle.std.proofs.Common.{rules, sym, subst}
use Rattle.it_space.specs.Answers.{certificate_view}
use Rattle.it_space.specs.Rows.{Terms, IsOver}
use Rattle.it_space.specs.Spaces.{size_of}
use Rattle.it_check.specs.Meaning.{CertifiesRow}
use Rattle.it_prove.specs.ProofViews.{IsSettled, Yes}
use Rattle.it_best.proofs.JudgeSteps.{negated_certifies}
use Rattle.it_best.proofs.RowLemmas.{negated_up}
use Rattle.it_factor.proofs.quick.first.Goals as goal

pub settle-requires : goal.settle-requires
settle-requires c =
    let size = size_of c.args.sides.now.problem.now.space in
    record { target = subst (IsOver size) (sym c.in_ok-row.ensures) (negated_up size c.args.sides.now.left.now c.requires.sides.left) }

pub returns-in-Some-Yes : goal.returns-in-Some-Yes
returns-in-Some-Yes c =
    let q = c.args.sides.now.problem.now in
    let w = certificate_view c.in-Some-Yes.below in
    let settled : IsSettled q c.in_ok-row.row (Yes w) = search rules in
    negated_certifies q c.args.sides.now.left.now w (subst (λ (row : Terms). CertifiesRow q row w) c.in_ok-row.ensures settled.0.0)
