use Rattle.std.proofs.Common.{ℕ, length, ap, subst, sym, ◌∙◌}
use Rattle.it_canon.specs.QuestionDemands.{question_origins}
use Rattle.it_print.specs.Lines.{IsPrintable, origins_of}
use Rattle.it_cli.proofs.LineLemmas.{few_constraints, origins_same}
use Rattle.it_tell.proofs.lines.answered_text.Goals as goal

pub head_line-requires : goal.head_line-requires
head_line-requires c =
    let q = c.args.question.now.body in
    let p = c.in_ok-problem.problem in
    record {
      printable = subst (λ (n : ℕ). IsPrintable q n c.args.answer.now) (sym
          (ap length c.constraints-constraints.ensures.value
          ∙ few_constraints q p.space p.constraints c.in_ok-problem.ensures.poses.constraints)) c.requires.printable;
    }

pub write_details-requires-clause-origins : goal.write_details-requires-clause-origins
write_details-requires-clause-origins c =
    let q = c.args.question.now.body in
    let p = c.in_ok-problem.problem in
    ap origins_of c.constraints-constraints.ensures.value ∙ origins_same (question_origins q) p.constraints c.in_ok-problem.ensures.poses.constraints.placed

pub write_details-requires-clause-printable : goal.write_details-requires-clause-printable
write_details-requires-clause-printable c =
    let q = c.args.question.now.body in
    let p = c.in_ok-problem.problem in
    subst (λ (n : ℕ). IsPrintable q n c.args.answer.now) (sym
    (ap length c.constraints-constraints.ensures.value
    ∙ few_constraints q p.space p.constraints c.in_ok-problem.ensures.poses.constraints)) c.requires.printable
