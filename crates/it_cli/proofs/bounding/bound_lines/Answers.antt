use Rattle.std.proofs.Common.{◌≡◌, ap, ◌∙◌, sym, subst, [], Bool, true, false, None, IfOk, refl}
use Rattle.it_run.proofs.AnswerLemmas.{if_ok}
use Rattle.it_canon.specs.QuestionDemands.{question_origins}
use Rattle.it_print.specs.Lines.{origins_of}
use Rattle.it_bounds.specs.Lines.{reply_lines}
use Rattle.it_bounds.specs.Replies.{reply_view}
use Rattle.it_rates.specs.Asked.{under_all_lines}
use Rattle.it_bounds.specs.Reports.{IsToldReport}
use Rattle.it_cli.specs.InnerEnds.{IsTextOf}
use Rattle.it_cli.specs.Outputs.{outer_mode}
use Rattle.it_cli.proofs.LineLemmas.{origins_same}
use Rattle.it_cli.proofs.bounding.bound_lines.Goals as goal

pub returns-then-report : goal.returns-then-report
returns-then-report c =
    let q = c.args.question.now in
    subst (λ (b : Bool). IfOk c.reply_report.result (λ t. IsTextOf (outer_mode c.args.file b c.args.limits) [] c.args.k q t.items)) (sym c.if-report.true)
    (if_ok c.reply_report.result (λ t. IsToldReport c.args.limits q (reply_view c.in_ok-replied.replied.reply) t.items)
    (λ t. IsTextOf (outer_mode c.args.file true c.args.limits) [] c.args.k q t.items) c.reply_report.ensures (λ t told. record {
      reply = record { reply = reply_view c.in_ok-replied.replied.reply; steps = told.0 };
      right = record { reply = c.in_ok-replied.ensures.right; steps = told.1 };
      is = told.2;
    }))

pub returns : goal.returns
returns c =
    let q = c.args.question.now.body in
    subst (λ (b : Bool). IfOk c.reply_lines.result (λ t. IsTextOf (outer_mode c.args.file b c.args.limits) [] c.args.k
    c.args.question.now t.items)) (sym c.if-report.false)
    (if_ok c.reply_lines.result (λ t. t.items ≡ reply_lines c.args.limits c.args.k q (origins_of c.constraints.result.now)
    (reply_view c.in_ok-replied.replied.reply))
    (λ t. IsTextOf (outer_mode c.args.file false c.args.limits) [] c.args.k c.args.question.now t.items) c.reply_lines.ensures (λ t is. record {
      reply = record { reply = reply_view c.in_ok-replied.replied.reply; steps = None };
      right = record { reply = c.in_ok-replied.ensures.right; steps = refl };
      is = is ∙ ap (λ cs. reply_lines c.args.limits c.args.k q (origins_of cs) (reply_view c.in_ok-replied.replied.reply))
          c.constraints.ensures.value ∙ ap (λ xs. reply_lines c.args.limits c.args.k q xs (reply_view c.in_ok-replied.replied.reply))
          (origins_same (question_origins (under_all_lines q)) c.in_ok-replied.replied.problem.constraints c.in_ok-replied.ensures.problem.placed);
    }))
