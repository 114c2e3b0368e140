use Rattle.std.proofs.Common.{◌≡◌, ap, ◌∙◌}
use Rattle.it_run.proofs.AnswerLemmas.{if_ok}
use Rattle.it_canon.specs.QuestionDemands.{question_origins}
use Rattle.it_print.specs.Lines.{origins_of}
use Rattle.it_factor.specs.Lines.{reply_line}
use Rattle.it_factor.specs.Replies.{reply_view}
use Rattle.it_cli.specs.InnerEnds.{IsFactorText}
use Rattle.it_cli.proofs.LineLemmas.{origins_same}
use Rattle.it_cli.proofs.factoring.factor_line.Goals as goal

pub returns : goal.returns
returns c = let q = c.args.question.now.body
    in if_ok c.reply_line.result (λ t. t.items ≡ reply_line c.args.k q (origins_of c.constraints.result.now)
    (reply_view c.in_ok-replied.replied.reply))
    (λ t. IsFactorText c.args.effort c.args.k q t.items) c.reply_line.ensures (λ t is. record {
      reply = reply_view c.in_ok-replied.replied.reply;
      right = c.in_ok-replied.ensures.right;
      is = is ∙ ap (λ cs. reply_line c.args.k q (origins_of cs) (reply_view c.in_ok-replied.replied.reply)) c.constraints.ensures.value
          ∙ ap (λ xs. reply_line c.args.k q xs (reply_view c.in_ok-replied.replied.reply))
          (origins_same (question_origins q) c.in_ok-replied.replied.problem.constraints c.in_ok-replied.ensures.problem.placed);
    })
