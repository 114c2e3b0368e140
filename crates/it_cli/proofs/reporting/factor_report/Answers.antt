use Rattle.std.proofs.Common.{◌++◌, ap, codes, ◌∙◌}
use Rattle.it_factor.specs.Replies.{reply_view}
use Rattle.it_cli.proofs.reporting.factor_report.Goals as goal

pub returns : goal.returns
returns c = record {
  reply = reply_view c.in_ok-replied.replied.reply;
  right = c.in_ok-replied.ensures.right;
  is = c.in_ok-extend_from_slice.ensures.items ∙ ap (λ ys. ys ++ codes "\n") c.in_ok-line.ensures;
}
