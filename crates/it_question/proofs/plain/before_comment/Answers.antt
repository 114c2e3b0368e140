use Rattle.std.proofs.Common.{◌∙◌, sym}
use Rattle.it_question.proofs.PlainLemmas.{before_comment_is}
use Rattle.it_question.proofs.plain.before_comment.Goals as goal

pub returns : goal.returns
returns c = c.split_at.ensures.front ∙ sym (before_comment_is c.args.line.now c.count_before.result c.count_before.ensures)
