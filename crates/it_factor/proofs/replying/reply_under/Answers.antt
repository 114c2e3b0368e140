use Rattle.std.proofs.Common.{length, refl, ap, sym, ◌∙◌}
use Rattle.it_syntax.specs.Meaning.{relation_view}
use Rattle.it_question.specs.Questions.{verb_view}
use Rattle.it_run.proofs.AnswerLemmas.{if_ok}
use Rattle.it_factor.specs.Lines.{IsPrintable}
use Rattle.it_factor.specs.Replies.{reply_view}
use Rattle.it_factor.specs.RightReplies.{IsDueReply}
use Rattle.it_factor.specs.RowReplies.{IsReplyByRows}
use Rattle.it_ratio.specs.Truth.{at_least}
use Rattle.it_factor.proofs.PrintLemmas.{constraint_count, reply_printable}
use Rattle.it_factor.proofs.RightLemmas.{other_is_right, right_reply}
use Rattle.it_factor.proofs.replying.reply_under.Goals as goal

pub returns-in-Prove-clause-right : goal.returns-in-Prove-clause-right
returns-in-Prove-clause-right c =
    let q = c.args.question.now.body in
    let p = c.args.problem.now in
    let r = relation_view c.in-Prove.relation in
    if_ok c.relation_reply.result (λ x. IsReplyByRows p c.args.effort (at_least r.sign r) (reply_view x))
    (λ x. IsDueReply c.args.effort q (reply_view x)) c.relation_reply.ensures
    (λ x by_rows. right_reply q p c.requires.problem c.args.effort r (reply_view x) (sym c.verb.ensures.value ∙ ap verb_view c.in-Prove.is) by_rows)

pub returns-in-Prove-clause-printable : goal.returns-in-Prove-clause-printable
returns-in-Prove-clause-printable c =
    let q = c.args.question.now.body in
    let p = c.args.problem.now in
    let r = relation_view c.in-Prove.relation in
    let m = length c.args.problem.now.constraints in
    if_ok c.relation_reply.result (λ x. IsReplyByRows p c.args.effort (at_least r.sign r) (reply_view x)) (IsPrintable q m) c.relation_reply.ensures
    (λ x by_rows. reply_printable q m (constraint_count q p c.requires.problem) c.args.effort r x c.facts.ensures (sym c.verb.ensures.value ∙ ap verb_view c.in-Prove.is)
    (right_reply q p c.requires.problem c.args.effort r (reply_view x) (sym c.verb.ensures.value ∙ ap verb_view c.in-Prove.is) by_rows))

pub returns-in-Eliminate-clause-right : goal.returns-in-Eliminate-clause-right
returns-in-Eliminate-clause-right c = other_is_right c.args.effort c.args.question.now.body _ (sym c.verb.ensures.value ∙ ap verb_view c.in-Eliminate.is) refl

pub returns-in-Contain-clause-right : goal.returns-in-Contain-clause-right
returns-in-Contain-clause-right c = other_is_right c.args.effort c.args.question.now.body _ (sym c.verb.ensures.value ∙ ap verb_view c.in-Contain.is) refl
