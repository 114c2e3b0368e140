use Rattle.std.proofs.Common.{ℕ, List, ap, subst, sym, ◌∙◌}
use Rattle.it_question.specs.Questions.{verb_view}
use Rattle.it_bounds.specs.Replies.{reply_view}
use Rattle.it_bounds.specs.RowReplies.{IsReplyByRows}
use Rattle.it_bounds.proofs.PrintLemmas.{reply_printable}
use Rattle.it_bounds.proofs.ToldLemmas.{told_reply}
use Rattle.it_bounds.proofs.RightLemmas.{right_bound}
use Rattle.it_bounds.proofs.replying.reply_under.Goals as goal

pub returns-in_ok-bound-in-Eliminate-clause-right : goal.returns-in_ok-bound-in-Eliminate-clause-right
returns-in_ok-bound-in-Eliminate-clause-right c =
    let p = c.args.problem.now in
    let reply = c.in_ok-bound-in-Eliminate.bound in
    right_bound c.args.question.now.body p c.requires.problem c.args.file c.args.limits c.in-Eliminate.rates.items c.facts.ensures
    c.requires.few_rows (sym c.verb.ensures.value ∙ ap verb_view c.in-Eliminate.is) (reply_view reply)
    (subst (λ (gone : List ℕ). IsReplyByRows c.args.file c.args.limits p gone (reply_view reply)) c.as_slice.ensures.value c.in_ok-bound-in-Eliminate.ensures)

pub returns-in_ok-bound-in-Eliminate-clause-printable : goal.returns-in_ok-bound-in-Eliminate-clause-printable
returns-in_ok-bound-in-Eliminate-clause-printable c =
    let p = c.args.problem.now in
    let reply = c.in_ok-bound-in-Eliminate.bound in
    reply_printable c.args.question.now.body p c.requires.problem c.args.file c.args.limits c.in-Eliminate.rates.items c.facts.ensures
    c.requires.few_rows (sym c.verb.ensures.value ∙ ap verb_view c.in-Eliminate.is) reply
    (subst (λ (gone : List ℕ). IsReplyByRows c.args.file c.args.limits p gone (reply_view reply)) c.as_slice.ensures.value c.in_ok-bound-in-Eliminate.ensures)

pub returns-in_ok-bound-in-Eliminate-clause-told : goal.returns-in_ok-bound-in-Eliminate-clause-told
returns-in_ok-bound-in-Eliminate-clause-told c =
    let reply = c.in_ok-bound-in-Eliminate.bound in
    told_reply c.args.question.now.body _ c.in-Eliminate.rates.items c.facts.ensures (sym c.verb.ensures.value ∙ ap verb_view c.in-Eliminate.is) reply
    (reply_printable c.args.question.now.body c.args.problem.now c.requires.problem c.args.file c.args.limits c.in-Eliminate.rates.items
    c.facts.ensures c.requires.few_rows (sym c.verb.ensures.value ∙ ap verb_view c.in-Eliminate.is) reply
    (subst (λ (gone : List ℕ). IsReplyByRows c.args.file c.args.limits c.args.problem.now gone (reply_view reply)) c.as_slice.ensures.value
    c.in_ok-bound-in-Eliminate.ensures))
