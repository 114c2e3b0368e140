use Rattle.std.proofs.Common.{Global, Option, Vec, ap, option_map, subst, ◌∙◌, true}
use Rattle.it_spans.specs.declared.types.Step.{Step}
use Rattle.it_spans.specs.Spans.{step_views}
use Rattle.it_syntax.specs.NamesViews.{NamesView}
use Rattle.it_bounds.specs.Replies.{reply_view}
use Rattle.it_bounds.specs.Reports.{AreToldSteps, unreported}
use Rattle.it_bounds.proofs.ReportLemmas.{bounds_told, misfit_told}
use Rattle.it_bounds.proofs.reporting.told_line.Goals as goal

pub returns-in-Some : goal.returns-in-Some
returns-in-Some c = bounds_told c.args.limits c.args.question.now c.as_slice.result.now c.in_ok-line-in-Some.line.items
    (c.as_slice.ensures.value ∙ c.in_ok-text.ensures) (reply_view c.args.reply.now) (step_views c.in-Some.steps.items)
    c.in_ok-line-in-Some.ensures
    (subst (λ (s : Option (Vec Step Global)). AreToldSteps true c.args.limits c.args.question.now.body
    (reply_view c.args.reply.now) (option_map (λ v. step_views v.items) s)) c.in-Some.is c.in_ok-steps.ensures)

pub returns : goal.returns
returns c = misfit_told c.args.limits c.args.question.now c.as_slice.result.now c.in_ok-line-in-None.line.items
    (c.as_slice.ensures.value ∙ c.in_ok-text.ensures) (reply_view c.args.reply.now) c.as_slice-in-None.result.now
    (c.as_slice-in-None.ensures.value ∙ c.in_ok-words-in-None.ensures
    ∙ ap (λ (v : NamesView). unreported c.args.limits v (reply_view c.args.reply.now)) c.problem_names.ensures.value)
    c.in_ok-line-in-None.ensures
    (subst (λ (s : Option (Vec Step Global)). AreToldSteps true c.args.limits c.args.question.now.body
    (reply_view c.args.reply.now) (option_map (λ v. step_views v.items) s)) c.in-None.is c.in_ok-steps.ensures)
