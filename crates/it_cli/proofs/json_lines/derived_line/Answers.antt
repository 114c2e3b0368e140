use Rattle.std.proofs.Common.{ℕ, List, ◌++◌, Option, Some, None, map, option_map, codes, ap, sym, subst, ◌∙◌}
use Rattle.std.specs.Global.{Vec}
use Rattle.it_settings.specs.declared.types.Format.TheVariants.{Derived}
use Rattle.it_space.specs.declared.answers.Certificate.{Certificate}
use Rattle.it_space.specs.Answers.{answer_view, certificate_view}
use Rattle.it_cli.specs.ToldOrigins.{AreToldOrigins, told_report}
use Rattle.it_cli.proofs.OriginLemmas.{report_without, told_of_region}
use Rattle.it_cli.proofs.json_lines.derived_line.Goals as goal

pub region_line-requires-clause-region : goal.region_line-requires-clause-region
region_line-requires-clause-region c = told_of_region c.args.question.now.body (answer_view c.args.answer.now)
    (map certificate_view c.in-Some.origins.items)
    (subst (λ (o : Option (Vec Certificate)). AreToldOrigins Derived c.args.question.now.body (answer_view c.args.answer.now)
    (option_map (λ v. map certificate_view v.items) o)) c.in-Some.is c.in_ok-origins.ensures)

pub returns-in_ok-line-in-Some : goal.returns-in_ok-line-in-Some
returns-in_ok-line-in-Some c = (
  Some (map certificate_view c.in-Some.origins.items),
  subst (λ (o : Option (Vec Certificate)). AreToldOrigins Derived c.args.question.now.body (answer_view c.args.answer.now)
      (option_map (λ v. map certificate_view v.items) o)) c.in-Some.is c.in_ok-origins.ensures,
  c.in_ok-line-in-Some.ensures ∙ ap (λ (ws : List Certificate). told_report c.args.question.now (answer_view c.args.answer.now) (Some (map certificate_view ws)) ++ codes "\n") c.as_slice.ensures.value,
)

pub returns-in_ok-line-in-None : goal.returns-in_ok-line-in-None
returns-in_ok-line-in-None c = (
  None,
  subst (λ (o : Option (Vec Certificate)). AreToldOrigins Derived c.args.question.now.body (answer_view c.args.answer.now)
      (option_map (λ v. map certificate_view v.items) o)) c.in-None.is c.in_ok-origins.ensures,
  c.in_ok-line-in-None.ensures ∙ ap (λ (t : List ℕ). t ++ codes "\n") (sym (report_without c.args.question.now (answer_view c.args.answer.now))),
)
