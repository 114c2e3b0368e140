use Rattle.std.proofs.Common.{List, All, map, subst}
use Rattle.std.specs.List.{AllZip}
use Rattle.std.specs.Prelude.{IfSome}
use Rattle.it_space.specs.declared.answers.Answer.{Answer}
use Rattle.it_space.specs.declared.answers.Mark.{Mark}
use Rattle.it_space.specs.Answers.{answer_view, certificate_view}
use Rattle.it_space.specs.Rows.{IsOver, Terms}
use Rattle.it_space.specs.Spaces.{size_of}
use Rattle.it_demand.specs.QuestionSpaces.{space_of}
use Rattle.it_cli.specs.ToldOrigins.{IsToldOrigin}
use Rattle.it_answer.specs.Truth.{region_rows}
use Rattle.it_certificate.specs.OriginReading.{rows_of}
use Rattle.it_cli.proofs.OriginLemmas.{rows_of_problem, told_where_found}
use Rattle.it_cli.proofs.json_lines.told_origins.Goals as goal

pub row_origins-requires : goal.row_origins-requires
row_origins-requires c = let q = c.args.question.now.body in record {
  rows = rw c.as_slice.ensures.value (rows_of_problem q c.in_ok-problem-in-Region.problem c.in_ok-problem-in-Region.ensures c.in-Region.rows.items
      (subst (λ (a : Answer). All (IsOver (size_of (space_of q.names))) (rows_of (answer_view a))) c.in-Region.is c.requires.rows));
}

pub returns-in_ok-origins-in-Region : goal.returns-in_ok-origins-in-Region
returns-in_ok-origins-in-Region c = let p = c.in_ok-problem-in-Region.problem in
    rw c.in-Region.is (told_where_found c.args.question.now.body p c.in_ok-problem-in-Region.ensures c.in-Region.rows.items
    c.in_ok-origins-in-Region.origins
    (subst (λ (rows : List (Mark × Terms)). IfSome c.in_ok-origins-in-Region.origins
    (λ v. AllZip (IsToldOrigin p) (region_rows rows) (map certificate_view v.items))) c.as_slice.ensures.value
    c.in_ok-origins-in-Region.ensures))
