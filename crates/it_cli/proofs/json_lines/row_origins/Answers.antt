use Rattle.std.proofs.Common.{rules, ◌≡◌, ◌∷◌, [], ◌++◌, map, Option, ap, ◌∙◌, subst}
use Rattle.std.specs.Prelude.{IfSome}
use Rattle.std.proofs.lemmas.List.{map-append}
use Rattle.it_space.specs.declared.answers.Certificate.{Certificate}
use Rattle.it_space.specs.Answers.{certificate_view}
use Rattle.it_cli.specs.ToldOrigins.{IsToldOrigin}
use Rattle.it_cli.proofs.OriginLemmas.{origins_all, origins_more, row_over}
use Rattle.it_cli.proofs.json_lines.row_origins.Goals as goal

pub told_origin-requires : goal.told_origin-requires
told_origin-requires c = record {
  row = row_over c.args.problem.now c.args.rows.now c.loop-row.row-index c.row-item.result c.requires.rows
      c.loop-row-test.true c.row-item.is;
}

pub loop-row-preserved : goal.loop-row-preserved
loop-row-preserved c =
    let p = c.args.problem.now in
    let pushed : c.push.new.self.items ≡ c.loop-row.origins.items ++ c.in-Some.certificate ∷ [] = search rules in
    let proves : IsToldOrigin p c.row-item.result.1 (certificate_view c.in-Some.certificate) =
    subst (λ (o : Option Certificate). IfSome o (λ w. IsToldOrigin p c.row-item.result.1 (certificate_view w))) c.in-Some.is c.in_ok-found.ensures in
    origins_more p c.args.rows.now (map certificate_view c.loop-row.origins.items)
    (map certificate_view c.push.new.self.items) c.loop-row.row-index c.row-item.result (certificate_view c.in-Some.certificate)
    c.loop-row-test.true c.row-item.is proves (ap (map certificate_view) pushed
    ∙ map-append certificate_view c.loop-row.origins.items (c.in-Some.certificate ∷ [])) c.loop-row.invariant

pub returns : goal.returns
returns c = origins_all c.args.problem.now c.args.rows.now (map certificate_view c.loop-row.origins.items) c.loop-row.row-index
    c.loop-row-test.false c.loop-row.invariant
