use Rattle.std.proofs.Common.{◌≡◌, ◌+◌, ◌*◌, ◌≤◌, map, drop}
use Rattle.std.specs.List.{fold, sum_by}
use Rattle.it_syntax.specs.Meaning.{relation_view}
use Rattle.it_certificate.specs.ReportSteps.{relation_form_count}
use Rattle.it_certificate.proofs.obligations.rows_form_count.Given as goal

abbrev pub invariant-loop-relation : goal.invariant-loop-relation
invariant-loop-relation l = record {
  rest : fold (λ a r. a + relation_form_count r) l.count (map relation_view (drop l.relation-index l.rows))
      ≡ sum_by relation_form_count (map relation_view l.rows);
  few : l.count ≤ 2 * l.relation-index;
}
