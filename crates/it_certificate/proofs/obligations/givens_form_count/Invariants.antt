use Rattle.std.proofs.Common.{◌≡◌, ◌+◌, ◌*◌, ◌≤◌, map, drop}
use Rattle.std.specs.List.{fold, sum_by}
use Rattle.it_syntax.specs.Givens.{given_view}
use Rattle.it_certificate.specs.ReportSteps.{given_form_count}
use Rattle.it_certificate.proofs.obligations.givens_form_count.Given as goal

abbrev pub invariant-loop-given : goal.invariant-loop-given
invariant-loop-given l = record {
  rest : fold (λ a g. a + given_form_count g) l.count (map given_view (drop l.given-index l.givens))
      ≡ sum_by given_form_count (map given_view l.givens);
  few : l.count ≤ 32 * l.given-index;
}
