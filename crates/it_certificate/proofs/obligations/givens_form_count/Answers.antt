use Rattle.std.proofs.Common.{◌≡◌, ◌≤◌, ◌∙◌, rules, arith, ap, length, map, subst, sym}
use Rattle.std.specs.Prelude.{All}
use Rattle.it_syntax.specs.Givens.{IsGivenOf, given_view}
use Rattle.it_demand.proofs.ZipLemmas.{image-at}
use Rattle.std.specs.List.{sum_by}
use Rattle.it_question.specs.OwnLines.{OwnLinesView}
use Rattle.it_certificate.specs.ReportSteps.{given_form_count}
use Rattle.it_certificate.proofs.ObligationLemmas.{given_more}
use Rattle.it_certificate.proofs.obligations.givens_form_count.Goals as goal

pub overflow_add-count : goal.overflow_add-count
overflow_add-count c =
    let n = length c.args.region.now.names.variables in
    let same = c.givens-givens.ensures.value ∙ ap (λ (own : OwnLinesView). own.givens) c.lines.ensures in
    let few : c.given_form_count-count.result ≤ 32 = c.given_form_count-count.ensures.few n
    (image-at (IsGivenOf n) given_view c.givens-givens.result.now c.loop-given.given-index c.given-item.result
    (subst (All (IsGivenOf n)) (sym same) c.requires.givens) c.loop-given-test.true c.given-item.is) in
    search (rules, few)

pub loop-given-preserved : goal.loop-given-preserved
loop-given-preserved c =
    let n = length c.args.region.now.names.variables in
    let same = c.givens-givens.ensures.value ∙ ap (λ (own : OwnLinesView). own.givens) c.lines.ensures in
    let few : c.given_form_count-count.result ≤ 32 = c.given_form_count-count.ensures.few n
    (image-at (IsGivenOf n) given_view c.givens-givens.result.now c.loop-given.given-index c.given-item.result
    (subst (All (IsGivenOf n)) (sym same) c.requires.givens) c.loop-given-test.true c.given-item.is) in
    record {
      rest = given_more c.givens-givens.result.now c.loop-given.given-index c.loop-given.count c.given_form_count-count.result
          (sum_by given_form_count (map given_view c.givens-givens.result.now)) c.given-item.result c.loop-given-test.true c.given-item.is
          c.given_form_count-count.ensures.count c.loop-given.invariant.rest;
      few = let before = c.loop-given.invariant.few in omega (arith, few, before);
    }
