use Rattle.std.proofs.Common.{◌≡◌, ◌^◌, ◌∙◌, ap, arith, length}
use Rattle.it_elemental.specs.Generators.{generators}
use Rattle.it_columns.specs.Columns.{columns}
use Rattle.it_columns.specs.Scaling.{scale_of}
use Rattle.it_prove.specs.Weights.{numbers_of}
use Rattle.it_columns.proofs.ColumnLemmas.{few_columns, few_generators}
use Rattle.it_prove.proofs.WeightLemmas.{columns_below, terms_canonical, terms_positive}
use Rattle.it_prove.proofs.certificates.certificate.Goals as goal
use Rattle.it_prove.proofs.certificates.certificate.Goals.{In_ok-scale}

scale_is : (c : In_ok-scale) → c.in_ok-scale.scale ≡ scale_of (numbers_of c.args.weights.now)
scale_is c = c.in_ok-scale.ensures.value.1 ∙ ap scale_of (c.as_slice.ensures.value ∙ c.in_ok-numbers.ensures)

pub terms-requires-clause-columns : goal.terms-requires-clause-columns
terms-requires-clause-columns c =
    let n = length (columns (generators c.args.problem.now)) in
    columns_below (2 ^ 32) n 0 c.args.weights.now (omega (
      arith,
      few_columns
          (generators c.args.problem.now),
      few_generators c.args.problem.now c.facts.ensures,
    )) c.requires.ordered

pub new-columns-requires : goal.new-columns-requires
new-columns-requires c =
    let n = length (columns (generators c.args.problem.now)) in
    let same = c.as_slice-2.ensures.value ∙ c.in_ok-scaled.ensures.value in
    let scale = scale_is (goal.at.new-columns-requires c).In_ok-scale in
    record {
      ascend = terms_canonical n c.in_ok-scale.scale c.args.weights.now scale c.requires.ordered c.as_slice-2.result.now same c.in_ok-scaled.ensures.fits;
      least = terms_positive n c.in_ok-scale.scale c.args.weights.now scale c.requires.ordered c.as_slice-2.result.now same;
    }
