use Rattle.std.proofs.Common.{◌≡◌, ℕ, ℤ, List, length, map, subst}
use Rattle.it_space.specs.Answers.{certificate_view}
use Rattle.it_polymatroid.specs.Elementals.{elementals}
use Rattle.it_origins.specs.Origins.{IsOrigin}
use Rattle.it_terms.specs.Sums.{by_constraint}
use Rattle.it_terms.proofs.OriginLemmas.{comes_from}
use Rattle.it_terms.proofs.row_origins.row_origin.Goals as goal

pub returns : goal.returns
returns c =
    let p = c.in_ok-posed.posed in
    let row = c.args.row.now in
    let certificate = c.in-Some.certificate in
    let weights = c.in_ok-weights.weights.items in
    let origin : IsOrigin p row (certificate_view certificate) = rw c.in-Some.is at c.in_ok-certificate.ensures in
    let space = c.space-space.ensures.value in
    comes_from c.args.question.now.body p row (certificate_view certificate) weights c.in_ok-posed.ensures
    (rw space at c.if-not-is_over.ensures) origin
    (subst (λ (ws : List (ℕ × ℤ)). weights ≡ map (by_constraint (length (elementals p.space.variables))) ws) c.as_slice.ensures.value
    (rw space at c.in_ok-weights.ensures))
