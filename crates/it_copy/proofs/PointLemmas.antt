-- What holds with copies holds without them.
use Rattle.std.proofs.Common.{ℕ, ℤ, length, sym, subst}
use Rattle.it_syntax.specs.Givens.{IsRelationOf}
use Rattle.it_question.specs.Limits.{IsVerbOver}
use Rattle.it_canon.specs.Agreement.{AgreeOnCommon}
use Rattle.it_canon.proofs.AgreeLemmas.{holds_same}
use Rattle.it_copy.specs.Points.{YesByCopies}

-- the map and its image agree the other way too
negated : (common rates n m : ℕ) (p image : ℕ → ℤ) → AgreeOnCommon common rates n m p image → AgreeOnCommon common rates m n image p
negated common rates n m p image a = record {
  on_sets = λ s h. sym (a.on_sets s h);
  on_rates = λ r h. sym (a.on_rates r h);
}

-- a relation says the same of the declared variables with copies and without them
pub yes_by_copies : YesByCopies
yes_by_copies limits q e cs r within verb extension holds p h =
    let n = length q.names.variables in
    let m = length e.names.variables in
    let relation : IsRelationOf n (length q.names.rates) r = subst (IsVerbOver q.names) verb within.verb in
    holds_same n (length q.names.rates) m n h.image p (negated n (length q.names.rates) n m p h.image h.agree) r relation
    (holds h.image h.polymatroid h.lines_hold)
