use Rattle.std.proofs.Common.{◌+◌, ◌<◌, ◌∙◌, ℕ, List, length, slice_index_or, refl, ap, sym, subst, arith}
use Rattle.it_rational.specs.Rational.{Rational}
use Rattle.it_engine.specs.Ends.{IsWeightOf}
use Rattle.it_engine.proofs.Readings.{WeightsSoFar, weights_all, weights_more, weights_null, weights_to, weights_to_next}
use Rattle.it_engine.proofs.reading.weights.Goals as goal
use Rattle.it_engine.proofs.reading.weights.Goals.{then-not-is_zero+in_ok-push, else-not-is_zero}

pub loop-row-preserved : goal.loop-row-preserved
loop-row-preserved c =
    let column : ℕ = slice_index_or c.args.basis.now c.in-Some.row 0 in
    let below : column < length c.args.columns.now = c.in-Some.ensures.2 in
    let reached = weights_to_next c.args.columns.now c.args.rows.now c.args.basis.now c.loop-row.out.items c.loop-row.from c.in-Some.row
    c.in-Some.ensures c.loop-row.invariant.so_far in
    let weight : IsWeightOf c.args.rows.now c.args.basis.now column c.fraction_at-weight.result =
    record { row = c.in-Some.row; within = c.in-Some.ensures.0; basic = refl; value_is = c.fraction_at-weight.ensures } in
    elim c.if-not-is_zero.branch [
      | then-not-is_zero+in_ok-push w ↦ record {
        within = omega (arith, below);
        so_far = subst (λ (out : List (ℕ × Rational)). WeightsSoFar c.args.columns.now c.args.rows.now c.args.basis.now out (column + 1))
            (sym (ap (λ v. v.items) w.out-is ∙ w.in_ok-push.ensures.items))
            (weights_more c.args.columns.now c.args.rows.now c.args.basis.now c.loop-row.out.items column c.fraction_at-weight.result below
            weight w.if-not-is_zero.ensures.no reached);
      }
      | else-not-is_zero w ↦ record {
        within = omega (arith, below);
        so_far = subst (λ (out : List (ℕ × Rational)). WeightsSoFar c.args.columns.now c.args.rows.now c.args.basis.now out (column + 1))
            (sym (ap (λ v. v.items) w.out-is))
            (weights_null c.args.columns.now c.args.rows.now c.args.basis.now c.loop-row.out.items column c.fraction_at-weight.result below
            weight w.if-not-is_zero.ensures.yes reached);
      }
    ]

pub returns : goal.returns
returns c = weights_all c.args.columns.now c.args.rows.now c.args.basis.now c.loop-row.out.items (length c.args.columns.now) (omega arith)
    (weights_to c.args.columns.now c.args.rows.now c.args.basis.now c.loop-row.out.items c.loop-row.from
    (length c.args.columns.now) c.loop-row.invariant.within (omega arith) c.in_default.ensures c.loop-row.invariant.so_far)
