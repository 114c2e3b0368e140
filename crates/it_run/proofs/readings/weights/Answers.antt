use Rattle.std.proofs.Common.{◌<◌, ℕ, ◌+◌, List, ap, sym, ◌∙◌, subst, arith}
use Rattle.it_rational.specs.Rational.{Rational}
use Rattle.it_tableau.specs.TableauViews.{height, table}
use Rattle.it_run.proofs.FillingLemmas.{AreWeightsSoFar, weights_skip_null, weights_with_next}
use Rattle.it_run.proofs.readings.weights.Goals as goal
use Rattle.it_run.proofs.readings.weights.Goals.{in-Some+then-not-is_zero+in_ok-push, in-Some+else-not-is_zero, in_default}

pub loop-j-preserved : goal.loop-j-preserved
loop-j-preserved c =
    let t = c.args.tableau.now in
    let within : c.loop-j.j < t.generator_columns = omega (arith, c.loop-j-test.true) in
    elim c.match-weight_of.branch [
      | in-Some+then-not-is_zero+in_ok-push w ↦
          subst (λ (out : List (ℕ × Rational)). AreWeightsSoFar (height t) t.generator_columns (table t) out (c.loop-j.j + 1))
          (sym (ap (λ v. v.items) w.out-is ∙ w.in_ok-push.ensures.items))
          (weights_with_next (height t) t.generator_columns (table t) c.loop-j.out.items c.loop-j.j w.in-Some.weight within
          w.in-Some.ensures.some w.if-not-is_zero.ensures.no c.loop-j.invariant)
      | in-Some+else-not-is_zero w ↦
          subst (λ (out : List (ℕ × Rational)). AreWeightsSoFar (height t) t.generator_columns (table t) out (c.loop-j.j + 1))
          (sym (ap (λ v. v.items) w.out-is))
          (weights_skip_null (height t) t.generator_columns (table t) c.loop-j.out.items c.loop-j.j within
          (sym w.in-Some.ensures.some ∙ w.if-not-is_zero.ensures.yes) c.loop-j.invariant)
      | in_default w ↦
          subst (λ (out : List (ℕ × Rational)). AreWeightsSoFar (height t) t.generator_columns (table t) out (c.loop-j.j + 1))
          (sym (ap (λ v. v.items) w.out-is))
          (weights_skip_null (height t) t.generator_columns (table t) c.loop-j.out.items c.loop-j.j within w.in_default.ensures.none c.loop-j.invariant)
    ]
