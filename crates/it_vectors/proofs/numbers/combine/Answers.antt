use Rattle.std.proofs.Common.{◌≡◌, ◌≤◌, ◌<◌, ◌+◌, ◌*◌, ◌∙◌, ℕ, ℤ, List, length, unsigned_abs, FitsSigned, to_z-of_z, w64, ap, sym, subst, arith}
use Rattle.it_vectors.specs.Combinations.{IsBound, IsCombined}
use Rattle.it_vectors.proofs.Bounds.{sizes, numbers_at_most}
use Rattle.it_vectors.proofs.numbers.combine.Goals as goal
use Rattle.it_vectors.proofs.numbers.combine.Goals.{In-Some}

even : (c : In-Some) → length c.args.row.now ≡ length c.by.inside.numbers.now
even c = c.requires.even ∙ ap length (sym c.by.view_is)

bound : (c : In-Some) → IsBound c.args.row.now (unsigned_abs c.args.a) c.by.inside.most (unsigned_abs c.args.b) c.args.limit c.in-Some.sum
bound c =
    let fa : FitsSigned w64 c.args.a = c.ranges.a in
    let fb : FitsSigned w64 c.args.b = c.ranges.b in
    subst (λ (k : ℕ). IsBound c.args.row.now k c.by.inside.most (unsigned_abs c.args.b) c.args.limit c.in-Some.sum)
    (c.unsigned_abs.ensures.value ∙ ap unsigned_abs (to_z-of_z fa))
    (subst (λ (k : ℕ). IsBound c.args.row.now c.unsigned_abs.result c.by.inside.most k c.args.limit c.in-Some.sum)
    (c.unsigned_abs-2.ensures.value ∙ ap unsigned_abs (to_z-of_z fb)) c.in-Some.ensures)

-- the sum as a bound
sum_is_bound : (c : In-Some) → (bound c).most * unsigned_abs c.args.a + c.by.inside.most * unsigned_abs c.args.b ≤ c.in-Some.sum
sum_is_bound c = let b = bound c in omega (arith, b.value_is)

pub combine_plain-requires-clause-bound : goal.combine_plain-requires-clause-bound
combine_plain-requires-clause-bound c =
    let fa : FitsSigned w64 c.args.a = c.ranges.a in
    let fb : FitsSigned w64 c.args.b = c.ranges.b in
    let d = (goal.at.combine_plain-requires-clause-bound c).In-Some in
    let b = bound d in
    λ k l. let s = sizes c.args.row.now c.by.inside.numbers.now c.args.a c.args.b b.most c.by.inside.most c.in-Some.sum b.at_most c.by.invariant.0
    (even d) (sum_is_bound d) k l in
    simp to_z-of_z (omega (arith, s, b.within, c.requires.limit))

pub returns-in-Some-clause-combined : goal.returns-in-Some-clause-combined
returns-in-Some-clause-combined c =
    let fa : FitsSigned w64 c.args.a = c.ranges.a in
    let fb : FitsSigned w64 c.args.b = c.ranges.b in
    let d = (goal.at.returns-in-Some-clause-combined c).In-Some in
    let b = bound d in
    let e = simp to_z-of_z at c.combine_plain.ensures.entries in
    subst (λ (by : List ℤ). IsCombined (length by) c.args.limit c.args.row.now by c.args.a c.args.b c.combine_plain.new.row) c.by.view_is record {
      length_is = c.combine_plain.ensures.length ∙ even d;
      entries = e;
      small = λ k l. subst (λ (z : ℤ). unsigned_abs z ≤ c.args.limit) (sym (e k l))
          (let s = numbers_at_most c.args.row.now c.by.inside.numbers.now c.args.a c.args.b b.most c.by.inside.most c.in-Some.sum b.at_most
          c.by.invariant.0 (even d) (sum_is_bound d) k l in omega (arith, s, b.within));
    }

pub returns-in-Some-clause-most : goal.returns-in-Some-clause-most
returns-in-Some-clause-most c =
    let fa : FitsSigned w64 c.args.a = c.ranges.a in
    let fb : FitsSigned w64 c.args.b = c.ranges.b in
    let d = (goal.at.returns-in-Some-clause-most c).In-Some in
    let b = bound d in
    let e = simp to_z-of_z at c.combine_plain.ensures.entries in
    λ k l. let h = index_is_within k l c.combine_plain.ensures.length (even d) in
    subst (λ (z : ℤ). unsigned_abs z ≤ c.in-Some.sum) (sym (e k h))
    (numbers_at_most c.args.row.now c.by.inside.numbers.now c.args.a c.args.b b.most c.by.inside.most c.in-Some.sum b.at_most c.by.invariant.0
    (even d) (sum_is_bound d) k h)
  where
    index_is_within : (k : ℕ) {n m o : ℕ} → k < n → n ≡ m → m ≡ o → k < o
    index_is_within k h e f = omega (arith, h, e, f)

pub returns-then-combine_tested-clause-most : goal.returns-then-combine_tested-clause-most
returns-then-combine_tested-clause-most c = λ k l. c.if-combine_tested.ensures.small k (omega (arith, l, c.if-combine_tested.ensures.length_is))
