use Rattle.std.proofs.Common.{rules, ◌≡◌, ◌≤◌, ◌<◌, ◌+◌, ◌*◌, ◌∙◌, ℕ, ℤ, List, length, unsigned_abs, FitsSigned, to_z-of_z, w32, w64, ap, sym, subst, arith}
use Rattle.it_vectors.specs.Combinations.{IsBound, IsCombined}
use Rattle.it_vectors.proofs.Bounds.{sizes, numbers_at_most}
use Rattle.it_vectors.proofs.narrow_numbers.combine.Goals as goal
use Rattle.it_vectors.proofs.narrow_numbers.combine.Goals.{In_ok-sum}

even : (c : In_ok-sum) → length c.args.row.now ≡ length c.by.inside.numbers.now
even c = c.requires.even ∙ ap length (sym c.by.view_is)

bound : (c : In_ok-sum) → IsBound c.args.row.now (unsigned_abs c.in_ok-x.x) c.by.inside.most (unsigned_abs c.in_ok-y.y) c.args.limit c.in_ok-sum.sum
bound c =
    let fx : FitsSigned w32 c.in_ok-x.x = search rules in
    let fy : FitsSigned w32 c.in_ok-y.y = search rules in
    subst (λ (k : ℕ). IsBound c.args.row.now k c.by.inside.most (unsigned_abs c.in_ok-y.y) c.args.limit c.in_ok-sum.sum)
    (c.from.ensures ∙ c.unsigned_abs.ensures.value ∙ ap unsigned_abs (to_z-of_z fx))
    (subst (λ (k : ℕ). IsBound c.args.row.now c.from.result c.by.inside.most k c.args.limit c.in_ok-sum.sum)
    (c.from-2.ensures ∙ c.unsigned_abs-2.ensures.value ∙ ap unsigned_abs (to_z-of_z fy)) c.in_ok-sum.ensures)

-- the sum as a bound
sum_is_bound : (c : In_ok-sum) → (bound c).most * unsigned_abs c.in_ok-x.x + c.by.inside.most * unsigned_abs c.in_ok-y.y ≤ c.in_ok-sum.sum
sum_is_bound c = let b = bound c in omega (arith, b.value_is)

pub combine_plain-requires-clause-bound : goal.combine_plain-requires-clause-bound
combine_plain-requires-clause-bound c =
    let fx : FitsSigned w32 c.in_ok-x.x = search rules in
    let fy : FitsSigned w32 c.in_ok-y.y = search rules in
    let d = (goal.at.combine_plain-requires-clause-bound c).In_ok-sum in
    let b = bound d in
    λ k l. let s = sizes c.args.row.now c.by.inside.numbers.now c.in_ok-x.x c.in_ok-y.y b.most c.by.inside.most c.in_ok-sum.sum b.at_most
    c.by.invariant.0 (even d) (sum_is_bound d) k l in
    simp to_z-of_z (omega (arith, s, b.within, c.requires.limit))

pub returns-clause-combined : goal.returns-clause-combined
returns-clause-combined c =
    let fa : FitsSigned w64 c.args.a = c.ranges.a in
    let fb : FitsSigned w64 c.args.b = c.ranges.b in
    let fx : FitsSigned w32 c.in_ok-x.x = search rules in
    let fy : FitsSigned w32 c.in_ok-y.y = search rules in
    let d = (goal.at.returns-clause-combined c).In_ok-sum in
    let b = bound d in
    let e = simp to_z-of_z at c.combine_plain.ensures.entries in
    let x = simp to_z-of_z at c.in_ok-x.ensures in
    let y = simp to_z-of_z at c.in_ok-y.ensures in
    subst (λ (by : List ℤ). IsCombined (length by) c.args.limit c.args.row.now by c.args.a c.args.b c.combine_plain.new.row) c.by.view_is
    (subst (λ (a : ℤ). IsCombined (length c.by.inside.numbers.now) c.args.limit c.args.row.now c.by.inside.numbers.now a c.args.b c.combine_plain.new.row) x
    (subst (λ (b : ℤ). IsCombined (length c.by.inside.numbers.now) c.args.limit c.args.row.now
    c.by.inside.numbers.now c.in_ok-x.x b c.combine_plain.new.row) y record {
      length_is = c.combine_plain.ensures.length ∙ even d;
      entries = e;
      small = λ k l. subst (λ (z : ℤ). unsigned_abs z ≤ c.args.limit) (sym (e k l))
          (let s = numbers_at_most c.args.row.now c.by.inside.numbers.now c.in_ok-x.x c.in_ok-y.y b.most c.by.inside.most c.in_ok-sum.sum b.at_most
          c.by.invariant.0 (even d) (sum_is_bound d) k l in omega (arith, s, b.within));
    }))

pub returns-clause-most : goal.returns-clause-most
returns-clause-most c =
    let fx : FitsSigned w32 c.in_ok-x.x = search rules in
    let fy : FitsSigned w32 c.in_ok-y.y = search rules in
    let d = (goal.at.returns-clause-most c).In_ok-sum in
    let b = bound d in
    let e = simp to_z-of_z at c.combine_plain.ensures.entries in
    λ k l. let h = index_is_within k l c.combine_plain.ensures.length (even d) in
    subst (λ (z : ℤ). unsigned_abs z ≤ c.in_ok-sum.sum) (sym (e k h))
    (numbers_at_most c.args.row.now c.by.inside.numbers.now c.in_ok-x.x c.in_ok-y.y b.most c.by.inside.most c.in_ok-sum.sum b.at_most c.by.invariant.0
    (even d) (sum_is_bound d) k h)
  where
    index_is_within : (k : ℕ) {n m o : ℕ} → k < n → n ≡ m → m ≡ o → k < o
    index_is_within k h e f = omega (arith, h, e, f)
