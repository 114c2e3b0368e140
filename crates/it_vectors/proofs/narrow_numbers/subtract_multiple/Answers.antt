use Rattle.std.proofs.Common.{rules, List, ◌≡◌, ◌≤◌, ◌<◌, ◌+◌, ◌*◌, ◌+ℤ◌, ◌*ℤ◌, neg_ℤ, ◌∙◌, ℕ, ℤ, pos, length, unsigned_abs, FitsSigned, to_z-of_z, w32, w64, ap, sym, subst, arith}
use Rattle.it_number.proofs.Integers.{times_one}
use Rattle.it_space.specs.Sums.{number_at}
use Rattle.it_vectors.specs.Combinations.{combined_number, IsCombined}
use Rattle.it_vectors.proofs.Bounds.{sizes, numbers_at_most}
use Rattle.it_vectors.proofs.narrow_numbers.subtract_multiple.Goals as goal
use Rattle.it_vectors.proofs.narrow_numbers.subtract_multiple.Goals.{In_ok-sum}

even : (c : In_ok-sum) → length c.args.row.now ≡ length c.by.inside.numbers.now
even c = c.requires.even ∙ ap length (sym c.by.view_is)

sum_is : (c : In_ok-sum) → c.in_ok-sum.sum ≡ c.args.most * 1 + c.by.inside.most * unsigned_abs c.in_ok-y.y
sum_is c =
    let fy : FitsSigned w32 c.in_ok-y.y = search rules in
    subst (λ (k : ℕ). c.in_ok-sum.sum ≡ c.args.most * 1 + c.by.inside.most * k)
    (c.from.ensures ∙ c.unsigned_abs.ensures.value ∙ ap unsigned_abs (to_z-of_z fy)) c.in_ok-sum.ensures.some.0

-- the sum as a bound
sum_is_bound : (c : In_ok-sum) → c.args.most * unsigned_abs (pos 1) + c.by.inside.most * unsigned_abs c.in_ok-y.y ≤ c.in_ok-sum.sum
sum_is_bound c = omega (arith, sum_is c)

-- the numbers that are formed
numbers_are : (c : In_ok-sum) (row : List ℤ) → ((k : ℕ) → k < length c.by.inside.numbers.now
    → number_at row k ≡ number_at c.args.row.now k +ℤ neg_ℤ (number_at c.by.inside.numbers.now k *ℤ c.in_ok-y.y))
    → (k : ℕ) → k < length c.by.inside.numbers.now → number_at row k ≡ combined_number c.args.row.now c.by.inside.numbers.now (pos 1) c.in_ok-y.y k
numbers_are c row e k l = e k l ∙ ap (λ z. z +ℤ neg_ℤ (number_at c.by.inside.numbers.now k *ℤ c.in_ok-y.y)) (sym (times_one (number_at c.args.row.now k)))

numbers_are_small : (c : In_ok-sum) (row : List ℤ) → ((k : ℕ) → k < length c.by.inside.numbers.now
    → number_at row k ≡ number_at c.args.row.now k +ℤ neg_ℤ (number_at c.by.inside.numbers.now k *ℤ c.in_ok-y.y))
    → (k : ℕ) → k < length c.by.inside.numbers.now → unsigned_abs (number_at row k) ≤ c.in_ok-sum.sum
numbers_are_small c row e k l = subst (λ (z : ℤ). unsigned_abs z ≤ c.in_ok-sum.sum) (sym (numbers_are c row e k l))
    (numbers_at_most c.args.row.now c.by.inside.numbers.now (pos 1) c.in_ok-y.y c.args.most c.by.inside.most c.in_ok-sum.sum c.requires.most
    c.by.invariant.0 (even c) (sum_is_bound c) k l)

pub subtract_noted-requires-clause-bound : goal.subtract_noted-requires-clause-bound
subtract_noted-requires-clause-bound c =
    let fy : FitsSigned w32 c.in_ok-y.y = search rules in
    let d = (goal.at.subtract_noted-requires-clause-bound c).In_ok-sum in
    λ k l.
    let s = sizes c.args.row.now c.by.inside.numbers.now (pos 1) c.in_ok-y.y c.args.most c.by.inside.most c.in_ok-sum.sum c.requires.most
    c.by.invariant.0 (even d) (sum_is_bound d) k l in
    let t = subst (λ (z : ℤ). unsigned_abs z + unsigned_abs (number_at c.by.inside.numbers.now k *ℤ c.in_ok-y.y) ≤ c.in_ok-sum.sum)
    (times_one (number_at c.args.row.now k)) s in
    simp to_z-of_z (omega (arith, t, c.in_ok-sum.ensures.some.1, c.requires.limit))

pub returns-clause-combined : goal.returns-clause-combined
returns-clause-combined c =
    let fb : FitsSigned w64 c.args.b = c.ranges.b in
    let fy : FitsSigned w32 c.in_ok-y.y = search rules in
    let d = (goal.at.returns-clause-combined c).In_ok-sum in
    let e = simp to_z-of_z at c.subtract_noted.ensures.entries in
    let y = simp to_z-of_z at c.in_ok-y.ensures in
    subst (λ (by : List ℤ). IsCombined (length by) c.args.limit c.args.row.now by (pos 1) c.args.b c.subtract_noted.new.row) c.by.view_is
    (subst (λ (b : ℤ). IsCombined (length c.by.inside.numbers.now) c.args.limit c.args.row.now
    c.by.inside.numbers.now (pos 1) b c.subtract_noted.new.row) y record {
      length_is = c.subtract_noted.ensures.length ∙ even d;
      entries = numbers_are d c.subtract_noted.new.row e;
      small = λ k l. let s = numbers_are_small d c.subtract_noted.new.row e k l in omega (arith, s, c.in_ok-sum.ensures.some.1);
    })

pub returns-clause-most : goal.returns-clause-most
returns-clause-most c =
    let fy : FitsSigned w32 c.in_ok-y.y = search rules in
    let d = (goal.at.returns-clause-most c).In_ok-sum in
    let e = simp to_z-of_z at c.subtract_noted.ensures.entries in
    λ k l. numbers_are_small d c.subtract_noted.new.row e k (index_is_within k l c.subtract_noted.ensures.length (even d))
  where
    index_is_within : (k : ℕ) {n m o : ℕ} → k < n → n ≡ m → m ≡ o → k < o
    index_is_within k h e f = omega (arith, h, e, f)
