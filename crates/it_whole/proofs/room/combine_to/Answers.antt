use Rattle.std.proofs.Common.{◌≤◌, ◌<◌, ◌+◌, ◌*◌, ◌∙◌, ℕ, ℤ, length, unsigned_abs, FitsSigned, to_z-of_z, w64, ap, sym, subst, arith}
use Rattle.it_space.specs.Sums.{number_at}
use Rattle.it_vectors.specs.Combinations.{IsBound}
use Rattle.it_vectors.proofs.Bounds.{sizes, numbers_at_most}
use Rattle.it_whole.proofs.room.combine_to.Goals as goal
use Rattle.it_whole.proofs.room.combine_to.Goals.{In-Some, After-fill}

bound : (c : In-Some) → IsBound c.args.row.now (unsigned_abs c.args.a) c.args.most_by (unsigned_abs c.args.b) 9223372036854775807 c.in-Some.field-0
bound c =
    let fa : FitsSigned w64 c.args.a = c.ranges.a in
    let fb : FitsSigned w64 c.args.b = c.ranges.b in
    subst (λ (k : ℕ). IsBound c.args.row.now k c.args.most_by (unsigned_abs c.args.b) 9223372036854775807 c.in-Some.field-0)
    (c.unsigned_abs.ensures.value ∙ ap unsigned_abs (to_z-of_z fa))
    (subst (λ (k : ℕ). IsBound c.args.row.now c.unsigned_abs.result c.args.most_by k 9223372036854775807 c.in-Some.field-0)
    (c.unsigned_abs-2.ensures.value ∙ ap unsigned_abs (to_z-of_z fb)) c.in-Some.ensures)

-- the sum as a bound
sum_is_bound : (c : In-Some) → (bound c).most * unsigned_abs c.args.a + c.args.most_by * unsigned_abs c.args.b ≤ c.in-Some.field-0
sum_is_bound c = let b = bound c in omega (arith, b.value_is)

-- the numbers in room are short
numbers_are_short : (c : After-fill) (k : ℕ) → k < length c.args.by.now → unsigned_abs (number_at c.fill.new.room k) ≤ 9223372036854775807
numbers_are_short c k l =
    let fa : FitsSigned w64 c.args.a = c.ranges.a in
    let fb : FitsSigned w64 c.args.b = c.ranges.b in
    let d = (goal.at.After-fill c).In-Some in
    let b = bound d in
    let e = simp to_z-of_z at c.fill.ensures.entries in
    subst (λ (z : ℤ). unsigned_abs z ≤ 9223372036854775807) (sym (e k l))
    (let s = numbers_at_most c.args.row.now c.args.by.now c.args.a c.args.b b.most c.args.most_by c.in-Some.field-0 b.at_most
    c.requires.most_by c.requires.even (sum_is_bound d) k l in omega (arith, s, b.within))

pub fill-requires-clause-bound : goal.fill-requires-clause-bound
fill-requires-clause-bound c =
    let fa : FitsSigned w64 c.args.a = c.ranges.a in
    let fb : FitsSigned w64 c.args.b = c.ranges.b in
    let d = (goal.at.fill-requires-clause-bound c).In-Some in
    let b = bound d in
    λ k l. let s = sizes c.args.row.now c.args.by.now c.args.a c.args.b b.most c.args.most_by c.in-Some.field-0 b.at_most
    c.requires.most_by c.requires.even (sum_is_bound d) k l in
    simp to_z-of_z (omega (arith, s, b.within))

pub returns-clause-combined : goal.returns-clause-combined
returns-clause-combined c =
    let fa : FitsSigned w64 c.args.a = c.ranges.a in
    let fb : FitsSigned w64 c.args.b = c.ranges.b in
    let e = simp to_z-of_z at c.fill.ensures.entries in record {
      length_is = c.fill.ensures.length ∙ c.requires.room;
      entries = e;
      small = numbers_are_short (goal.at.returns-clause-combined c).After-fill;
    }
