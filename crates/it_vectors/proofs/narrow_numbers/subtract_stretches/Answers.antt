use Rattle.std.proofs.Common.{rules, to_z, of_z, length, slice_index_or, ◌≡◌, ℕ, ◌<◌, ◌≤◌, ◌+◌, ◌-◌, ◌+ℤ◌, ◌*ℤ◌, neg_ℤ, ◌∙◌, subst, FitsSigned, to_z-of_z, w32, arith}
use Rattle.it_space.specs.Sums.{number_at}
use Rattle.it_vectors.proofs.Stretches.{next_stretch, part_is_done, rest_stays, stretch_is_done}
use Rattle.it_vectors.proofs.narrow_numbers.subtract_stretches.Goals as goal

pub subtract_stretch-requires-clause-stretch : goal.subtract_stretch-requires-clause-stretch
subtract_stretch-requires-clause-stretch c =
    let l : c.loop-j.j + 1 < length c.args.starts.now = search rules in
    let n = next_stretch c.args.by.now c.args.starts.now c.loop-j.j c.requires.stretches l in
    omega (arith, n.after, n.within)

pub loop-j-preserved : goal.loop-j-preserved
loop-j-preserved c =
    let l : c.loop-j.j + 1 < length c.args.starts.now = search rules in
    let n = next_stretch c.args.by.now c.args.starts.now c.loop-j.j c.requires.stretches l in
    let from = slice_index_or c.args.starts.now c.loop-j.j 0 in
    let next = slice_index_or c.args.starts.now (c.loop-j.j + 1) 0 in
    let b = to_z w32 (of_z w32 c.args.b) in record {
      same_length = c.subtract_stretch.ensures.length ∙ c.loop-j.invariant.same_length;
      done = stretch_is_done c.loop-j.row c.args.row.now c.args.by.now c.subtract_stretch.new.row b from
          (from + 8) c.loop-j.invariant.done c.loop-j.invariant.rest
          c.subtract_stretch.ensures.before c.subtract_stretch.ensures.part next (omega arith) n c.subtract_stretch.ensures.after;
      rest = rest_stays c.loop-j.row c.args.row.now c.args.by.now c.subtract_stretch.new.row b from (from + 8) c.loop-j.invariant.done c.loop-j.invariant.rest
          c.subtract_stretch.ensures.before c.subtract_stretch.ensures.part next (omega arith) n c.subtract_stretch.ensures.after;
    }

pub returns-clause-entries : goal.returns-clause-entries
returns-clause-entries c =
    let fb : FitsSigned w32 c.args.b = c.ranges.b in
    let e : c.loop-j.j ≡ length c.args.starts.now - 1 = omega (arith, c.loop-j.auto.j-end, c.loop-j-test.false) in
    let from = slice_index_or c.args.starts.now (length c.args.starts.now - 1) 0 in
    let b = to_z w32 (of_z w32 c.args.b) in
    let done = subst (λ (j : ℕ). (k : ℕ) → k < slice_index_or c.args.starts.now j 0
    → number_at c.loop-j.row k ≡ number_at c.args.row.now k +ℤ neg_ℤ (number_at c.args.by.now k *ℤ b)) e c.loop-j.invariant.done in
    let rest = subst (λ (j : ℕ). (k : ℕ) → slice_index_or c.args.starts.now j 0 ≤ k → number_at c.loop-j.row k ≡ number_at c.args.row.now k)
    e c.loop-j.invariant.rest in
    let all = part_is_done c.loop-j.row c.args.row.now c.args.by.now c.subtract_part.new.row b from
    (length c.loop-j.row) done rest c.subtract_part.ensures.before c.subtract_part.ensures.part in
    let entries = simp to_z-of_z at all in
    λ k h. entries k (omega (arith, h, c.loop-j.invariant.same_length, c.requires.even))
