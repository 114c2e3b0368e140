use Rattle.std.proofs.Common.{rules, to_z, of_z, length, ◌≡◌, ◌⊎◌, inl, inr, ◌<◌, ◌≤◌, ◌^◌, ◌+ℤ◌, ◌*ℤ◌, neg_ℤ, ℤ, ℕ, unsigned_abs, FitsSigned, to_z-of_z, w64, ap, sym, subst, ◌∙◌, arith}
use Rattle.std.proofs.lemmas.Bool.{cases_lt}
use Rattle.it_space.specs.Sums.{number_at}
use Rattle.it_vectors.proofs.Items.{set_done, set_rest}
use Rattle.it_vectors.proofs.numbers.combine_tested.Goals as goal

pub next_number-requires-clause-row : goal.next_number-requires-clause-row
next_number-requires-clause-row c = λ k l. at_place k l (cases_lt k c.loop-k.k)
  where
    at_place : (k : ℕ) → k < length c.loop-k.row → (k < c.loop-k.k) ⊎ (c.loop-k.k ≤ k) → unsigned_abs (number_at c.loop-k.row k) < 2 ^ 63
    at_place k l (inl h) = let s = c.loop-k.invariant.small k h in omega (arith, s, c.requires.limit)
    at_place k l (inr h) = subst (λ (z : ℤ). unsigned_abs z < 2 ^ 63) (sym (c.loop-k.invariant.rest k h))
        (c.requires.row k (omega (arith, l, c.loop-k.invariant.same_length)))

pub loop-k-preserved : goal.loop-k-preserved
loop-k-preserved c =
    let l : c.loop-k.k < length c.loop-k.row = omega (arith, c.loop-k-test.true, c.loop-k.invariant.same_length) in
    let s0 = c.in-Some.ensures.0 in
    let s1 = c.in-Some.ensures.1 in
    let f : FitsSigned w64 c.in-Some.number = number_fits c.in-Some.number c.args.limit (ap unsigned_abs s1) s0 c.requires.limit in
    rw (to_z-of_z f) record {
      same_length = search rules;
      done = set_done c.loop-k.row c.loop-k.k c.in-Some.number (λ k z. z ≡ number_at c.args.row.now k *ℤ to_z w64 (of_z w64 c.args.a)
          +ℤ neg_ℤ (number_at c.args.by.now k *ℤ to_z w64 (of_z w64 c.args.b))) l c.loop-k.invariant.done
          (s1 ∙ ap (λ z. z *ℤ to_z w64 (of_z w64 c.args.a) +ℤ neg_ℤ (number_at c.args.by.now c.loop-k.k *ℤ to_z w64 (of_z w64 c.args.b)))
          (c.loop-k.invariant.rest c.loop-k.k (omega arith)));
      small = set_done c.loop-k.row c.loop-k.k c.in-Some.number (λ k z. unsigned_abs z ≤ c.args.limit) l c.loop-k.invariant.small
          (subst (λ (z : ℤ). unsigned_abs z ≤ c.args.limit) (sym s1) s0);
      rest = set_rest c.loop-k.row c.args.row.now c.loop-k.k c.in-Some.number c.loop-k.invariant.rest;
    }
  where
    number_fits : (z : ℤ) (l : ℕ) {x : ℕ} → unsigned_abs z ≡ x → x ≤ l → l < 2 ^ 63 → FitsSigned w64 z
    number_fits z l e h k = let m : unsigned_abs z < 2 ^ 63 = omega (arith, e, h, k) in search (rules, m)
