use Rattle.std.proofs.Common.{rules, ◌≡◌, ◌<◌, ◌≤◌, ◌^◌, ◌++◌, ◌∷◌, [], ◌∙◌, ℕ, ℤ, pos, List, ap, sym, length, unsigned_abs, FitsSigned, to_z-of_z, w32, arith}
use Rattle.std.proofs.lemmas.List.{take_all, take_more}
use Rattle.it_space.specs.Sums.{number_at}
use Rattle.it_whole.specs.WholeRows.{WholeRowView}
use Rattle.it_vectors.proofs.Items.{below_more}
use Rattle.it_whole.proofs.narrow_rows.NarrowRow.from_numbers.Goals as goal

pub loop-k-preserved : goal.loop-k-preserved
loop-k-preserved c =
    let small = c.in-Some.ensures.0 in
    let number = c.in-Some.ensures.1 in
    let f : FitsSigned w32 c.in-Some.number = number_fits c.in-Some.number c.args.limit (ap unsigned_abs number) small c.requires.limit in
    let l : c.loop-k.k < length c.args.numbers.now = search rules in record {
      same = c.in_ok-push.ensures.items ∙ ap (λ (z : ℤ). c.loop-k.short.items ++ z ∷ []) (to_z-of_z f ∙ number)
          ∙ ap (λ (xs : List ℤ). xs ++ number_at c.args.numbers.now c.loop-k.k ∷ []) c.loop-k.invariant.same
          ∙ sym (take_more c.args.numbers.now c.loop-k.k (pos 0) l);
      small = below_more (λ j. unsigned_abs (number_at c.args.numbers.now j) ≤ c.args.limit) c.loop-k.k c.loop-k.invariant.small small;
    }
  where
    number_fits : (z : ℤ) (l : ℕ) {x : ℕ} → unsigned_abs z ≡ x → x ≤ l → l < 2 ^ 31 → FitsSigned w32 z
    number_fits z l e h k = let m : unsigned_abs z < 2 ^ 31 = omega (arith, e, h, k) in search (rules, m)

pub returns-clause-row : goal.returns-clause-row
returns-clause-row c = ap (λ (xs : List ℤ). row xs c.args.denominator) (c.loop-k.invariant.same
    ∙ take_all c.loop-k.k c.args.numbers.now (omega (arith, c.loop-k-test.false, c.loop-k.auto.k-end)))
  where
    row : List ℤ → ℕ → WholeRowView
    row numbers denominator = record { numbers = numbers; denominator = denominator }

pub returns-clause-small : goal.returns-clause-small
returns-clause-small c = λ k l. c.loop-k.invariant.small k (omega (arith, l, c.loop-k-test.false, c.loop-k.auto.k-end))
