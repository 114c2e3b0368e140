use Rattle.std.proofs.Common.{◌≡◌, ◌<◌, ◌+◌, ◌∙◌, ℕ, bit_or, cond, Bool, true, false, get_or, length, drop, sym, ap, refl, arith, List}
use Rattle.std.proofs.lemmas.List.{get_or_default}
use Rattle.std.specs.Int.Bits.{or_zero_r}
use Rattle.it_space.specs.Sets.{has_member}
use Rattle.it_polymatroid.specs.Substitutions.{union_from, union_of_images}
use Rattle.it_polymatroid.proofs.Images.{union-more, union-end}
use Rattle.it_polymatroid.proofs.substitutions.union_of_images.Goals as goal
use Rattle.it_polymatroid.proofs.substitutions.union_of_images.Goals.{then-has, else-has}

-- a step with the variable, or without it
union_step : (sets : List ℕ) (s u v i x : ℕ) (b : Bool) → i < length sets → x ≡ get_or sets i x → has_member s i ≡ b
    → v ≡ bit_or u (cond b x 0) → bit_or u (union_from i (drop i sets) s) ≡ union_of_images sets s
    → bit_or v (union_from (i + 1) (drop (i + 1) sets) s) ≡ union_of_images sets s
union_step sets s u v i x b h is has e inv =
    ap (λ n. bit_or n (union_from (i + 1) (drop (i + 1) sets) s)) (e ∙ ap (λ t. bit_or u (cond t x 0)) (sym has))
    ∙ sym (union-more sets s u i x h is)
    ∙ inv

pub loop-i-preserved : goal.loop-i-preserved
loop-i-preserved c = (
  refl,
  elim c.if-has.branch [
    | then-has w ↦ union_step c.args.sets.now c.args.of c.loop-i.union c.if-has.union c.loop-i.i w.index-sets-i.result true
        c.loop-i-test.true w.index-sets-i.is (sym c.has.ensures ∙ w.if-has.true)
        (w.union-is ∙ w.union-union.ensures) c.loop-i.invariant.1
    | else-has w ↦ union_step c.args.sets.now c.args.of c.loop-i.union c.if-has.union c.loop-i.i (get_or c.args.sets.now c.loop-i.i 0) false c.loop-i-test.true
        (get_or_default c.args.sets.now c.loop-i.i 0 (get_or c.args.sets.now c.loop-i.i 0) c.loop-i-test.true) (sym c.has.ensures ∙ w.if-has.false)
        (w.union-is ∙ sym (or_zero_r c.loop-i.union)) c.loop-i.invariant.1
  ],
)

pub returns : goal.returns
returns c = union-end c.args.sets.now c.args.of c.loop-i.union c.loop-i.i (omega arith) c.loop-i.invariant.1
