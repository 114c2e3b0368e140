use Rattle.std.proofs.Common.{◌≡◌, ◌-◌, ◌++◌, length, [], ◌∷◌, None, refl, arith}
use Rattle.it_forms.specs.Words.{allowed}
use Rattle.it_forms.specs.Forms.{is_of, Punctuation}
use Rattle.it_forms.specs.declared.types.Symbol.TheVariants.{Minus}
use Rattle.it_syntax.specs.LineForms.{signs, term, more_terms}
use Rattle.it_syntax.specs.Meaning.{multiple_from}
use Rattle.it_syntax.specs.ReaderSteps.{known_scope, sign}
use Rattle.it_syntax.proofs.Loops.{each_goes, each_stops, each_ends, rest_is_shorter}
use Rattle.it_syntax.proofs.MultipleLemmas.{one_more_multiple}
use Rattle.it_syntax.proofs.sums.more_terms.Goals as goal

pub loop-negative-init : goal.loop-negative-init
loop-negative-init c = rw (c.in_ok-add.ensures.added, c.new-found.ensures.items) (c.requires.some, λ m e. (refl, e))

pub loop-negative-smaller : goal.loop-negative-smaller
loop-negative-smaller c = rest_is_shorter sign _ _ _ _ _ _ c.in-Some.ensures c.in-Ok.ensures.read

pub loop-negative-preserved : goal.loop-negative-preserved
unfolding more_terms
loop-negative-preserved c =
    let s = known_scope c.args.known.now in
    let found = c.loop-negative.found.items in
    let left : c.saturating_sub-left.result ≡ c.args.most - length found = omega (arith, c.saturating_sub-left.ensures, c.len.ensures) in
    let both = c.in-Ok.ensures.multiple in
    rw c.in_ok-add-in-Ok.ensures.added (
      both.0,
      λ m e. (
        each_goes signs (λ ts l. (None, is_of (Punctuation Minus) l)) (λ ts minus. allowed (c.args.most - length ts)
            (term (multiple_from m ts) s minus)) (λ ts t. ts ++ t ∷ []) found c.in-Some.negative c.in-Ok.next _ _ _ _ c.in-Some.ensures
            (rw (← left, ← (c.loop-negative.invariant.1 m e).1) c.in-Ok.ensures.read) (c.loop-negative.invariant.1 m e).0,
        one_more_multiple m c.loop-negative.so_far c.in-Ok.both found c.in-Ok.next (c.loop-negative.invariant.1 m e).1 both.1,
      ),
    )

pub returns-in-Err-clause-read : goal.returns-in-Err-clause-read
unfolding more_terms
returns-in-Err-clause-read c = λ m e.
    let s = known_scope c.args.known.now in
    let found = c.loop-negative.found.items in
    let left : c.saturating_sub-left.result ≡ c.args.most - length found = omega (arith, c.saturating_sub-left.ensures, c.len.ensures) in
    each_stops signs (λ ts l. (None, is_of (Punctuation Minus) l)) (λ ts minus. allowed (c.args.most - length ts)
    (term (multiple_from m ts) s minus)) (λ ts t. ts ++ t ∷ []) found c.in-Some.negative _ _ _ c.in-Err.stop _ c.in-Some.ensures
    (rw (← left, ← (c.loop-negative.invariant.1 m e).1) c.in-Err.ensures.read) (c.loop-negative.invariant.1 m e).0

pub returns-clause-read : goal.returns-clause-read
unfolding more_terms
returns-clause-read c = λ m e.
    let s = known_scope c.args.known.now in
    rw c.in_default.ensures.1 (each_ends signs (λ ts l. (None, is_of (Punctuation Minus) l))
    (λ ts minus. allowed (c.args.most - length ts) (term (multiple_from m ts) s minus))
    (λ ts t. ts ++ t ∷ []) c.loop-negative.found.items _ _ c.in_default.ensures.0 (c.loop-negative.invariant.1 m e).0)

pub returns-clause-multiple : goal.returns-clause-multiple
returns-clause-multiple c = (c.loop-negative.invariant.0, λ m e. (c.loop-negative.invariant.1 m e).1)
