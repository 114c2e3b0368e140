use Rattle.std.proofs.Common.{◌≡◌, ◌+◌, ℕ, List, length, drop, length-drop, subst, sym, ap, refl, ◌∙◌, arith, None, Some}
use Rattle.it_syntax.specs.declared.types.Misspelling.{Misspelling}
use Rattle.it_syntax.specs.declared.types.Token.{Token}
use Rattle.it_syntax.specs.ReaderSteps.{IsTokenPrefix}
use Rattle.it_syntax.specs.Misspellings.{IsWrong}
use Rattle.it_syntax.proofs.MisspellingLemmas.{GoesOn, goes_on_more, ends_blank, ends_wrong, until_in_line}
use Rattle.it_syntax.proofs.TokenLemmas.{shape_some, shape_text, empty_len}
use Rattle.it_syntax.proofs.cutting.line_tokens.Goals as goal

pub returns-then-is_empty-clause-read : goal.returns-then-is_empty-clause-read
returns-then-is_empty-clause-read c =
    ends_blank c.args.line.now c.loop-body.tokens.items c.loop-body.at c.spaces-gap.result c.loop-body.rest.now c.spaces-gap.ensures
    (sym (ap length c.bytes_after-body.ensures) ∙ empty_len _ c.if-is_empty.ensures) c.loop-body.invariant.0

pub returns-then-is_empty-clause-inside : goal.returns-then-is_empty-clause-inside
returns-then-is_empty-clause-inside c =
    until_in_line c.args.line.now c.loop-body.tokens.items None (ends_blank c.args.line.now c.loop-body.tokens.items c.loop-body.at
    c.spaces-gap.result c.loop-body.rest.now c.spaces-gap.ensures (sym (ap length c.bytes_after-body.ensures)
    ∙ empty_len _ c.if-is_empty.ensures) c.loop-body.invariant.0)

pub returns-in-Err-clause-read : goal.returns-in-Err-clause-read
returns-in-Err-clause-read c =
    let m : Misspelling = record { column = c.loop-body.at + c.spaces-gap.result + 1; code = c.in-Err.code } in
    ends_wrong c.args.line.now c.loop-body.tokens.items c.loop-body.at c.spaces-gap.result c.loop-body.rest.now m c.spaces-gap.ensures
    (subst (IsWrong c.in-Err.code) c.bytes_after-body.ensures c.in-Err.ensures.wrong) refl c.loop-body.invariant.0

pub returns-in-Err-clause-inside : goal.returns-in-Err-clause-inside
returns-in-Err-clause-inside c =
    let m : Misspelling = record { column = c.loop-body.at + c.spaces-gap.result + 1; code = c.in-Err.code } in
    until_in_line c.args.line.now c.loop-body.tokens.items (Some m) (ends_wrong c.args.line.now c.loop-body.tokens.items c.loop-body.at
    c.spaces-gap.result c.loop-body.rest.now m c.spaces-gap.ensures (subst
    (IsWrong c.in-Err.code) c.bytes_after-body.ensures c.in-Err.ensures.wrong) refl c.loop-body.invariant.0)

pub bytes_after-rest-requires : goal.bytes_after-rest-requires
bytes_after-rest-requires c = (shape_text c.in-Ok.shape.0 c.in-Ok.shape.1 c.bytes_after-body.result.now c.in-Ok.ensures.shape).1.1

pub loop-body-smaller : goal.loop-body-smaller
loop-body-smaller c =
    omega (
      arith,
      ap length c.bytes_after-rest.ensures,
      ap length c.bytes_after-body.ensures,
      length-drop c.in-Ok.shape.1
          c.bytes_after-body.result.now,
      length-drop c.spaces-gap.result c.loop-body.rest.now,
      c.spaces-gap.ensures.within,
      shape_some
          c.in-Ok.shape.0 c.in-Ok.shape.1 c.bytes_after-body.result.now c.in-Ok.ensures.shape,
      (shape_text c.in-Ok.shape.0 c.in-Ok.shape.1 c.bytes_after-body.result.now c.in-Ok.ensures.shape).1.1,
    )

pub loop-body-preserved : goal.loop-body-preserved
loop-body-preserved c =
    let n = c.in-Ok.shape.1 in
    let start = c.loop-body.at + c.spaces-gap.result in
    let t : Token = record { kind = c.in-Ok.shape.0; start = start; end = start + n } in
    let shape : IsTokenPrefix c.in-Ok.shape.0 n (drop c.spaces-gap.result c.loop-body.rest.now) = subst
    (λ (b : List ℕ). IsTokenPrefix c.in-Ok.shape.0 n b) c.bytes_after-body.ensures c.in-Ok.ensures.shape in
    let w = goes_on_more c.args.line.now c.loop-body.tokens.items c.loop-body.at c.spaces-gap.result n c.loop-body.rest.now t
    c.spaces-gap.ensures shape refl refl c.loop-body.invariant.0 in
    let rest_is : c.bytes_after-rest.result.now ≡ drop n (drop c.spaces-gap.result c.loop-body.rest.now) = c.bytes_after-rest.ensures
    ∙ ap (drop n) c.bytes_after-body.ensures in (
      subst (λ (r : List ℕ). GoesOn c.args.line.now c.push.new.self.items (start + n) r) (sym rest_is)
          (subst (λ (ts : List Token). GoesOn c.args.line.now ts (start + n) (drop n (drop c.spaces-gap.result c.loop-body.rest.now)))
          (sym c.in-Ok-push.ensures.items) w),
      omega (
        arith,
        ap length rest_is,
        length-drop n (drop c.spaces-gap.result c.loop-body.rest.now),
        length-drop c.spaces-gap.result
            c.loop-body.rest.now,
        c.spaces-gap.ensures.within,
        c.loop-body.invariant.1,
        (shape_text c.in-Ok.shape.0 n (drop c.spaces-gap.result c.loop-body.rest.now) shape).1.1,
      ),
    )
