use Rattle.std.proofs.Common.{◌∙◌, sym, arith}
use Rattle.it_question.proofs.PlaceLemmas.{place_here, place_after}
use Rattle.it_question.proofs.places.place.Goals as goal

pub returns-then-rest-tokens : goal.returns-then-rest-tokens
returns-then-rest-tokens c =
    sym c.place_in.ensures
    ∙ sym (place_here c.args.lines.now c.loop-line.line-index c.loop-line.rest c.line-item.result c.loop-line-test.true c.line-item.is
    (omega (arith, c.if-rest-tokens.true, c.len-tokens.ensures)))
    ∙ c.loop-line.invariant

pub loop-line-preserved : goal.loop-line-preserved
loop-line-preserved c =
    sym (place_after c.args.lines.now c.loop-line.line-index c.loop-line.rest c.len-tokens.result c.line-item.result c.loop-line-test.true
    c.line-item.is (omega (arith, c.len-tokens.ensures)) c.if-rest-tokens.false)
    ∙ c.loop-line.invariant
