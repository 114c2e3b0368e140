use Rattle.std.proofs.Common.{◌++◌, [], ◌∷◌}
use Rattle.it_forms.specs.declared.types.Symbol.TheVariants.{Comma}
use Rattle.it_forms.specs.Words.{symbol}
use Rattle.it_question.specs.QuestionForms.{once, more_once}
use Rattle.it_syntax.specs.NamesViews.{index_of}
use Rattle.it_syntax.proofs.Loops.{symbol_goes, symbol_stops, symbol_ends, rest_is_shorter}
use Rattle.it_question.proofs.rates.more_rates.Goals as goal

pub loop-cursor-smaller : goal.loop-cursor-smaller
loop-cursor-smaller c = rest_is_shorter (symbol Comma) _ _ _ _ _ _ c.loop-cursor-test.ensures.taken c.in-Ok.ensures

pub loop-cursor-preserved : goal.loop-cursor-preserved
unfolding more_once
loop-cursor-preserved c = rw c.in_ok-add-in-Ok.ensures.added (symbol_goes Comma (once (index_of c.args.names.now.rates))
    (λ seen i. seen ++ i ∷ []) c.loop-cursor.found.items c.in-Ok.next _ _ _ _ c.loop-cursor-test.ensures.taken
    (rw (← c.as_slice.ensures.value) c.in-Ok.ensures) c.loop-cursor.invariant)

pub returns-in-Err : goal.returns-in-Err
unfolding more_once
returns-in-Err c = symbol_stops Comma (once (index_of c.args.names.now.rates))
    (λ seen i. seen ++ i ∷ []) c.loop-cursor.found.items _ _ _ c.in-Err.stop _ c.loop-cursor-test.ensures.taken
    (rw (← c.as_slice.ensures.value) c.in-Err.ensures) c.loop-cursor.invariant

pub returns : goal.returns
unfolding more_once
returns c = rw c.loop-cursor-test.ensures.same (symbol_ends Comma (once (index_of c.args.names.now.rates))
    (λ seen i. seen ++ i ∷ []) c.loop-cursor.found.items _ _ c.loop-cursor-test.ensures.none c.loop-cursor.invariant)
