use Rattle.it_forms.specs.declared.types.Symbol.TheVariants.{Semicolon}
use Rattle.it_forms.specs.Words.{symbol}
use Rattle.it_question.specs.QuestionForms.{part, more_parts}
use Rattle.it_syntax.proofs.Loops.{symbol_goes, symbol_stops, symbol_ends, rest_is_shorter}
use Rattle.it_question.proofs.tries.parts.Goals as goal

pub loop-cursor-smaller : goal.loop-cursor-smaller
loop-cursor-smaller c = rest_is_shorter (symbol Semicolon) _ _ _ _ _ _ c.loop-cursor-test.ensures.taken c.in-Ok.ensures

pub loop-cursor-preserved : goal.loop-cursor-preserved
unfolding more_parts
loop-cursor-preserved c = symbol_goes Semicolon (part _ _) (λ sets more. more) c.loop-cursor.sets c.part.new.sets _ _ _ _
    c.loop-cursor-test.ensures.taken c.in-Ok.ensures c.loop-cursor.invariant

pub returns-in-Err : goal.returns-in-Err
unfolding more_parts
returns-in-Err c = symbol_stops Semicolon (part _ _) (λ sets more. more) c.loop-cursor.sets _ _ _ c.in-Err.stop _
    c.loop-cursor-test.ensures.taken c.in-Err.ensures c.loop-cursor.invariant

pub returns : goal.returns
unfolding more_parts
returns c = rw c.loop-cursor-test.ensures.same (symbol_ends Semicolon (part _ _)
    (λ sets more. more) c.loop-cursor.sets _ _ c.loop-cursor-test.ensures.none c.loop-cursor.invariant)
