use Rattle.it_forms.specs.declared.types.Symbol.TheVariants.{Comma}
use Rattle.it_forms.specs.Words.{symbol}
use Rattle.it_question.specs.QuestionForms.{new_name, more_new}
use Rattle.it_question.specs.Sorts.{name_sort_view}
use Rattle.it_syntax.proofs.Loops.{symbol_goes, symbol_stops, symbol_ends, rest_is_shorter}
use Rattle.it_question.proofs.names.more_names.Goals as goal

pub loop-sort-smaller : goal.loop-sort-smaller
loop-sort-smaller c = rest_is_shorter (symbol Comma) _ _ _ _ _ _ c.loop-sort-test.ensures.taken c.in-Ok.ensures

pub loop-sort-preserved : goal.loop-sort-preserved
unfolding more_new
loop-sort-preserved c = symbol_goes Comma (new_name (name_sort_view c.args.sort) c.args.most)
    (λ v more. more) c.loop-sort.names c.new_name.new.names _ _ _ _ c.loop-sort-test.ensures.taken c.in-Ok.ensures c.loop-sort.invariant

pub returns-in-Err : goal.returns-in-Err
unfolding more_new
returns-in-Err c = symbol_stops Comma (new_name (name_sort_view c.args.sort) c.args.most)
    (λ v more. more) c.loop-sort.names _ _ _ c.in-Err.stop _ c.loop-sort-test.ensures.taken c.in-Err.ensures c.loop-sort.invariant

pub returns : goal.returns
unfolding more_new
returns c = rw c.loop-sort-test.ensures.same (symbol_ends Comma (new_name (name_sort_view c.args.sort) c.args.most)
    (λ v more. more) c.loop-sort.names _ _ c.loop-sort-test.ensures.none c.loop-sort.invariant)
