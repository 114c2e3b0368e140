use Rattle.std.proofs.Common.{◌∙◌, codes}
use Rattle.it_facts.proofs.FactTexts.{item_step}
use Rattle.it_tell.specs.CodeTexts.{function_text}
use Rattle.it_tell.proofs.codes.functions_text.Goals as goal

pub loop-function-preserved : goal.loop-function-preserved
loop-function-preserved c =
    rw (c.in_ok-write_function.ensures, c.as_slice.ensures.value)
    (item_step (codes ", ") (λ f. function_text f.items) c.args.functions.now c.loop-function.function-index c.function-item.result c.loop-function.some c.loop-function.out.items c.loop-function-test.true c.function-item.is ∙ c.loop-function.invariant)
