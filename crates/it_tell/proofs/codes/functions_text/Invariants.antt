use Rattle.std.proofs.Common.{◌≡◌, ◌++◌, drop, codes, false, map}
use Rattle.it_print.specs.Lines.{joined_texts}
use Rattle.it_tell.specs.CodeTexts.{function_text}
use Rattle.it_tell.proofs.codes.functions_text.Given as goal

abbrev pub invariant-loop-function : goal.invariant-loop-function
invariant-loop-function l = l.out.items ++ joined_texts (codes ", ") l.some (map (λ f. function_text f.items) (drop l.function-index l.functions))
    ≡ joined_texts (codes ", ") false (map (λ f. function_text f.items) l.functions)
