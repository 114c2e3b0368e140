use Rattle.std.proofs.Common.{◌≡◌, IfOk, ap, subst, ◌∙◌, map, false, codes}
use Rattle.it_print.specs.Lines.{joined_texts}
use Rattle.it_tell.specs.CodeTexts.{function_text}
use Rattle.it_tell.proofs.CodeLemmas.{functions_same}
use Rattle.it_tell.proofs.codes.variable_functions.Goals as goal

pub returns : goal.returns
returns c =
    subst (λ x. IfOk c.functions_text.result (λ t. t.items ≡ x))
    (ap (λ fs. joined_texts (codes ", ") false (map (λ f. function_text f.items) fs)) c.as_slice.ensures.value ∙ functions_same c.args.variable.now)
    c.functions_text.ensures
