use Rattle.std.proofs.Common.{List, sym, ap, ◌∙◌}
use Rattle.it_syntax.specs.declared.rest.Stop.TheVariants.{Fault}
use Rattle.it_forms.specs.Letters.{Letter}
use Rattle.it_forms.specs.FirstFault.{own_code}
use Rattle.it_question.proofs.CursorLemmas.{later_letters, left_none, left_some, own_code-line}
use Rattle.it_question.proofs.cursor.Cursor.fault.Goals as goal

pub returns-in-Some : goal.returns-in-Some
returns-in-Some c = c.fault.ensures ∙ ap Fault (sym (ap own_code (left_some c.args.self c.in-Some.rest c.in-Some.is)
    ∙ own_code-line c.in-Some.rest (later_letters c.args.self)))

pub returns-in-None : goal.returns-in-None
returns-in-None c = ap (λ (ls : List Letter). Fault (own_code ls)) (sym (left_none c.args.self c.in-None.is))
