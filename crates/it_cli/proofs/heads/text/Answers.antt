use Rattle.std.proofs.Common.{IfOk, [], map, sym, subst}
use Rattle.it_copy.specs.CopyLines.{copy_view}
use Rattle.it_cli.specs.Copies.{with_copies}
use Rattle.it_cli.specs.InnerEnds.{IsTextOf, head_mode}
use Rattle.it_cli.specs.declared.heads.Wanted.{Wanted}
use Rattle.it_cli.proofs.heads.text.Goals as goal

pub returns-in-Answers : goal.returns-in-Answers
returns-in-Answers c = subst (λ (w : Wanted). IfOk c.answer_text.result
    (λ t. IsTextOf (head_mode c.args.request.limits w c.args.request.report c.args.request.effort) [] c.args.k
    (with_copies (map copy_view c.args.copies.now) c.args.question.now) t.items))
    (sym c.in-Answers.is) c.answer_text.ensures

pub returns-in-Factors : goal.returns-in-Factors
returns-in-Factors c = subst (λ (w : Wanted). IfOk c.factor_text.result
    (λ t. IsTextOf (head_mode c.args.request.limits w c.args.request.report c.args.request.effort) [] c.args.k
    (with_copies (map copy_view c.args.copies.now) c.args.question.now) t.items))
    (sym c.in-Factors.is) c.factor_text.ensures
