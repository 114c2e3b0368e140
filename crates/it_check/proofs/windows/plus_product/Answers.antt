use Rattle.std.proofs.Common.{rules, ap, sym, ◌∙◌, FitsSigned, to_z-of_z}
use Rattle.it_check.specs.Windows.{plus_product}
use Rattle.it_check.proofs.SumLemmas.{plus_is}
use Rattle.it_check.proofs.windows.plus_product.Goals as goal
use mir.Syntax.{w128}

pub returns : goal.returns
returns c =
    let sum_fits : FitsSigned w128 c.in_ok-sum.field-0 = search rules in
    let a_fits : FitsSigned w128 c.args.a = search rules in
    let b_fits : FitsSigned w128 c.args.b = search rules in
    c.ok.ensures.value ∙ plus_is c.with_product.result c.in_ok-sum.field-0 c.args.a c.args.b (simp to_z-of_z at c.with_product.ensures)
    ∙ ap (λ o. plus_product o c.args.a c.args.b) (sym c.in_ok-sum.was)
