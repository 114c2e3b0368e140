use Rattle.std.proofs.Common.{◌-◌, List, length, subst, sym, arith}
use Rattle.it_syntax.specs.declared.types.Token.{Token}
use Rattle.it_syntax.specs.Spans.{InLine}
use Rattle.it_syntax.proofs.SpanLemmas.{no_token, in_line_at, in_line_drop}
use Rattle.it_syntax.proofs.rest.Rest.column.Goals as goal

pub overflow_add-result : goal.overflow_add-result
overflow_add-result c =
    let inside = subst (λ (ts : List Token). InLine c.args.self.line.now ts) (sym c.split_at.ensures.back)
    (in_line_drop c.args.self.line.now c.args.self.tokens.now (length c.args.self.tokens.now - c.args.left) c.args.self.inside) in
    let h = in_line_at c.args.self.line.now c.split_at.result.1.now 0 no_token (omega (arith, c.in-len1-up.len_at_least)) inside in
    omega (arith, h.0, h.1, c.requires.short)
