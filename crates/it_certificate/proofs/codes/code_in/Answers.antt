use Rattle.std.proofs.Common.{arith, length, sym, ◌∙◌}
use Rattle.serde_json.specs.View.{view}
use Rattle.it_certificate.proofs.CodeFits.{code_is}
use Rattle.it_certificate.proofs.codes.code_in.Goals as goal

pub invariant_of-code : goal.invariant_of-code
invariant_of-code c = code_is (length c.args.question.now.body.names.variables) (view c.args.value.now) c.in-Some.field c.in-Some-symbols_at.symbols _
    c.space-count.ensures.question.some (omega (arith, c.space-count.ensures.question.few)) (sym c.symbols_at.ensures ∙ c.in-Some-symbols_at.is)
    (rw (c.size.ensures, c.space-count.ensures.counts) at c.in_ok-variables.ensures)
