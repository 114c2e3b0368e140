use Rattle.std.specs.Option.{option_map_or}
use Rattle.std.proofs.Common.{◌+◌, ◌-◌, length, ap, sym, arith, Option}
use Rattle.std.proofs.lemmas.Option.{slice_get-get_or}
use Rattle.it_syntax.specs.declared.types.Token.{Token}
use Rattle.it_syntax.proofs.SpanLemmas.{no_token, in_line_at}
use Rattle.it_syntax.proofs.rest.Rest.column_after.Goals as goal

pub overflow_add-result : goal.overflow_add-result
overflow_add-result c =
    let h = in_line_at c.args.self.line.now c.args.self.tokens.now (length c.args.self.tokens.now - 1) no_token
    (omega (arith, c.in-len1-up.len_at_least)) c.args.self.inside in
    omega (arith, h.1, c.requires)

pub returns-in-len1-up : goal.returns-in-len1-up
returns-in-len1-up c = rw c.in-None.is (ap (λ (o : Option Token). option_map_or (λ (t : Token). t.end) o 0 + 1)
    (sym (slice_get-get_or c.args.self.tokens.now (length c.args.self.tokens.now - 1) no_token (omega (arith, c.in-len1-up.len_at_least)))))
