use Rattle.std.proofs.Common.{}
use Rattle.it_forms.proofs.FormFaults.{read_is_said}
use Rattle.it_syntax.specs.GivenLines.{given_line}
use Rattle.it_syntax.specs.Lines.{letters_from}
use Rattle.it_syntax.specs.Givens.{given_view}
use Rattle.it_syntax.specs.Spans.{last_letter}
use Rattle.it_syntax.proofs.SpanLemmas.{in_line_drop}
use Rattle.it_syntax.proofs.LineLemmas.{stop_is_fault}
use Rattle.it_syntax.proofs.GivenLemmas.{given_line_has}
use Rattle.it_syntax.proofs.FormLimits.{given_limited}
use Rattle.it_syntax.proofs.givens.given.Goals as goal

pub invariant_of-rest : goal.invariant_of-rest
invariant_of-rest c = record {
  inside = rw (c.split_at.ensures.back, c.as_slice.ensures.value)
      (in_line_drop c.args.line.now c.args.tokens.now.tokens.items c.args.from c.requires.inside);
}

pub column-requires-clause-within : goal.column-requires-clause-within
column-requires-clause-within c =
    let e = rw (c.in-Err-Fault.field-0-is, c.split_at.ensures.back, c.as_slice.ensures.value) at c.in-Err-Fault.ensures in
    rw c.as_slice.ensures.value (stop_is_fault (given_line c.args.names.now) _
    (given_line_has c.args.names.now) c.args.line.now c.args.tokens.now c.args.from c.given_to_end.new.rest.line.now
    c.given_to_end.new.rest.tokens.now (last_letter c.given_to_end.new.rest.misspelling) c.in-Err-Fault.code e).0

pub returns-in-Ok-clause-read : goal.returns-in-Ok-clause-read
returns-in-Ok-clause-read c =
    let e = rw (c.split_at.ensures.back, c.as_slice.ensures.value) at c.in-Ok.ensures in
    read_is_said (given_line c.args.names.now) _ (given_line_has c.args.names.now)
    (letters_from c.args.line.now c.args.tokens.now c.args.from) (given_view c.in-Ok.given) e

pub returns-in-Ok-clause-limits : goal.returns-in-Ok-clause-limits
returns-in-Ok-clause-limits c = given_limited c.args.names.now _ _ (given_view c.in-Ok.given) c.in-Ok.ensures

pub returns-in-Err-Fault-clause-fault : goal.returns-in-Err-Fault-clause-fault
returns-in-Err-Fault-clause-fault c =
    let e = rw (c.in-Err-Fault.field-0-is, c.split_at.ensures.back, c.as_slice.ensures.value) at c.in-Err-Fault.ensures in
    rw (c.column.ensures, c.as_slice.ensures.value) (stop_is_fault (given_line c.args.names.now) _
    (given_line_has c.args.names.now) c.args.line.now c.args.tokens.now c.args.from c.given_to_end.new.rest.line.now
    c.given_to_end.new.rest.tokens.now (last_letter c.given_to_end.new.rest.misspelling) c.in-Err-Fault.code e).1
