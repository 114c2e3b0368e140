use Rattle.std.proofs.Common.{ℕ, List, arith, subst}
use Rattle.it_syntax.specs.Spans.{InLine}
use Rattle.it_question.proofs.FileLineLemmas.{plain_shorter}
use Rattle.it_question.proofs.lines.line_of.Goals as goal

pub line_tokens-requires : goal.line_tokens-requires
line_tokens-requires c = rw (c.as_slice.ensures.value, c.in_ok-text.ensures) (omega (arith, plain_shorter c.args.bytes.now, c.requires))

pub invariant_of-result-clause-short : goal.invariant_of-result-clause-short
invariant_of-result-clause-short c = rw (c.in_ok-text.ensures) (omega (arith, plain_shorter c.args.bytes.now, c.requires))

pub invariant_of-result-clause-inside : goal.invariant_of-result-clause-inside
invariant_of-result-clause-inside c = subst (λ (t : List ℕ). InLine t c.in_ok-tokens.tokens.tokens.items) c.as_slice.ensures.value c.in_ok-tokens.ensures.inside
