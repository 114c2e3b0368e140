use Rattle.std.proofs.Common.{length, sym, ◌∙◌, arith}
use Rattle.std.proofs.lemmas.Bool.{eqb-true}
use Rattle.std.proofs.lemmas.List.{nil_from_length}
use Rattle.it_copy.proofs.HeadLemmas.{all_are_left, left_after_line, none_left}
use Rattle.it_copy.proofs.heads.start_after.Goals as goal

pub loop-passed-init : goal.loop-passed-init
loop-passed-init c = (all_are_left c.args.bytes.now, omega arith)

pub returns-then-is_empty-clause-after : goal.returns-then-is_empty-clause-after
returns-then-is_empty-clause-after c =
    none_left c.args.bytes.now c.loop-passed.rest.now c.loop-passed.passed c.args.skipped c.loop-passed.invariant.0
    c.loop-passed.invariant.1 (nil_from_length c.loop-passed.rest.now (eqb-true (length c.loop-passed.rest.now) 0
    (sym c.is_empty.ensures ∙ c.if-is_empty.true)))

pub loop-passed-preserved : goal.loop-passed-preserved
loop-passed-preserved c = (
  left_after_line c.args.bytes.now c.loop-passed.rest.now c.first_line.result.0.now c.first_line.result.1.now c.loop-passed.passed
      c.loop-passed.invariant.0 c.first_line.ensures.split c.first_line.ensures.progress c.first_line.ensures.back,
  omega (arith, c.loop-passed-test.true),
)
