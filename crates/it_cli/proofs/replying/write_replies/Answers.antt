use Rattle.std.proofs.Common.{inr, ap, ◌∙◌}
use Rattle.it_outside.specs.Causes.{next_count}
use Rattle.it_cli.proofs.EachLineLemmas.{all, first_ones, one_more, status_ends, stops}
use Rattle.it_cli.proofs.replying.write_replies.Goals as goal

pub returns-in_default : goal.returns-in_default
returns-in_default g c = (
  c.loop-rest.invariant.1,
  inr (first_ones _ _ _ c.args.bytes.now c.loop-rest.rest.now c.loop-rest.count c.loop-rest.some_invalid c.loop-rest.invariant.0),
)

pub returns-in_default-write_all : goal.returns-in_default-write_all
returns-in_default-write_all g c = (
  c.in_default-write_all.ensures.counted ∙ ap next_count c.loop-rest.invariant.1,
  inr (stops _ _ _ _ c.args.bytes.now c.loop-rest.rest.now c.first_line.result.0.now c.first_line.result.1.now c.loop-rest.count
      c.loop-rest.some_invalid c.in-Ok.reply.invalid c.in-Ok.reply.text.items
      c.as_slice.result.now c.loop-rest.invariant.0 c.first_line.ensures.split c.in-Ok.ensures c.as_slice.ensures.value c.in_default-write_all.ensures.part),
)

pub loop-rest-preserved : goal.loop-rest-preserved
loop-rest-preserved g c = (
  one_more _ _ _ _ c.args.bytes.now c.loop-rest.rest.now c.first_line.result.0.now c.first_line.result.1.now c.loop-rest.count
      c.loop-rest.some_invalid c.in-Ok.reply.invalid c.in-Ok.reply.text.items
      c.as_slice.result.now c.loop-rest.invariant.0 c.first_line.ensures.split c.first_line.ensures.progress c.in-Ok.ensures
      c.as_slice.ensures.value c.in-Ok-write_all.ensures.whole,
  c.in-Ok-write_all.ensures.counted ∙ c.loop-rest.invariant.1,
)

pub returns : goal.returns
returns g c = status_ends _ _ _ _ _ c.args.bytes.now c.loop-rest.some_invalid c.status_after.result c.status_after.ensures c.loop-rest.invariant.1
    (all _ _ _ c.args.bytes.now c.loop-rest.rest.now c.loop-rest.count c.loop-rest.some_invalid c.loop-rest-test.ensures c.loop-rest.invariant.0)
