use Rattle.std.proofs.Common.{[], ◌∷◌, ◌++◌, map, inr, ap, refl, arith, ◌∙◌}
use Rattle.it_outside.specs.Causes.{next_count}
use Rattle.it_copy.specs.CopyLines.{copy_view}
use Rattle.it_cli.specs.Copies.{with_copies}
use Rattle.it_cli.specs.InnerEnds.{request_mode}
use Rattle.it_cli.proofs.CopyLemmas.{item_at, items_long}
use Rattle.it_cli.proofs.ReplyLemmas.{all_replied, first_replied, none_replied, replies_more, replies_stop}
use Rattle.it_cli.proofs.heads.reply_all.Goals as goal

pub loop-i-init : goal.loop-i-init
loop-i-init g c = (([], none_replied (request_mode c.args.wanted c.args.request) _ _), refl)

pub returns-in_default : goal.returns-in_default
returns-in_default g c bytes asked = (
  c.loop-i.invariant.1,
  inr (first_replied
      (request_mode c.args.wanted c.args.request) _ _ bytes _ c.loop-i.i c.loop-i.invariant.0.0 asked c.loop-i.invariant.0.1),
)

pub returns-in_default-write_all : goal.returns-in_default-write_all
returns-in_default-write_all g c bytes asked =
    let cs = map copy_view c.args.copies.now in (
      c.in_default-write_all.ensures.counted ∙ ap next_count c.loop-i.invariant.1,
      inr (replies_stop (request_mode c.args.wanted c.args.request) _ _ _ bytes
          (map (with_copies cs) c.args.questions.now) c.loop-i.i c.loop-i.invariant.0.0
          (with_copies cs c.index-questions-i.result) c.in-Ok.ensures.reply c.in-Ok.text.items c.as_slice.result.now asked
          c.loop-i.invariant.0.1
          (omega (arith, items_long cs c.args.questions.now)) (item_at cs c.args.questions.now c.loop-i.i c.index-questions-i.result
          (omega arith) c.index-questions-i.is) c.in-Ok.ensures.right c.in-Ok.ensures.is c.as_slice.ensures.value
          c.in_default-write_all.ensures.part),
    )

pub loop-i-preserved : goal.loop-i-preserved
loop-i-preserved g c =
    let cs = map copy_view c.args.copies.now in (
      (
        c.loop-i.invariant.0.0 ++ c.in-Ok.ensures.reply ∷ [],
        replies_more (request_mode c.args.wanted c.args.request) _ _ _
            (map (with_copies cs) c.args.questions.now) c.loop-i.i c.loop-i.invariant.0.0
            (with_copies cs c.index-questions-i.result) c.in-Ok.ensures.reply c.in-Ok.text.items c.as_slice.result.now
            c.loop-i.invariant.0.1
            (omega (arith, items_long cs c.args.questions.now)) (item_at cs c.args.questions.now c.loop-i.i c.index-questions-i.result
            (omega arith) c.index-questions-i.is) c.in-Ok.ensures.right c.in-Ok.ensures.is c.as_slice.ensures.value
            c.in-Ok-write_all.ensures.whole,
      ),
      c.in-Ok-write_all.ensures.counted ∙ c.loop-i.invariant.1,
    )

pub returns : goal.returns
returns g c bytes asked = (
  c.loop-i.invariant.1,
  all_replied (request_mode c.args.wanted c.args.request) _ _ bytes _ c.loop-i.i
      c.loop-i.invariant.0.0 asked c.loop-i.invariant.0.1 (omega (arith, items_long (map copy_view c.args.copies.now) c.args.questions.now)),
)
