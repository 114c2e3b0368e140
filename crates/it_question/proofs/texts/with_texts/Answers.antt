use Rattle.std.specs.Vec.Iter.{into_iter_items}
use Rattle.it_question.specs.Bodies.{body_view}
use Rattle.it_question.specs.Limits.{IsQuestion}
use Rattle.it_question.specs.declared.bodies.Body.{Body}
use Rattle.it_question.proofs.LineCountLemmas.{next_is, others_are, texts_step}
use Rattle.it_question.proofs.texts.with_texts.Goals as goal

abbrev IsLimited : Body → Type 0
IsLimited b = IsQuestion (body_view b)

pub question_line_count-requires : goal.question_line_count-requires
question_line_count-requires c = next_is IsLimited (into_iter_items c.loop-body.left)
    (into_iter_items c.next.new.self) c.in-Some.body c.loop-body.invariant.0 c.in-Some.ensures.items

pub with_source-requires : goal.with_source-requires
with_source-requires c = next_is IsLimited (into_iter_items c.loop-body.left)
    (into_iter_items c.next.new.self) c.in-Some.body c.loop-body.invariant.0 c.in-Some.ensures.items

pub loop-body-preserved : goal.loop-body-preserved
loop-body-preserved c = (
  others_are IsLimited (into_iter_items c.loop-body.left) (into_iter_items c.next.new.self) c.in-Some.body c.loop-body.invariant.0 c.in-Some.ensures.items,
  texts_step c.loop-body.questions.items c.push.new.self.items c.with_source.result (into_iter_items c.loop-body.rest)
      (into_iter_items c.next_texts.new.lines) _ (into_iter_items c.loop-body.left)
      (into_iter_items c.next.new.self) c.in-Some.body c.question_line_count.result _
      c.loop-body.invariant.1 c.in-Some.ensures.items c.in-Ok.ensures.items c.question_line_count.ensures c.in_ok-source.ensures.texts
      c.in_ok-source.ensures.after c.with_source.ensures,
)
