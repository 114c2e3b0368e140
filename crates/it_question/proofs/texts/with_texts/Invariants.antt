use Rattle.std.proofs.Common.{◌≡◌, ◌++◌, map, All}
use Rattle.std.specs.Vec.Iter.{into_iter_items, into_iter_len}
use Rattle.it_question.specs.Bodies.{body_view}
use Rattle.it_question.specs.Cursors.{line_view}
use Rattle.it_question.specs.Limits.{IsQuestion}
use Rattle.it_question.specs.Texts.{with_texts}
use Rattle.it_question.proofs.texts.with_texts.Given as goal

abbrev pub invariant-loop-body : goal.invariant-loop-body
invariant-loop-body l = All (λ b. IsQuestion (body_view b)) (into_iter_items l.left)
    × (l.questions.items ++ with_texts (map line_view (into_iter_items l.rest)) (map body_view (into_iter_items l.left))
    ≡ with_texts (map line_view l.fn.lines.items) (map body_view l.fn.bodies.items))

abbrev pub decreases-loop-body : goal.decreases-loop-body
decreases-loop-body l = into_iter_len l.left
