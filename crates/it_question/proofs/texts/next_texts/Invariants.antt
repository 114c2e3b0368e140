use Rattle.std.proofs.Common.{map}
use Rattle.std.specs.Vec.Iter.{into_iter_items}
use Rattle.it_question.proofs.MovedTexts.{AreMoved}
use Rattle.it_question.proofs.texts.next_texts.Given as goal

abbrev pub invariant-loop : goal.invariant-loop
invariant-loop l = AreMoved l.n l.counter (into_iter_items l.initial.lines) (into_iter_items l.lines) (map (λ v. v.items) l.texts.items)
