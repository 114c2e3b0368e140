-- The result of the reader of a whole file. No public clause cites it.
use Rattle.std.specs.Prelude.{List, map}
use Rattle.it_question.specs.declared.bodies.Body.{Body}
use Rattle.it_question.specs.Bodies.{body_view}
use Rattle.it_question.specs.Questions.{BodyView}
use Rattle.it_copy.specs.declared.types.CopyLine.{CopyLine}
use Rattle.it_copy.specs.CopyLines.{CopyView, copy_view}

-- copies and questions as contracts see them
abbrev pub file_view : List CopyLine → List Body → List CopyView × List BodyView
file_view copies bodies = (map copy_view copies, map body_view bodies)
