use Rattle.std.proofs.lemmas.Result.{on_ok_weaker}
use Rattle.it_question.specs.ProblemLines.{problem_names}
use Rattle.it_tell.proofs.DetailLemmas.{point_appended}
use Rattle.it_tell.proofs.details.write_point.Goals as goal

pub returns : goal.returns
returns c = on_ok_weaker c.write_indented.result
    (point_appended (problem_names c.args.question.now.body) c.args.point.now c.args.out.now.items c.write_indented.new.out.items
    c.in_ok-text.text.items c.in_ok-text.ensures)
    (rw c.as_slice.ensures.value at c.write_indented.ensures)
