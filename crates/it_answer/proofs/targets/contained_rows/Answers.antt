use Rattle.std.proofs.Common.{◌∙◌, map, ap, sym}
use Rattle.it_canon.specs.QuestionDemands.{terms_in}
use Rattle.it_answer.proofs.TargetLemmas.{contained_rows, no_obligations}
use Rattle.it_answer.proofs.targets.contained_rows.Goals as goal

pub returns-in-Contained : goal.returns-in-Contained
returns-in-Contained c = contained_rows c.args.question.now.body c.args.first.now
    c.args.second.now c.args.tries.now c.requires.contains c.args.answer.now c.in-Contained.parts c.in-Contained.proofs
    c.obligation_rows.result c.in-Contained.is (rw (← c.as_slice.ensures.value) c.obligation_rows.ensures)

pub returns-in_default : goal.returns-in_default
returns-in_default c =
    let q = c.args.question.now.body in
    c.new.ensures.items ∙ sym (ap (map (terms_in q)) (no_obligations q c.args.first.now
    c.args.second.now c.args.tries.now c.requires.contains c.args.answer.now
    (λ parts proofs e. c.in_default.not-Contained parts proofs e)))
