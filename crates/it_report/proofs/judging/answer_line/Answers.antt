use Rattle.std.proofs.Common.{ap}
use Rattle.it_space.specs.Answers.{answer_view}
use Rattle.it_space.specs.declared.answers.Answer.{Answer}
use Rattle.it_report.specs.Judging.{verdict_of}
use Rattle.it_report.proofs.JudgingLemmas.{skipped_is_told}
use Rattle.it_report.proofs.judging.answer_line.Goals as goal

pub returns-in-Undecided : goal.returns-in-Undecided
returns-in-Undecided c =
    let q = c.args.question.now.body in
    skipped_is_told (λ j. j.text.items) (λ j. j.invalid) c.args.k q (answer_view c.args.answer.now) c.skipped_line.result
    (ap (λ (a : Answer). verdict_of q (answer_view a)) c.in-Undecided.is) c.skipped_line.ensures

pub returns-in-Region : goal.returns-in-Region
returns-in-Region c =
    let q = c.args.question.now.body in
    skipped_is_told (λ j. j.text.items) (λ j. j.invalid) c.args.k q (answer_view c.args.answer.now) c.skipped_line-in-Region.result
    (ap (λ (a : Answer). verdict_of q (answer_view a)) c.in-Region.is) c.skipped_line-in-Region.ensures

pub returns-in-Open : goal.returns-in-Open
returns-in-Open c =
    let q = c.args.question.now.body in
    skipped_is_told (λ j. j.text.items) (λ j. j.invalid) c.args.k q (answer_view c.args.answer.now) c.skipped_line-in-Open.result
    (ap (λ (a : Answer). verdict_of q (answer_view a)) c.in-Open.is) c.skipped_line-in-Open.ensures
