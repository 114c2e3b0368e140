use Rattle.std.proofs.Common.{Ok, Err}
use Rattle.it_report.proofs.JudgingLemmas.{judged_as_read}
use Rattle.it_report.proofs.judging.judge.Goals as goal

pub returns-in-Ok : goal.returns-in-Ok
returns-in-Ok c = judged_as_read (λ j. j.text.items) (λ j. j.invalid) c.args.k c.args.limits c.args.line.now (Ok c.in-Ok.reported) c.judge_reported.result
    c.in-Ok.ensures.reading c.judge_reported.ensures

pub returns-in-Err : goal.returns-in-Err
returns-in-Err c = judged_as_read (λ j. j.text.items) (λ j. j.invalid) c.args.k c.args.limits c.args.line.now (Err c.in-Err.fault) c.judge_fault.result
    c.in-Err.ensures.reading c.judge_fault.ensures.line
