use Rattle.it_report.proofs.JudgingLemmas.{report_is_judged}
use Rattle.it_report.proofs.judging.judge_reported.Goals as goal

pub returns : goal.returns
returns c = report_is_judged (λ j. j.text.items) (λ j. j.invalid) c.args.k c.args.reported.now c.report_line.result c.report_line.ensures
