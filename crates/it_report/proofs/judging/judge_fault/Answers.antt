use Rattle.it_report.proofs.JudgingLemmas.{fault_is_invalid, fault_is_judged}
use Rattle.it_report.proofs.judging.judge_fault.Goals as goal

pub returns : goal.returns
returns c = record {
  line = fault_is_judged (λ j. j.text.items) (λ j. j.invalid) c.args.k c.args.fault c.fault_line.result c.fault_line.ensures;
  invalid = fault_is_invalid (λ j. j.text.items) (λ j. j.invalid) c.args.k c.args.fault c.fault_line.result c.fault_line.ensures;
}
