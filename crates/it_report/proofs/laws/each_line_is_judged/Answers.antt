use Rattle.it_report.proofs.ExistenceLemmas.{each_line_is_judged}
use Rattle.it_report.proofs.laws.each_line_is_judged.Goals as goal

pub returns : goal.returns
returns c = each_line_is_judged
