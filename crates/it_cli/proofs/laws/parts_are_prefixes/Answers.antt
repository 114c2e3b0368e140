use Rattle.it_cli.proofs.PrefixLemmas.{counts_are_prefix, verdicts_are_prefix}
use Rattle.it_cli.proofs.laws.parts_are_prefixes.Goals as goal

pub returns-clause-verdicts : goal.returns-clause-verdicts
returns-clause-verdicts c = verdicts_are_prefix c.each_line_is_judged.ensures

pub returns-clause-counts : goal.returns-clause-counts
returns-clause-counts c = counts_are_prefix
