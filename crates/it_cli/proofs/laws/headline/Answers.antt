use Rattle.it_cli.proofs.LawLemmas as proof
use Rattle.it_cli.proofs.laws.headline.Goals as goal

pub returns-clause-output : goal.returns-clause-output
returns-clause-output c = proof.headline

pub returns-clause-verdicts : goal.returns-clause-verdicts
returns-clause-verdicts c = proof.verdicts_are_written

pub returns-clause-counts : goal.returns-clause-counts
returns-clause-counts c = proof.counts_are_written
