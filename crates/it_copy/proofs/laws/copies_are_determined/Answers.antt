use Rattle.it_copy.proofs.MisfitLemmas.{extension_or_misfit, one_extension, one_misfit}
use Rattle.it_copy.proofs.laws.copies_are_determined.Goals as goal

pub returns-clause-extension : goal.returns-clause-extension
returns-clause-extension c = one_extension

pub returns-clause-misfit : goal.returns-clause-misfit
returns-clause-misfit c = one_misfit

pub returns-clause-either : goal.returns-clause-either
returns-clause-either c = extension_or_misfit
